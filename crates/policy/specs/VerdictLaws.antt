-- The verdict is right, as it is of any answered questions whose numbers rise. Assumes nothing.
use Rattle.std.proofs.Common.{◌≡◌, ℕ, suc, ◌<◌, ◌≤◌, ◌⊎◌, List, [], ◌∷◌, Some, None, Option, refl, inl, inr, arith, rules}
use Rattle.std.proofs.lemmas.Bool.{cases_order}
use Rattle.sets.specs.Aliases.{RoleSet}
use Rattle.policy.specs.declared.tables.Tables.{Tables}
use Rattle.policy.specs.declared.verdict.Failure.{Failure}
use Rattle.policy.specs.declared.verdict.Failure.TheVariants.{Cycle}
use Rattle.policy.specs.Questions.{Witness, Vetted}
use Rattle.policy.specs.Search.{Question, IsAnswered, questions, failure_or, first_failure, verdict}
use Rattle.policy.specs.Seniority.{closure, TellsSeniority}
use Rattle.policy.specs.Verdicts.{failure_number}
use Rattle.policy.specs.WellFormed.{WellFormed}
use Rattle.policy.specs.SeniorityLaws.{closure_tells}
use Rattle.policy.specs.CycleLaws.{cycle_answered}
use Rattle.policy.specs.SelfConflictLaws.{self_conflict_answered}
use Rattle.policy.specs.UninheritedConflictLaws.{uninherited_conflict_answered}
use Rattle.policy.specs.BothConflictsLaws.{both_conflicts_answered}
use Rattle.policy.specs.UninheritedUsersLaws.{uninherited_users_answered}
use Rattle.policy.specs.UninheritedAssignmentsLaws.{uninherited_assignments_answered}

-- no failure has the number of a policy that passes
pub failure_has_number : (f : Failure) → failure_number f ≡ 0 → ⊥
failure_has_number (Cycle a b) e = omega arith
failure_has_number f e = omega arith

-- each question of the list is answered
abbrev AllAnswered : Tables → List Question → Type 0
AllAnswered t [] = Unit {0}
AllAnswered t (q ∷ qs) = IsAnswered t q × AllAnswered t qs

-- the numbers rise, from the least on
abbrev IsRising : ℕ → List Question → Type 0
IsRising least [] = Unit {0}
IsRising least (q ∷ qs) = (least ≤ q.number) × IsRising (suc q.number) qs

-- some question has the number
abbrev HasNumber : ℕ → List Question → Type 0
HasNumber n [] = ⊥
HasNumber n (q ∷ qs) = (n ≡ q.number) ⊎ HasNumber n qs

-- no number of the list is below the least
rising_above : (least n : ℕ) (qs : List Question) → IsRising least qs → HasNumber n qs → least ≤ n
rising_above least n [] r h = absurd h
rising_above least n (q ∷ qs) (l, r) h = elim h [
  | inl e ↦ omega arith
  | inr i ↦ let above : suc q.number ≤ n = rising_above (suc q.number) n qs r i in omega arith
]

-- where none of an earlier number has a witness, the first failure that is found is the soonest
soonest : (t : Tables) (least : ℕ) (qs : List Question) → AllAnswered t qs → IsRising least qs
    → ((f : Failure) → (failure_number f < least) ⊎ HasNumber (failure_number f) qs)
    → ((f : Failure) → failure_number f < least → Witness t f → ⊥)
    → Vetted t (first_failure qs)
soonest t least [] a r listed early =
    λ f x. elim (listed f) [ inl l ↦ early f l x | inr h ↦ h ]
soonest t least (q ∷ qs) (answered, a) (l, r) listed early =
    go q.finding refl (λ none. soonest t (suc q.number) qs a r later none)
  where
    -- a failure below this question's number is an earlier one
    below : (f : Failure) → failure_number f < q.number → Witness t f → ⊥
    below f b x = elim (listed f) [
      | inl s ↦ early f s x
      | inr h ↦ elim h [
        | inl e ↦ omega arith
        | inr i ↦ let above : suc q.number ≤ failure_number f =
            rising_above (suc q.number) (failure_number f) qs r i in omega arith
      ]
    ]

    later : (f : Failure) → (failure_number f < suc q.number) ⊎ HasNumber (failure_number f) qs
    later f = elim (listed f) [
      | inl s ↦ inl (omega arith)
      | inr h ↦ elim h [ inl e ↦ inl (omega arith) | inr i ↦ inr i ]
    ]

    -- nothing found leaves none with a number up to this question's
    none_to : q.finding ≡ None → (f : Failure) → failure_number f < suc q.number → Witness t f → ⊥
    none_to e f b x = elim (cases_order (failure_number f) q.number) [
      | inl k ↦ answered.none e f k x
      | inr o ↦ elim o [ inl s ↦ below f s x | inr s ↦ omega arith ]
    ]

    go : (o : Option Failure) → q.finding ≡ o
        → (((f : Failure) → failure_number f < suc q.number → Witness t f → ⊥)
        → Vetted t (first_failure qs))
        → Vetted t (failure_or o (first_failure qs))
    go None e rest = rest (none_to e)
    go (Some f) e rest =
        let this = answered.lowest f e in (
          this.witness,
          λ g s x. elim s [
            | inl b ↦ below g (omega (arith, this.numbered)) x
            | inr p ↦ this.none_lower g (omega (arith, this.numbered, p.0)) p.1 x
          ],
        )

-- the questions of a policy, one line for each
pub questions_right : (t : Tables) (w : WellFormed t) (rows : List RoleSet)
    → TellsSeniority t.hierarchy.juniors rows → Vetted t (first_failure (questions rows t))
questions_right t w rows tells =
    soonest t 0 (questions rows t) answered rising listed (λ f l. omega arith)
  where
    answered : AllAnswered t (questions rows t)
    answered = search (
      cycle_answered t w rows tells,
      self_conflict_answered t w,
      uninherited_conflict_answered t w rows tells,
      both_conflicts_answered t w,
      uninherited_users_answered t w rows tells,
      uninherited_assignments_answered t w rows tells,
    )

    rising : IsRising 0 (questions rows t)
    rising = search arith

    listed : (f : Failure) → (failure_number f < 0)
        ⊎ HasNumber (failure_number f) (questions rows t)
    listed (Cycle a b) = search rules
    listed f = search rules

-- the verdict on well-formed tables
pub verdict_right : (t : Tables) → WellFormed t → Vetted t (verdict t)
verdict_right t w =
    questions_right t w (closure t.hierarchy.juniors)
    (closure_tells t.hierarchy.juniors t.sizes.roles w.roles_sized.1 w.juniors_within)
