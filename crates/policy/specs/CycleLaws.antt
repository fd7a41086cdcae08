-- What is found of the roles that are each senior to the other is right. Assumes nothing.
use Rattle.std.proofs.Common.{◌≡◌, ℕ, ◌<◌, true, ◌&&◌, ltb, List, [], ◌∷◌, Some, None, refl, ap, ◌∙◌, subst, inl, inr, arith}
use Rattle.std.proofs.lemmas.Bool.{ltb-true, lt-ltb, and_parts, and_from}
use Rattle.sets.specs.First.{first_of}
use Rattle.sets.specs.Aliases.{RoleSet}
use Rattle.sets.specs.FirstLaws.{Found, found, all_none}
use Rattle.policy.specs.declared.tables.Tables.{Tables}
use Rattle.policy.specs.declared.verdict.Failure.{Failure}
use Rattle.policy.specs.declared.verdict.Failure.TheVariants.{Cycle}
use Rattle.policy.specs.Entries.{holds}
use Rattle.policy.specs.Questions.{Witness, IsLowest, NoCycle}
use Rattle.policy.specs.Search.{IsAnswered, cycle_at, lowest_cycle, cycle_question}
use Rattle.policy.specs.Seniority.{TellsSeniority}
use Rattle.policy.specs.Verdicts.{Lower, failure_number, failure_names}
use Rattle.policy.specs.WellFormed.{WellFormed}
use Rattle.policy.specs.SearchLaws.{when, unless, never_lower, few, both_below}

module _ (t : Tables) (w : WellFormed t) (rows : List RoleSet)
    (tells : TellsSeniority t.hierarchy.juniors rows) where
  refuted : (a b : ℕ) → cycle_at rows a b ≡ None → Witness t (Cycle a b) → ⊥
  refuted a b e (l, p, q) =
      let la = both_below t w (λ x. omega arith) p in
      unless (ltb a b && (holds rows a b && holds rows b a)) (Cycle a b) e
      (and_from (ltb a b) _ (lt-ltb a b l) (and_from (holds rows a b) (holds rows b a)
      (tells.senior_held a b (few t w la.0) p) (tells.senior_held b a (few t w la.1) q)))

  inside : (a b : ℕ) → Witness t (Cycle a b) → (a < t.sizes.roles) × (b < t.sizes.roles)
  inside a b (l, p, q) = both_below t w (λ x. omega arith) p

  none : lowest_cycle rows t ≡ None → NoCycle t
  none e a b x =
      let n : ℕ = t.sizes.roles in
      let i = inside a b x in
      refuted a b (all_none n (cycle_at rows a)
      (all_none n (λ c. first_of n (cycle_at rows c)) e a i.0) b i.1) x

  lowest : (v : Failure) → lowest_cycle rows t ≡ Some v → IsLowest t 11 v
  lowest v e =
      subst (IsLowest t 11) h.1 (record {
        numbered = refl;
        witness = (
          ltb-true f.at g.at p.0,
          tells.held_senior f.at g.at q.0,
          tells.held_senior g.at f.at q.1,
        );
        none_lower = none_lower;
      })
    where
      n : ℕ
      n = t.sizes.roles

      f : Found n (λ a. first_of n (cycle_at rows a)) v
      f = found n (λ a. first_of n (cycle_at rows a)) v e

      g : Found n (cycle_at rows f.at) v
      g = found n (cycle_at rows f.at) v f.answers

      h : ((ltb f.at g.at && (holds rows f.at g.at && holds rows g.at f.at)) ≡ true)
          × (Cycle f.at g.at ≡ v)
      h = when _ (Cycle f.at g.at) v g.answers

      p : (ltb f.at g.at ≡ true) × ((holds rows f.at g.at && holds rows g.at f.at) ≡ true)
      p = and_parts (ltb f.at g.at) _ h.0

      q : (holds rows f.at g.at ≡ true) × (holds rows g.at f.at ≡ true)
      q = and_parts (holds rows f.at g.at) (holds rows g.at f.at) p.1

      none_lower : (o : Failure) → failure_number o ≡ 11
          → Lower (failure_names o) (f.at ∷ g.at ∷ 0 ∷ 0 ∷ []) → Witness t o → ⊥
      none_lower (Cycle x y) k s z = elim s [
        | inl l ↦ refuted x y (all_none n (cycle_at rows x) (f.before x l) y (inside x y z).1) z
        | inr m ↦ elim m.1 [
          | inl l ↦ refuted x y (ap (λ i. cycle_at rows i y) m.0 ∙ g.before y l) z
          | inr o ↦ never_lower (0 ∷ 0 ∷ []) o.1
        ]
      ]
      none_lower o k s z = omega arith

  pub cycle_answered : IsAnswered t (cycle_question rows t)
  cycle_answered = record { none = none_numbered; lowest = lowest }
    where
      none_numbered : lowest_cycle rows t ≡ None → (f : Failure) → failure_number f ≡ 11
          → Witness t f → ⊥
      none_numbered e (Cycle a b) k x = none e a b x
      none_numbered e f k x = omega arith
