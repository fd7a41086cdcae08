-- What is found of the roles in conflict with themselves is right. Assumes nothing.
use Rattle.std.proofs.Common.{◌≡◌, ℕ, ◌<◌, true, ◌||◌, [], ◌∷◌, Some, None, refl, subst, inl, inr, arith}
use Rattle.std.proofs.lemmas.Bool.{or_cases, or_left, or_right}
use Rattle.sets.specs.FirstLaws.{Found, found, all_none}
use Rattle.policy.specs.declared.tables.Tables.{Tables}
use Rattle.policy.specs.declared.verdict.Failure.{Failure}
use Rattle.policy.specs.declared.verdict.Failure.TheVariants.{SelfConflict}
use Rattle.policy.specs.Entries.{ssd_pair, dsd_pair}
use Rattle.policy.specs.Questions.{Witness, IsLowest, NoSelfConflict}
use Rattle.policy.specs.Search.{IsAnswered, self_conflict_at, lowest_self_conflict, self_conflict_question}
use Rattle.policy.specs.Verdicts.{Lower, failure_number, failure_names}
use Rattle.policy.specs.WellFormed.{WellFormed}
use Rattle.policy.specs.SearchLaws.{when, unless, never_lower}

module _ (t : Tables) (w : WellFormed t) where
  refuted : (a : ℕ) → self_conflict_at t a ≡ None → Witness t (SelfConflict a) → ⊥
  refuted a e x =
      unless (ssd_pair t a a || dsd_pair t a a) (SelfConflict a) e
      (elim x [
        | inl h ↦ or_left (ssd_pair t a a) (dsd_pair t a a) h
        | inr h ↦ or_right (ssd_pair t a a) (dsd_pair t a a) h
      ])

  inside : (a : ℕ) → Witness t (SelfConflict a) → a < t.sizes.roles
  inside a x = elim x [ inl h ↦ (w.ssd.within a a h).0 | inr h ↦ (w.dsd.within a a h).0 ]

  none : lowest_self_conflict t ≡ None → NoSelfConflict t
  none e a x = refuted a (all_none t.sizes.roles (self_conflict_at t) e a (inside a x)) x

  lowest : (v : Failure) → lowest_self_conflict t ≡ Some v → IsLowest t 12 v
  lowest v e =
      subst (IsLowest t 12) h.1 (record {
        numbered = refl;
        witness = or_cases (ssd_pair t f.at f.at) _ h.0;
        none_lower = none_lower;
      })
    where
      f : Found t.sizes.roles (self_conflict_at t) v
      f = found t.sizes.roles (self_conflict_at t) v e

      h : ((ssd_pair t f.at f.at || dsd_pair t f.at f.at) ≡ true) × (SelfConflict f.at ≡ v)
      h = when _ (SelfConflict f.at) v f.answers

      none_lower : (o : Failure) → failure_number o ≡ 12
          → Lower (failure_names o) (f.at ∷ 0 ∷ 0 ∷ 0 ∷ []) → Witness t o → ⊥
      none_lower (SelfConflict x) k s z =
          elim s [ inl l ↦ refuted x (f.before x l) z | inr m ↦ never_lower (0 ∷ 0 ∷ 0 ∷ []) m.1 ]
      none_lower o k s z = omega arith

  pub self_conflict_answered : IsAnswered t (self_conflict_question t)
  self_conflict_answered = record { none = none_numbered; lowest = lowest }
    where
      none_numbered : lowest_self_conflict t ≡ None → (f : Failure) → failure_number f ≡ 12
          → Witness t f → ⊥
      none_numbered e (SelfConflict a) k x = none e a x
      none_numbered e f k x = omega arith
