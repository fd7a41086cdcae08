-- What is found of the pairs in both kinds of conflict is right. Assumes nothing.
use Rattle.std.proofs.Common.{◌≡◌, ℕ, ◌<◌, true, ◌&&◌, [], ◌∷◌, Some, None, refl, ap, ◌∙◌, subst, inl, inr, arith}
use Rattle.std.proofs.lemmas.Bool.{and_parts, and_from}
use Rattle.sets.specs.First.{first_of}
use Rattle.sets.specs.FirstLaws.{Found, found, all_none}
use Rattle.policy.specs.declared.tables.Tables.{Tables}
use Rattle.policy.specs.declared.verdict.Failure.{Failure}
use Rattle.policy.specs.declared.verdict.Failure.TheVariants.{BothConflicts}
use Rattle.policy.specs.Entries.{ssd_pair, dsd_pair}
use Rattle.policy.specs.Questions.{Witness, IsLowest, NoBothConflicts}
use Rattle.policy.specs.Search.{IsAnswered, both_conflicts_at, lowest_both_conflicts, both_conflicts_question}
use Rattle.policy.specs.Verdicts.{Lower, failure_number, failure_names}
use Rattle.policy.specs.WellFormed.{WellFormed}
use Rattle.policy.specs.SearchLaws.{when, unless, never_lower, few}

module _ (t : Tables) (w : WellFormed t) where
  refuted : (a b : ℕ) → both_conflicts_at t a b ≡ None → Witness t (BothConflicts a b) → ⊥
  refuted a b e (p, q) =
      unless (ssd_pair t a b && dsd_pair t a b) (BothConflicts a b) e
      (and_from (ssd_pair t a b) (dsd_pair t a b) p q)

  inside : (a b : ℕ) → Witness t (BothConflicts a b) → (a < t.sizes.roles) × (b < 32)
  inside a b (p, q) = let i = w.ssd.within a b p in (i.0, few t w i.1)

  none : lowest_both_conflicts t ≡ None → NoBothConflicts t
  none e a b x =
      let i = inside a b x in
      let from : first_of 32 (both_conflicts_at t a) ≡ None =
      all_none t.sizes.roles (λ c. first_of 32 (both_conflicts_at t c)) e a i.0 in
      refuted a b (all_none 32 (both_conflicts_at t a) from b i.1) x

  lowest : (v : Failure) → lowest_both_conflicts t ≡ Some v → IsLowest t 14 v
  lowest v e =
      subst (IsLowest t 14) h.1 (record {
        numbered = refl;
        witness = and_parts (ssd_pair t f.at g.at) _ h.0;
        none_lower = none_lower;
      })
    where
      f : Found t.sizes.roles (λ a. first_of 32 (both_conflicts_at t a)) v
      f = found t.sizes.roles (λ a. first_of 32 (both_conflicts_at t a)) v e

      g : Found 32 (both_conflicts_at t f.at) v
      g = found 32 (both_conflicts_at t f.at) v f.answers

      h : ((ssd_pair t f.at g.at && dsd_pair t f.at g.at) ≡ true) × (BothConflicts f.at g.at ≡ v)
      h = when _ (BothConflicts f.at g.at) v g.answers

      none_lower : (o : Failure) → failure_number o ≡ 14
          → Lower (failure_names o) (f.at ∷ g.at ∷ 0 ∷ 0 ∷ []) → Witness t o → ⊥
      none_lower (BothConflicts x y) k s z = elim s [
        | inl l ↦ refuted x y (all_none 32 (both_conflicts_at t x) (f.before x l) y
            (inside x y z).1) z
        | inr m ↦ elim m.1 [
          | inl l ↦ refuted x y (ap (λ i. both_conflicts_at t i y) m.0 ∙ g.before y l) z
          | inr o ↦ never_lower (0 ∷ 0 ∷ []) o.1
        ]
      ]
      none_lower o k s z = omega arith

  pub both_conflicts_answered : IsAnswered t (both_conflicts_question t)
  both_conflicts_answered = record { none = none_numbered; lowest = lowest }
    where
      none_numbered : lowest_both_conflicts t ≡ None → (f : Failure) → failure_number f ≡ 14
          → Witness t f → ⊥
      none_numbered e (BothConflicts a b) k x = none e a b x
      none_numbered e f k x = omega arith
