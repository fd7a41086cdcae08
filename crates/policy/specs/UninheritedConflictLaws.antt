-- What is found of the static conflicts that a senior lacks is right. Assumes nothing.
use Rattle.std.proofs.Common.{◌≡◌, ℕ, ◌<◌, true, not, ◌&&◌, List, [], ◌∷◌, Some, None, Option, refl, ap, ◌∙◌, subst, inl, inr, arith}
use Rattle.std.proofs.lemmas.Bool.{and_parts, and_from, not-true, not_from_false}
use Rattle.sets.specs.First.{first_of}
use Rattle.sets.specs.Aliases.{RoleSet}
use Rattle.sets.specs.FirstLaws.{Found, found, all_none}
use Rattle.policy.specs.declared.tables.Tables.{Tables}
use Rattle.policy.specs.declared.verdict.Failure.{Failure}
use Rattle.policy.specs.declared.verdict.Failure.TheVariants.{UninheritedConflict}
use Rattle.policy.specs.Entries.{holds, ssd_pair}
use Rattle.policy.specs.Questions.{Witness, IsLowest, NoUninheritedConflict}
use Rattle.policy.specs.Search.{IsAnswered, is_uninherited_conflict, uninherited_conflict_at, lowest_uninherited_conflict, uninherited_conflict_question}
use Rattle.policy.specs.Seniority.{TellsSeniority}
use Rattle.policy.specs.Verdicts.{Lower, failure_number, failure_names}
use Rattle.policy.specs.WellFormed.{WellFormed}
use Rattle.policy.specs.SearchLaws.{when, unless, never_lower, few, senior_below}

module _ (t : Tables) (w : WellFormed t) (rows : List RoleSet)
    (tells : TellsSeniority t.hierarchy.juniors rows) where
  refuted : (a b c : ℕ) → uninherited_conflict_at rows t a b c ≡ None
      → Witness t (UninheritedConflict a b c) → ⊥
  refuted a b c e (p, q, r) =
      unless (is_uninherited_conflict rows t a b c) (UninheritedConflict a b c) e
      (and_from (holds rows a b) _
      (tells.senior_held a b (few t w (senior_below t w (w.ssd.within b c q).0 p)) p)
      (and_from (ssd_pair t b c) (not (ssd_pair t a c)) q (not_from_false (ssd_pair t a c) r)))

  inside : (a b c : ℕ) → Witness t (UninheritedConflict a b c)
      → (a < t.sizes.roles) × (b < t.sizes.roles) × (c < t.sizes.roles)
  inside a b c (p, q, r) = let i = w.ssd.within b c q in (senior_below t w i.0 p, i.0, i.1)

  none : lowest_uninherited_conflict rows t ≡ None → NoUninheritedConflict t
  none e a b c x =
      let n : ℕ = t.sizes.roles in
      let at : ℕ → ℕ → ℕ → Option Failure = uninherited_conflict_at rows t in
      let i = inside a b c x in
      let from : first_of n (λ j. first_of n (at a j)) ≡ None =
      all_none n (λ k. first_of n (λ j. first_of n (at k j))) e a i.0 in
      refuted a b c (all_none n (at a b) (all_none n (λ j. first_of n (at a j)) from b i.1) c i.2) x

  lowest : (v : Failure) → lowest_uninherited_conflict rows t ≡ Some v → IsLowest t 13 v
  lowest v e =
      subst (IsLowest t 13) k.1 (record {
        numbered = refl;
        witness = (tells.held_senior f.at g.at p.0, q.0, not-true (ssd_pair t f.at h.at) q.1);
        none_lower = none_lower;
      })
    where
      n : ℕ
      n = t.sizes.roles

      at : ℕ → ℕ → ℕ → Option Failure
      at = uninherited_conflict_at rows t

      f : Found n (λ a. first_of n (λ b. first_of n (at a b))) v
      f = found n (λ a. first_of n (λ b. first_of n (at a b))) v e

      g : Found n (λ b. first_of n (at f.at b)) v
      g = found n (λ b. first_of n (at f.at b)) v f.answers

      h : Found n (at f.at g.at) v
      h = found n (at f.at g.at) v g.answers

      k : (is_uninherited_conflict rows t f.at g.at h.at ≡ true)
          × (UninheritedConflict f.at g.at h.at ≡ v)
      k = when _ (UninheritedConflict f.at g.at h.at) v h.answers

      p : (holds rows f.at g.at ≡ true)
          × ((ssd_pair t g.at h.at && not (ssd_pair t f.at h.at)) ≡ true)
      p = and_parts (holds rows f.at g.at) _ k.0

      q : (ssd_pair t g.at h.at ≡ true) × (not (ssd_pair t f.at h.at) ≡ true)
      q = and_parts (ssd_pair t g.at h.at) (not (ssd_pair t f.at h.at)) p.1

      none_lower : (o : Failure) → failure_number o ≡ 13
          → Lower (failure_names o) (f.at ∷ g.at ∷ h.at ∷ 0 ∷ []) → Witness t o → ⊥
      none_lower (UninheritedConflict x y z) k s u =
          let i = inside x y z u in
          elim s [
            | inl l ↦ refuted x y z (all_none n (at x y)
                (all_none n (λ b. first_of n (at x b)) (f.before x l) y i.1) z i.2) u
            | inr m ↦ elim m.1 [
              | inl l ↦ refuted x y z (all_none n (at x y)
                  (ap (λ a. first_of n (at a y)) m.0 ∙ g.before y l) z i.2) u
              | inr o ↦ elim o.1 [
                | inl l ↦ refuted x y z (ap (λ a. at a y z) m.0 ∙ ap (λ b. at f.at b z) o.0
                    ∙ h.before z l) u
                | inr r ↦ never_lower (0 ∷ []) r.1
              ]
            ]
          ]
      none_lower o k s u = omega arith

  pub uninherited_conflict_answered : IsAnswered t (uninherited_conflict_question rows t)
  uninherited_conflict_answered = record { none = none_numbered; lowest = lowest }
    where
      none_numbered : lowest_uninherited_conflict rows t ≡ None → (f : Failure)
          → failure_number f ≡ 13 → Witness t f → ⊥
      none_numbered e (UninheritedConflict a b c) k x = none e a b c x
      none_numbered e f k x = omega arith
