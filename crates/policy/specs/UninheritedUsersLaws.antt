-- What is found of the user conflicts that a senior lacks is right. Assumes nothing.
use Rattle.std.proofs.Common.{◌≡◌, ℕ, ◌<◌, true, false, not, ◌&&◌, List, [], ◌∷◌, Some, None, Option, sym, refl, ap, ◌∙◌, subst, inl, inr, arith}
use Rattle.std.proofs.lemmas.Bool.{cases_order, and_parts, and_from, not-true, not_from_false, both_ways}
use Rattle.sets.specs.First.{first_of}
use Rattle.sets.specs.Aliases.{RoleSet}
use Rattle.sets.specs.FirstLaws.{Found, found, all_none}
use Rattle.policy.specs.declared.tables.Tables.{Tables}
use Rattle.policy.specs.declared.verdict.Failure.{Failure}
use Rattle.policy.specs.declared.verdict.Failure.TheVariants.{UninheritedUserConflict}
use Rattle.policy.specs.Entries.{holds, users_pair}
use Rattle.policy.specs.Questions.{Witness, IsLowest, NoUninheritedUserConflict}
use Rattle.policy.specs.Search.{IsAnswered, uninherited_user_conflict_at, uninherited_users_at, lowest_uninherited_users, uninherited_users_question}
use Rattle.policy.specs.Seniority.{TellsSeniority}
use Rattle.policy.specs.Verdicts.{Lower, failure_number, failure_names}
use Rattle.policy.specs.WellFormed.{WellFormed}
use Rattle.policy.specs.SearchLaws.{when, unless, when_some, when_none, never_lower, few, senior_below}

module _ (t : Tables) (w : WellFormed t) (rows : List RoleSet)
    (tells : TellsSeniority t.hierarchy.juniors rows) where
  refuted : (a b u v : ℕ) → uninherited_user_conflict_at t a b u v ≡ None
      → users_pair t b u v ≡ true → users_pair t a u v ≡ false → ⊥
  refuted a b u v e p q =
      unless (users_pair t b u v && not (users_pair t a u v)) (UninheritedUserConflict a b u v) e
      (and_from (users_pair t b u v) (not (users_pair t a u v)) p
      (not_from_false (users_pair t a u v) q))

  pub record Inside (a b u v : ℕ) : Type 0 where
    pub senior : a < t.sizes.roles
    pub junior : b < t.sizes.roles
    pub first : u < t.sizes.users
    pub second : v < 64
    pub held : holds rows a b ≡ true

  inside : (a b u v : ℕ) → Witness t (UninheritedUserConflict a b u v) → Inside a b u v
  inside a b u v (l, p, q, r) =
      let i = w.activation_conflicts.within (b, u, v) q in
      let la = senior_below t w i.0 p in
      record {
        senior = la;
        junior = i.0;
        first = i.1;
        second = omega (arith, i.2, w.users_sized.1);
        held = tells.senior_held a b (few t w la) p;
      }

  none : lowest_uninherited_users rows t ≡ None → NoUninheritedUserConflict t
  none e a b u v x =
      let n : ℕ = t.sizes.roles in
      let m : ℕ = t.sizes.users in
      let at : ℕ → Option Failure = λ k. first_of 64 (uninherited_user_conflict_at t a b k) in
      let i = inside a b u v x in
      let from = all_none n (λ k. first_of n (uninherited_users_at rows t k)) e a i.senior in
      let here = all_none n (uninherited_users_at rows t a) from b i.junior in
      let each = when_none (holds rows a b) (first_of m at) here i.held in
      refuted a b u v (all_none 64 (uninherited_user_conflict_at t a b u)
      (all_none m at each u i.first) v i.second) x.2 x.3

  lowest : (v : Failure) → lowest_uninherited_users rows t ≡ Some v → IsLowest t 15 v
  lowest v e =
      subst (IsLowest t 15) k.1 (record {
        numbered = refl;
        witness = (apart, tells.held_senior a b c.0, p.0, not-true (users_pair t a f.at g.at) p.1);
        none_lower = none_lower;
      })
    where
      n : ℕ
      n = t.sizes.roles

      m : ℕ
      m = t.sizes.users

      at : ℕ → ℕ → ℕ → Option Failure
      at x y k = first_of 64 (uninherited_user_conflict_at t x y k)

      d : Found n (λ x. first_of n (uninherited_users_at rows t x)) v
      d = found n (λ x. first_of n (uninherited_users_at rows t x)) v e

      a : ℕ
      a = d.at

      j : Found n (uninherited_users_at rows t a) v
      j = found n (uninherited_users_at rows t a) v d.answers

      b : ℕ
      b = j.at

      c : (holds rows a b ≡ true) × (first_of m (at a b) ≡ Some v)
      c = when_some (holds rows a b) (first_of m (at a b)) v j.answers

      f : Found m (at a b) v
      f = found m (at a b) v c.1

      g : Found 64 (uninherited_user_conflict_at t a b f.at) v
      g = found 64 (uninherited_user_conflict_at t a b f.at) v f.answers

      k : ((users_pair t b f.at g.at && not (users_pair t a f.at g.at)) ≡ true)
          × (UninheritedUserConflict a b f.at g.at ≡ v)
      k = when _ (UninheritedUserConflict a b f.at g.at) v g.answers

      p : (users_pair t b f.at g.at ≡ true) × (not (users_pair t a f.at g.at) ≡ true)
      p = and_parts (users_pair t b f.at g.at) _ k.0

      -- the other order would have been found sooner
      apart : f.at < g.at
      apart = elim (cases_order f.at g.at) [
        | inl q ↦ absurd (both_ways (users_pair t b f.at g.at)
            (ap (users_pair t b f.at) (sym q) ∙ w.activation_conflicts.apart b f.at) p.0)
        | inr o ↦ elim o [
          | inl l ↦ l
          | inr l ↦ absurd (refuted a b g.at f.at
              (all_none 64 (uninherited_user_conflict_at t a b g.at) (f.before g.at l) f.at
              (omega (arith, f.within, w.users_sized.1)))
              (w.activation_conflicts.symmetric b g.at f.at ∙ p.0)
              (w.activation_conflicts.symmetric a g.at f.at
              ∙ not-true (users_pair t a f.at g.at) p.1))
        ]
      ]

      none_lower : (o : Failure) → failure_number o ≡ 15
          → Lower (failure_names o) (a ∷ b ∷ f.at ∷ g.at ∷ []) → Witness t o → ⊥
      none_lower (UninheritedUserConflict x y q r) k s u =
          let i = inside x y q r u in
          let last : uninherited_users_at rows t x y ≡ None → ⊥ = λ h.
          refuted x y q r (all_none 64 (uninherited_user_conflict_at t x y q)
          (all_none m (at x y) (when_none (holds rows x y)
          (first_of m (at x y)) h i.held) q i.first) r i.second) u.2 u.3 in
          elim s [
            | inl l ↦ last (all_none n (uninherited_users_at rows t x) (d.before x l) y i.junior)
            | inr o ↦ elim o.1 [
              | inl l ↦ last (ap (λ z. uninherited_users_at rows t z y) o.0 ∙ j.before y l)
              | inr o2 ↦ elim o2.1 [
                | inl l ↦ refuted x y q r
                    (all_none 64 (uninherited_user_conflict_at t x y q)
                    (ap (λ z. at z y q) o.0 ∙ ap (λ z. at a z q) o2.0
                    ∙ f.before q l) r i.second) u.2 u.3
                | inr o3 ↦ elim o3.1 [
                  | inl l ↦ refuted x y q r
                      (ap (λ z. uninherited_user_conflict_at t z y q r) o.0
                      ∙ ap (λ z. uninherited_user_conflict_at t a z q r) o2.0
                      ∙ ap (λ z. uninherited_user_conflict_at t a b z r) o3.0
                      ∙ g.before r l) u.2 u.3
                  | inr o4 ↦ never_lower [] o4.1
                ]
              ]
            ]
          ]
      none_lower o k s u = omega arith

  pub uninherited_users_answered : IsAnswered t (uninherited_users_question rows t)
  uninherited_users_answered = record { none = none_numbered; lowest = lowest }
    where
      none_numbered : lowest_uninherited_users rows t ≡ None → (f : Failure) → failure_number f ≡ 15
          → Witness t f → ⊥
      none_numbered e (UninheritedUserConflict a b u v) k x = none e a b u v x
      none_numbered e f k x = omega arith
