-- What the questions share: what a test finds, and the roles of a witness. Assumes nothing.
use Rattle.std.proofs.Common.{◌≡◌, ℕ, ◌<◌, Bool, true, false, cond, List, [], ◌∷◌, Some, None, Option, refl, inl, inr, arith}
use Rattle.std.proofs.lemmas.Bool.{both_ways}
use Rattle.policy.specs.declared.tables.Tables.{Tables}
use Rattle.policy.specs.Entries.{inherits}
use Rattle.policy.specs.Seniority.{Senior}
use Rattle.policy.specs.Verdicts.{Lower}
use Rattle.policy.specs.WellFormed.{WellFormed}
use Rattle.policy.specs.SeniorityLaws.{senior_within}

-- a test that gives an answer, or none
pub when : {A : Type 0} (b : Bool) (x v : A) → cond b (Some x) None ≡ Some v → (b ≡ true) × (x ≡ v)
when true x v e = (refl, cc)
when false x v e = absurd (let z : ◌≡◌ {A = ℕ} 0 1 = cc in omega arith)

pub unless : {A : Type 0} (b : Bool) (x : A) → cond b (Some x) None ≡ None → b ≡ true → ⊥
unless true x e h = let z : ◌≡◌ {A = ℕ} 0 1 = cc in omega arith
unless false x e h = both_ways false refl h

pub when_some : {A : Type 0} (b : Bool) (o : Option A) (v : A) → cond b o None ≡ Some v
    → (b ≡ true) × (o ≡ Some v)
when_some true o v e = (refl, e)
when_some false o v e = absurd (let z : ◌≡◌ {A = ℕ} 0 1 = cc in omega arith)

pub when_none : {A : Type 0} (b : Bool) (o : Option A) → cond b o None ≡ None → b ≡ true → o ≡ None
when_none true o e h = e
when_none false o e h = absurd (both_ways false refl h)

-- no names are lower than themselves
pub never_lower : (xs : List ℕ) → Lower xs xs → ⊥
never_lower [] s = s
never_lower (x ∷ xs) s = elim s [ inl l ↦ omega arith | inr q ↦ never_lower xs q.1 ]

module _ (t : Tables) (w : WellFormed t) where
  -- roles of the policy are below 32
  pub few : {a : ℕ} → a < t.sizes.roles → a < 32
  few l = omega (arith, w.roles_sized.1)

  pub both_below : {a b : ℕ} → (a ≡ b → ⊥) → Senior (inherits t) a b
      → (a < t.sizes.roles) × (b < t.sizes.roles)
  both_below ne p = elim (senior_within w.juniors_within p) [ inl e ↦ absurd (ne e) | inr q ↦ q ]

  pub senior_below : {a b : ℕ} → b < t.sizes.roles → Senior (inherits t) a b → a < t.sizes.roles
  senior_below l p = elim (senior_within w.juniors_within p) [ inl e ↦ omega arith | inr q ↦ q.0 ]
