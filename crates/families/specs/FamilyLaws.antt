-- A family admits an event where none of its questions is violated. It proves, and assumes nothing.
use Rattle.std.specs.Prelude.{◌≡◌, ℕ, ◌<◌, ◌≤◌, Bool, true, false, not, ◌&&◌, is_some, Some, None, Option, ◌⊎◌, ◌==◌, refl}
use Rattle.std.proofs.Common.{sym, ap, ◌∙◌, inl, inr}
use Rattle.std.proofs.lemmas.Bool.{both_ways, cases_Bool, cond_both, cond-false, eqb-true, and_parts, false_from_ne_true}
use Rattle.sets.specs.Sets.{has}
use Rattle.monitor.specs.ChangeLaws.{none_has}
use Rattle.families.specs.Family.{detail, if_any}

pub admitted_none : {X : Type 0} (o : Option X) → not (is_some o) ≡ true → o ≡ None
admitted_none None e = refl
admitted_none (Some x) e = absurd (both_ways false refl e)

pub none_admitted : {X : Type 0} (o : Option X) → o ≡ None → not (is_some o) ≡ true
none_admitted {X} o e = ap (λ (p : Option X). not (is_some p)) e

-- of two tests that do not both pass
pub not_both : (a b : Bool) → (a ≡ true → b ≡ true → ⊥) → (a && b) ≡ false
not_both a b f = false_from_ne_true (a && b) (λ h. let p = and_parts a b h in f p.0 p.1)

-- a number of a family: above that of a grant, and below those of own rules
abbrev pub Named : ℕ → Type 0
Named n = (1 ≤ n) × (n < 100)

pub detail_named : {X : Type 0} (number : X → ℕ) → ((x : X) → Named (number x)) → (o : Option X)
    → not (is_some o) ≡ false → Named (detail number o)
detail_named number each None denied = absurd (both_ways true denied refl)
detail_named number each (Some x) denied = each x

-- questions that are asked where there is something in a set

pub none_if : {X : Type 0} (set : ℕ) (o : Option X) → o ≡ None → if_any set o ≡ None
none_if set o e = cond_both (set == 0) None o (λ r. r ≡ None) (λ _. refl) (λ _. e)

pub asked_if : {X : Type 0} (set : ℕ) (o : Option X) → if_any set o ≡ None → (set ≡ 0) ⊎ (o ≡ None)
asked_if set o e = elim (cases_Bool (set == 0)) [
  | inl h ↦ inl (eqb-true set 0 h)
  | inr h ↦ inr (sym (cond-false (set == 0) None o h) ∙ e)
]

-- nothing is a member of nothing
pub not_zero : {X : Type 0} (set k : ℕ) → set ≡ 0 → has set k ≡ true → X
not_zero set k e h = none_has k (ap (λ m. has m k) (sym e) ∙ h)
