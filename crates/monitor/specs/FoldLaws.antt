-- What `fold` gives over a chain of which it is known what list it yields, and where it gathers
-- members. It proves, for the crates above, and assumes nothing.
use Rattle.std.proofs.Common.{◌≡◌, ℕ, List, [], ◌∷◌, Option, sym, refl, ap, ◌∙◌, arith}
use Rattle.std.proofs.lemmas.Nat.Bits.{bit_at_or, bit_at-zero, same_from_bits}
use Rattle.std.proofs.lemmas.Fn.{fold_over}
use Rattle.std.proofs.lemmas.Iterator.{YieldsList}
use Rattle.std.proofs.lemmas.List.Sums.{fold-append}
use Rattle.std.specs.Fn.{Called}
use Rattle.std.specs.Iterator.{Drains}
use Rattle.std.specs.List.{fold, FoldsTo}
use denote.Param.Members.{Mut}
use Rattle.sets.specs.Aliases.{RoleSet}
use Rattle.sets.specs.Sets.{union}
use Rattle.policy.specs.Entries.{no_roles}
use Rattle.policy.specs.RowsUnionLaws.{with_none}

pub folded : {S A B C F : Type 0} {steps : S → Option A → S → Type 0} {v : A → B}
    {g : Mut F (C × (A × Unit {0})) C} {f : F} {s : S} {all : List B}
    (step : C → B → C) (init r : C)
    → (xs : List A) × (f' : F) × Drains steps s xs
    × FoldsTo {P = F × C} (λ p x q. Called g p.0 (p.1, (x, tt)) q.1 q.0) (f, init) xs (f', r)
    → YieldsList steps v s all
    → ((a : C) (x : A) (b : C) (f' : F) → Called g f (a, (x, tt)) b f'
    → (b ≡ step a (v x)) × (f' ≡ f))
    → r ≡ fold step init all
folded {B = B} {C = C} {steps = steps} {v = v} {g = g} {f = f} {s = s} {all = all} step init r ran
    road each =
    fold_over steps v g (λ (ys : List B) (a : C). a ≡ fold step init ys) f
    (λ ys a x b f' j k.
    let e = each a x b f' k in
    (e.0 ∙ ap (λ (z : C). step z (v x)) j ∙ sym (fold-append step init ys (v x ∷ [])), e.1))
    s all init r road.runs refl ran

regroup : (a b c : ℕ) → union a (union b c) ≡ union (union b a) c
unfolding union
regroup a b c =
    same_from_bits _ _
    (λ i. omega (
      arith,
      bit_at_or a (union b c) i,
      bit_at_or b c i,
      bit_at_or (union b a) c i,
      bit_at_or b a i,
    ))

pub none_with : (a : ℕ) → union 0 a ≡ a
unfolding union
none_with a = same_from_bits _ _ (λ i. omega (arith, bit_at_or 0 a i, bit_at-zero i))

pub union_assoc : (a b c : ℕ) → union (union a b) c ≡ union a (union b c)
unfolding union
union_assoc a b c =
    same_from_bits _ _
    (λ i. omega (
      arith,
      bit_at_or (union a b) c i,
      bit_at_or a b i,
      bit_at_or a (union b c) i,
      bit_at_or b c i,
    ))

-- the members of a list's items, added one item after the other
abbrev pub with_items : {A : Type 0} → (A → ℕ) → RoleSet → A → RoleSet
with_items n all x = record { bits = union (n x) all.bits }

gathers_onto : {A : Type 0} (n : A → ℕ) (all : List A → ℕ) → all [] ≡ 0
    → ((x : A) (xs : List A) → all (x ∷ xs) ≡ union (n x) (all xs))
    → (xs : List A) (s : RoleSet) → (fold (with_items n) s xs).bits ≡ union (all xs) s.bits
gathers_onto n all start more [] s = sym (ap (λ (m : ℕ). union m s.bits) start ∙ none_with s.bits)
gathers_onto n all start more (x ∷ xs) s =
    gathers_onto n all start more xs (with_items n s x) ∙ regroup (all xs) (n x) s.bits
    ∙ ap (λ (m : ℕ). union m s.bits) (sym (more x xs))

pub gathers : {A : Type 0} (n : A → ℕ) (all : List A → ℕ) → all [] ≡ 0
    → ((x : A) (xs : List A) → all (x ∷ xs) ≡ union (n x) (all xs))
    → (xs : List A) → ◌≡◌ {A = RoleSet} (fold (with_items n) no_roles xs) (record { bits = all xs })
gathers n all start more xs =
    ap (λ (m : ℕ). record { bits = m })
    (gathers_onto n all start more xs no_roles ∙ with_none (all xs))
