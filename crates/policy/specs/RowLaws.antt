-- Laws of rows of sets: what one more member, or one more pair, changes. Assumes nothing.
use Rattle.std.proofs.Common.{◌≡◌, ℕ, ◌^◌, ◌<◌, Bool, true, false, ◌&&◌, ◌||◌, eqb, ltb, List, length, get_or, set, replicate, sym, refl, ap, ◌∙◌, subst, inl, inr, arith}
use mathlib.Core.Bool.{or-false, and_comm, or_comm, or_assoc}
use Rattle.std.proofs.lemmas.List.{length-set, length-replicate, get_or-set_same, get_or-set_other, get_or-replicate, get_or_past, set_past}
use Rattle.std.proofs.lemmas.Bool.{eqb-true, eq-eqb, ne_eqb, cases_eq, cases_lt, and_parts, and_left, or_cases, or_from}
use Rattle.sets.specs.Aliases.{RoleSet}
use Rattle.sets.specs.Sets.{has, with_member}
use Rattle.policy.specs.Entries.{no_roles, holds}
use Rattle.policy.specs.Updates.{with_one, with_both}
use Rattle.sets.specs.SetLaws.{has-zero, has_bit, has-union, has-with, with-within}

-- a row with one more member, and with a pair both ways, of sets of a width
abbrev pub more : ℕ → List RoleSet → ℕ → ℕ → List RoleSet
more w = with_one (λ n. n) (λ n. n) w

abbrev pub both : ℕ → List RoleSet → ℕ → ℕ → List RoleSet
both w = with_both (λ n. n) (λ n. n) w

-- what holds at every place of a list, and of the new entry, holds at every place after the write
pub set_each : {X : Type 0} (Q : ℕ → X → Type 0) (xs : List X) (a : ℕ) (new d : X)
    → ((i : ℕ) → Q i (get_or xs i d)) → Q a new → (i : ℕ) → Q i (get_or (set xs a new) i d)
set_each Q xs a new d old h i = elim (cases_eq i a) [
  | inl e ↦ subst (λ j. Q j (get_or (set xs a new) j d)) (sym e) (elim (cases_lt a (length xs)) [
    | inl l ↦ subst (Q a) (sym (get_or-set_same xs a new d l)) h
    | inr l ↦ subst (λ ys. Q a (get_or ys a d)) (sym (set_past xs a new l)) (old a)
  ])
  | inr ne ↦ subst (Q i) (sym (get_or-set_other xs a i new d ne)) (old i)
]

-- what holds of the entry and of the default holds at every place of equal entries
pub replicate_each : {X : Type 0} (Q : X → Type 0) (n : ℕ) (x d : X) → Q x → Q d → (i : ℕ)
    → Q (get_or (replicate n x) i d)
replicate_each Q n x d hx hd i = elim (cases_lt i n) [
  | inl l ↦ subst Q (sym (get_or-replicate n i x d l)) hx
  | inr l ↦ subst Q (sym (get_or_past (replicate n x) i d (omega (arith, length-replicate n x)))) hd
]

-- empty rows have no member
pub no_member : (n x y : ℕ) → holds (replicate n no_roles) x y ≡ false
no_member n x y =
    replicate_each (λ (s : RoleSet). has s.bits y ≡ false) n no_roles no_roles (has-zero y)
    (has-zero y) x

module _ (w : ℕ) where
  -- the row with one more member, and which members it has
  abbrev one : List RoleSet → ℕ → ℕ → RoleSet
  one rows a b = record { bits = with_member w (get_or rows a no_roles).bits b }

  new_row : (rows : List RoleSet) (a b y : ℕ)
      → has (one rows a b).bits y ≡ (holds rows a y || (eqb y b && ltb y w))
  new_row rows a b y = has-with w (get_or rows a no_roles).bits b y

  -- a relation that has all members has them after one more
  pub more_within : (C : ℕ → ℕ → Type 0) (rows : List RoleSet) (a b : ℕ) → C a b
      → ((x y : ℕ) → holds rows x y ≡ true → C x y) → (x y : ℕ) → holds (more w rows a b) x y ≡ true
      → C x y
  more_within C rows a b c old =
      set_each (λ x (s : RoleSet). (y : ℕ) → has s.bits y ≡ true → C x y) rows a
      (one rows a b) no_roles old
      (λ y t. elim (or_cases (holds rows a y) (eqb y b && ltb y w) (sym (new_row rows a b y) ∙ t)) [
        | inl m ↦ old a y m
        | inr m ↦ subst (C a) (sym (eqb-true y b (and_parts (eqb y b) (ltb y w) m).0)) c
      ])

  pub both_within : (C : ℕ → ℕ → Type 0) (rows : List RoleSet) (a b : ℕ) → C a b → C b a
      → ((x y : ℕ) → holds rows x y ≡ true → C x y) → (x y : ℕ) → holds (both w rows a b) x y ≡ true
      → C x y
  both_within C rows a b c d old =
      more_within C (more w rows a b) b a d (more_within C rows a b c old)

  -- nothing is in its own row after one more that differs from its row
  more_apart : (rows : List RoleSet) (a b : ℕ) → (a ≡ b → ⊥)
      → ((x : ℕ) → holds rows x x ≡ false) → (x : ℕ) → holds (more w rows a b) x x ≡ false
  more_apart rows a b ne old =
      set_each (λ x (s : RoleSet). has s.bits x ≡ false) rows a (one rows a b) no_roles old
      (new_row rows a b a ∙ or_from (holds rows a a) (eqb a b && ltb a w) (old a)
      (and_left (eqb a b) (ltb a w) (ne_eqb a b ne)))

  pub both_apart : (rows : List RoleSet) (a b : ℕ) → (a ≡ b → ⊥)
      → ((x : ℕ) → holds rows x x ≡ false) → (x : ℕ) → holds (both w rows a b) x x ≡ false
  both_apart rows a b ne old =
      more_apart (more w rows a b) b a (λ e. ne (sym e)) (more_apart rows a b ne old)

  -- the rows keep their number
  pub both_length : (rows : List RoleSet) (a b : ℕ) → length (both w rows a b) ≡ length rows
  both_length rows a b = simp length-set

  -- in range, one more is exactly one more
  pub more_member : (rows : List RoleSet) (a b : ℕ) → a < length rows → b < w
      → (x y : ℕ) → holds (more w rows a b) x y ≡ (holds rows x y || (eqb x a && eqb y b))
  more_member rows a b ha hb x y =
      let n : ℕ = (get_or rows a no_roles).bits in
      elim (cases_eq x a) [
        | inl e ↦ subst (λ i. holds (more w rows a b) i y
            ≡ (holds rows i y || (eqb i a && eqb y b))) (sym e)
            (ap (λ (s : RoleSet). has s.bits y) (get_or-set_same rows a (one rows a b) no_roles ha)
            ∙ ap (λ m. has m y) (with-within w n b hb)
            ∙ has-union n (2 ^ b) y
            ∙ ap (λ t. has n y || t) (has_bit b y ∙ ap (λ t. t && eqb y b) (sym (eq-eqb a a refl))))
        | inr ne ↦ ap (λ (s : RoleSet). has s.bits y)
            (get_or-set_other rows a x (one rows a b) no_roles ne) ∙ sym (or-false (holds rows x y))
            ∙ ap (λ t. holds rows x y || (t && eqb y b)) (sym (ne_eqb x a ne))
      ]

  -- a pair stored both ways keeps the rows symmetric
  pub both_symmetric : (rows : List RoleSet) (a b : ℕ) → length rows ≡ w → a < w → b < w
      → ((x y : ℕ) → holds rows x y ≡ holds rows y x)
      → (x y : ℕ) → holds (both w rows a b) x y ≡ holds (both w rows a b) y x
  both_symmetric rows a b wide ha hb old x y =
      pair x y ∙ swapped (holds rows x y) (eqb x a) (eqb y b) (eqb x b) (eqb y a)
      ∙ ap (λ m. m || (eqb y a && eqb x b) || (eqb y b && eqb x a)) (old x y) ∙ sym (pair y x)
    where
      pair : (x y : ℕ) → holds (both w rows a b) x y
          ≡ (holds rows x y || (eqb x a && eqb y b) || (eqb x b && eqb y a))
      pair x y =
          more_member (more w rows a b) b a (simp length-set (omega arith)) ha x y
          ∙ ap (λ m. m || (eqb x b && eqb y a)) (more_member rows a b (omega arith) hb x y)

      swapped : (m p q s t : Bool) → (m || (p && q) || (s && t)) ≡ (m || (t && s) || (q && p))
      swapped m p q s t =
          or_assoc m (p && q) (s && t) ∙ ap (λ z. m || z) (or_comm (p && q) (s && t))
          ∙ sym (or_assoc m (s && t) (p && q))
          ∙ ap (λ z. m || z || (p && q)) (and_comm s t)
          ∙ ap (λ z. m || (t && s) || z) (and_comm p q)
