-- What the chains and the loop that close the hierarchy give. Assumes nothing.
use Rattle.std.proofs.Common.{◌≡◌, ℕ, zero, suc, ◌+◌, ◌-◌, ◌^◌, ◌<◌, ◌≤◌, Bool, true, false, cond, not, ◌&&◌, List, [], ◌∷◌, map, length, get_or, sym, refl, ap, ◌∙◌, subst, inl, inr, add-one, arith}
use lib.Bits.{and_le_l}
use Rattle.std.proofs.lemmas.List.{length-map, get_or-map}
use Rattle.std.proofs.lemmas.List.FromFn.{fill_by_all}
use Rattle.std.proofs.lemmas.Nat.Bits.{bit_at_or, bit_at-zero, same_from_bits}
use Rattle.std.proofs.lemmas.Bool.{both_ways, cases_eq, cond-true, cond-false, eq-eqb, ne_eqb}
use Rattle.std.specs.Array.{MapsFrom, IsMapOf}
use Rattle.std.specs.Fn.{Called}
use denote.Param.Members.{Mut}
use Rattle.sets.specs.Aliases.{RoleSet}
use Rattle.sets.specs.Sets.{has, union, difference, without_member}
use Rattle.sets.specs.SetLaws.{has-zero, has_without_low, without-within}
use Rattle.policy.specs.Entries.{no_roles}
use Rattle.policy.specs.Seniority.{rows_union, spread_rows, closed_below}

-- `map` of an array, where the closure answers h of each element, and stays as it is
module _ {F A B : Type 0} (g : Mut F (A × Unit {0}) B) (f : F) (h : A → B)
    (does : (x : A) (r : B) (q : F) → Called g f (x, tt) r q → (q ≡ f) × (r ≡ h x)) (xs : List A)
    (ys : List B) (d : A) (e : B) where
  mapped_at : (i n : ℕ) (q : F) → q ≡ f → MapsFrom g q xs ys i n → (k : ℕ) → i ≤ k → k < i + n
      → get_or ys k e ≡ h (get_or xs k d)
  mapped_at i zero q p m k lo hi = absurd (omega arith)
  mapped_at i (suc n) q p (r, x, y, is_x, is_y, call, rest) k lo hi =
      let now = does x y r (subst (λ c. Called g c (x, tt) y r) p call) in
      elim (cases_eq k i) [
        | inl same ↦ ap (λ j. get_or ys j e) same ∙ is_y.1 e ∙ now.1 ∙ ap h (sym (is_x.1 d))
            ∙ ap (λ j. h (get_or xs j d)) (sym same)
        | inr ne ↦ mapped_at (i + 1) n r now.0 rest k (omega arith) (omega arith)
      ]

  pub map_from_array : (n : ℕ) → length xs ≡ n → IsMapOf g f xs ys n → ys ≡ map h xs
  map_from_array n l m =
      fill_by_all (λ k. h (get_or xs k d)) ys n e m.long
      (λ k lo. mapped_at 0 n f refl m.each k (omega arith) (omega arith))
      ∙ sym (fill_by_all (λ k. h (get_or xs k d)) (map h xs) n e (length-map xs h ∙ l)
      (λ k lo. get_or-map h xs k d e (omega arith)))

-- no roles give none
pub rows_union_none : (rows : List RoleSet) (m : ℕ) → rows_union rows no_roles m ≡ 0
unfolding rows_union
rows_union_none rows zero = refl
rows_union_none rows (suc m) =
    cond-false (has 0 m) (union (rows_union rows no_roles m) (get_or rows m no_roles).bits)
    (rows_union rows no_roles m) (has-zero m) ∙ rows_union_none rows m

-- and add none
pub with_none : (a : ℕ) → union a 0 ≡ a
unfolding union
with_none a = same_from_bits _ _ (λ i. omega (arith, bit_at_or a 0 i, bit_at-zero i))

row_with_below-none : (row : RoleSet) (b : Bool)
    → ◌≡◌ {A = RoleSet} (cond b (record { bits = union row.bits 0 }) row) row
row_with_below-none row true = ap (λ (m : ℕ). record { bits = m }) (with_none row.bits)
row_with_below-none row false = refl

spread_none : (k : ℕ) (rows : List RoleSet) → spread_rows k 0 rows ≡ rows
spread_none k [] = refl
spread_none k (row ∷ rows) =
    ap (λ (x : RoleSet). x ∷ spread_rows k 0 rows) (row_with_below-none row (has row.bits k))
    ∙ ap (λ xs. row ∷ xs) (spread_none k rows)

-- one role more inherits
pub close_more : (juniors rows next : List RoleSet) (role below : ℕ)
    → rows ≡ closed_below role juniors
    → below ≡ rows_union rows (get_or juniors role no_roles) 32 → next ≡ spread_rows role below rows
    → next ≡ closed_below (role + 1) juniors
unfolding closed_below
close_more juniors rows next role below er eb en =
    en ∙ ap (λ (b : ℕ). spread_rows role b rows) eb
    ∙ ap (λ (r : List RoleSet). spread_rows role
    (rows_union r (get_or juniors role no_roles) 32) r) er
    ∙ ap (λ (m : ℕ). closed_below m juniors) (sym (add-one role))

-- or it inherits none
pub close_none : (juniors rows : List RoleSet) (role : ℕ) → rows ≡ closed_below role juniors
    → (get_or juniors role no_roles).bits ≡ 0
    → rows ≡ closed_below (role + 1) juniors
close_none juniors rows role er none =
    close_more juniors rows rows role 0 er
    (sym (ap (λ (m : ℕ). rows_union rows (record { bits = m }) 32) none ∙ rows_union_none rows 32))
    (sym (spread_none role rows))

pub none_with : (a : ℕ) → union 0 a ≡ a
unfolding union
none_with a = same_from_bits _ _ (λ i. omega (arith, bit_at_or 0 a i, bit_at-zero i))

-- the rows of chosen roles, one of them taken out

and_true : (b : Bool) → (b && true) ≡ b
and_true true = refl
and_true false = refl

and_false : (b : Bool) → (b && false) ≡ false
and_false true = refl
and_false false = refl

union_assoc : (a b c : ℕ) → union (union a b) c ≡ union a (union b c)
unfolding union
union_assoc a b c =
    same_from_bits _ _ (λ i. omega (
      arith,
      bit_at_or (union a b) c i,
      bit_at_or a b i,
      bit_at_or a (union b c) i,
      bit_at_or b c i,
    ))

union_swap : (a b c : ℕ) → union (union a b) c ≡ union (union a c) b
unfolding union
union_swap a b c =
    same_from_bits _ _ (λ i. omega (
      arith,
      bit_at_or (union a b) c i,
      bit_at_or a b i,
      bit_at_or (union a c) b i,
      bit_at_or a c i,
    ))

-- what is chosen past the rows that are looked at makes no difference
rows_union-alike : (rows : List RoleSet) (s z : RoleSet) (m : ℕ)
    → ((k : ℕ) → k < m → has s.bits k ≡ has z.bits k) → rows_union rows s m ≡ rows_union rows z m
unfolding rows_union
rows_union-alike rows s z zero h = refl
rows_union-alike rows s z (suc m) h =
    let rest = rows_union-alike rows s z m (λ k l. h k (omega arith)) in
    ap (λ b. cond b (union (rows_union rows s m) (get_or rows m no_roles).bits)
    (rows_union rows s m))
    (h m (omega arith))
    ∙ ap (λ n. cond (has z.bits m) (union n (get_or rows m no_roles).bits) n) rest

pub rows_union-without : (rows : List RoleSet) (s : RoleSet) (r m : ℕ) → r < m → m ≤ 32
    → has s.bits r ≡ true
    → rows_union rows s m
    ≡ union (rows_union rows (record { bits = without_member 32 s.bits r }) m)
    (get_or rows r no_roles).bits
unfolding rows_union
rows_union-without rows s r zero l k h = absurd (omega arith)
rows_union-without rows s r (suc m) l k h = elim (cases_eq m r) [
  | inl e ↦
      cond-true (has s.bits m) _ _ (ap (has s.bits) e ∙ h)
      ∙ ap (λ n. union n (get_or rows m no_roles).bits)
      (rows_union-alike rows s z m (λ j lj. sym (same j (omega arith) (omega arith))))
      ∙ ap (λ j. union (rows_union rows z m) (get_or rows j no_roles).bits) e
      ∙ ap (λ n. union n (get_or rows r no_roles).bits)
      (sym (cond-false (has z.bits m) _ (rows_union rows z m) (ap (has z.bits) e ∙ gone)))
  | inr ne ↦
      let rest = rows_union-without rows s r m (omega arith) (omega arith) h in
      go (has s.bits m) refl rest (same m (omega arith) ne)
]
  where
    z : RoleSet
    z = record { bits = without_member 32 s.bits r }

    same : (j : ℕ) → j < 32 → (j ≡ r → ⊥) → has z.bits j ≡ has s.bits j
    same j lj ne =
        has_without_low 32 s.bits r j lj ∙ ap (λ b. has s.bits j && not b) (ne_eqb j r ne)
        ∙ and_true (has s.bits j)

    gone : has z.bits r ≡ false
    gone =
        has_without_low 32 s.bits r r (omega arith)
        ∙ ap (λ b. has s.bits r && not b) (eq-eqb r r refl)
        ∙ and_false (has s.bits r)

    go : (b : Bool) → has s.bits m ≡ b
        → rows_union rows s m ≡ union (rows_union rows z m) (get_or rows r no_roles).bits
        → has z.bits m ≡ has s.bits m
        → rows_union rows s (suc m)
        ≡ union (rows_union rows z (suc m)) (get_or rows r no_roles).bits
    go true e rest is =
        cond-true (has s.bits m) _ _ e
        ∙ ap (λ n. union n (get_or rows m no_roles).bits) rest
        ∙ union_swap (rows_union rows z m) (get_or rows r no_roles).bits
        (get_or rows m no_roles).bits
        ∙ ap (λ n. union n (get_or rows r no_roles).bits)
        (sym (cond-true (has z.bits m) _ _ (is ∙ e)))
    go false e rest is =
        cond-false (has s.bits m) _ _ e ∙ rest
        ∙ ap (λ n. union n (get_or rows r no_roles).bits)
        (sym (cond-false (has z.bits m) _ _ (is ∙ e)))

-- so it can be done one row after the other
pub one_row_more : (rows : List RoleSet) (all n : ℕ) (s z : RoleSet) (r : ℕ) → r < 32
    → has s.bits r ≡ true → z ≡ record { bits = without_member 32 s.bits r }
    → n ≡ union all (get_or rows r no_roles).bits
    → union n (rows_union rows z 32) ≡ union all (rows_union rows s 32)
one_row_more rows all n s z r l h ez en =
    let row = (get_or rows r no_roles).bits in
    ap (λ (x : RoleSet). union n (rows_union rows x 32)) ez
    ∙ ap (λ k. union k (rows_union rows (record { bits = without_member 32 s.bits r }) 32)) en
    ∙ union_swap all row (rows_union rows (record { bits = without_member 32 s.bits r }) 32)
    ∙ union_assoc all (rows_union rows (record { bits = without_member 32 s.bits r }) 32) row
    ∙ ap (union all) (sym (rows_union-without rows s r 32 l (omega arith) h))

-- and it takes no more rows than there are roles: a set without one of its members is a smaller
-- number
pub smaller_rest : (n r : ℕ) → r < 32 → has n r ≡ true → without_member 32 n r < n
unfolding difference
smaller_rest n r l h = elim (cases_eq (without_member 32 n r) n) [
  | inl e ↦ absurd (both_ways (has n r) (sym (ap (λ k. has k r) e) ∙ gone) h)
  | inr ne ↦ omega (arith, without-within 32 n r l, and_le_l n (2 ^ 32 - 1 - 2 ^ r))
]
  where
    gone : has (without_member 32 n r) r ≡ false
    gone =
        has_without_low 32 n r r l ∙ ap (λ b. has n r && not b) (eq-eqb r r refl)
        ∙ and_false (has n r)

-- and ends where nothing is left
pub no_row_more : (rows : List RoleSet) (all : ℕ) (s : RoleSet)
    → ((k : ℕ) → k < 32 → has s.bits k ≡ false)
    → union all (rows_union rows s 32) ≡ all
no_row_more rows all s none =
    ap (union all) (rows_union-alike rows s no_roles 32 (λ k l. none k l ∙ sym (has-zero k))
    ∙ rows_union_none rows 32)
    ∙ with_none all
