-- The closed table says who is senior to whom. Assumes nothing.
use Rattle.std.proofs.Common.{◌≡◌, ℕ, zero, suc, ◌<◌, ◌≤◌, Bool, true, false, cond, ◌&&◌, ◌||◌, eqb, ltb, ◌⊎◌, List, length, get_or, sym, refl, ap, ◌∙◌, subst, inl, inr, arith}
use Rattle.std.proofs.lemmas.List.FromFn.{length-map-range_with_len, get_or-map-range_with_len}
use Rattle.std.proofs.lemmas.List.{length-map, get_or-map, get_or_past}
use Rattle.std.proofs.lemmas.Bool.{cases_Bool, cases_lt, cases_eq, eqb-true, eq-eqb, ltb-true, lt-ltb, and_parts, and_from, or_cases, or_left, or_right, both_ways, cond-true, cond-false}
use Rattle.sets.specs.Aliases.{RoleSet}
use Rattle.sets.specs.Sets.{has, union}
use Rattle.sets.specs.SetLaws.{has-zero, has-with, has-union}
use Rattle.policy.specs.Entries.{no_roles, holds}
use Rattle.policy.specs.Seniority.{Senior, itself, through, rows_union, row_with_below, only_itself, spread_rows, closed_below, closure, TellsSeniority}

-- the relation alone

-- seniority by the juniors of the roles below k only
abbrev cut : (ℕ → ℕ → Bool) → ℕ → ℕ → ℕ → Bool
cut E k a c = ltb a k && E a c

joined : {E : ℕ → ℕ → Bool} {a b c : ℕ} → Senior E a b → Senior E b c → Senior E a c
joined itself q = q
joined (through e p) q = through e (joined p q)

-- every step of E is one of F
along : {E F : ℕ → ℕ → Bool} → ((a c : ℕ) → E a c ≡ true → F a c ≡ true) → {a b : ℕ} → Senior E a b
    → Senior F a b
along f itself = itself
along f (through {a} {b} {c} e p) = through (f a c e) (along f p)

-- by way of role k: up to k, and from a junior of k on
pub record ByWay (E : ℕ → ℕ → Bool) (k a b : ℕ) : Type 0 where
  pub up : Senior (cut E k) a k
  pub junior : ℕ
  pub step : E k junior ≡ true
  pub down : Senior (cut E k) junior b

one_more : (E : ℕ → ℕ → Bool) (k : ℕ) {a b : ℕ} → Senior (cut E (suc k)) a b
    → Senior (cut E k) a b ⊎ ByWay E k a b
one_more E k itself = inl itself
one_more E k (through {a} {b} {c} e p) = go (cases_lt a k) (one_more E k p)
  where
    parts : (ltb a (suc k) ≡ true) × (E a c ≡ true)
    parts = and_parts (ltb a (suc k)) (E a c) e

    here : k ≤ a → a ≡ k
    here h = omega (arith, ltb-true a (suc k) parts.0)

    from_here : k ≤ a → Senior (cut E k) a k
    from_here h = subst (λ m. Senior (cut E k) m k) (sym (here h)) itself

    go : (a < k) ⊎ (k ≤ a) → Senior (cut E k) c b ⊎ ByWay E k c b
        → Senior (cut E k) a b ⊎ ByWay E k a b
    go (inl l) (inl q) = inl (through (and_from (ltb a k) (E a c) (lt-ltb a k l) parts.1) q)
    go (inl l) (inr w) =
        inr (record {
          up = through (and_from (ltb a k) (E a c) (lt-ltb a k l) parts.1) w.up;
          junior = w.junior;
          step = w.step;
          down = w.down;
        })
    go (inr l) (inl q) =
        inr (record {
          up = from_here l;
          junior = c;
          step = ap (λ m. E m c) (sym (here l)) ∙ parts.1;
          down = q;
        })
    go (inr l) (inr w) =
        inr (record {
          up = from_here l;
          junior = w.junior;
          step = w.step;
          down = w.down;
        })

-- only roles below n are in the steps
abbrev StepsWithin : ℕ → (ℕ → ℕ → Bool) → Type 0
StepsWithin n E = (a c : ℕ) → E a c ≡ true → (a < n) × (c < n)

-- a role that is senior to another is it, or both are roles of the policy
pub senior_within : {n : ℕ} {E : ℕ → ℕ → Bool} → StepsWithin n E → {a b : ℕ} → Senior E a b
    → (a ≡ b) ⊎ ((a < n) × (b < n))
senior_within w itself = inl refl
senior_within {n} w (through {a} {b} {c} e p) =
    elim (senior_within w p) [
      | inl q ↦ inr ((w a c e).0, subst (λ m. m < n) q (w a c e).1)
      | inr q ↦ inr ((w a c e).0, q.1)
    ]

-- the tables

pub closed_length : (k : ℕ) (juniors : List RoleSet) → length (closed_below k juniors) ≡ 32
unfolding closed_below
closed_length zero juniors = length-map-range_with_len only_itself 0 32
closed_length (suc k) juniors =
    let rows = closed_below k juniors in
    length-map rows (row_with_below k (rows_union rows (get_or juniors k no_roles) 32))
    ∙ closed_length k juniors

-- a row past the table holds nothing
pub held_inside : (rows : List RoleSet) (a b : ℕ) → length rows ≡ 32 → holds rows a b ≡ true
    → a < 32
held_inside rows a b len h =
    elim (cases_lt a 32) [
      | inl l ↦ l
      | inr l ↦ absurd (both_ways (holds rows a b)
          (ap (λ (s : RoleSet). has s.bits b) (get_or_past rows a no_roles (omega arith))
          ∙ has-zero b) h)
    ]

pub rows_union_in : (rows : List RoleSet) (chosen : RoleSet) (m c b : ℕ) → c < m
    → has chosen.bits c ≡ true → holds rows c b ≡ true
    → has (rows_union rows chosen m) b ≡ true
unfolding rows_union
rows_union_in rows chosen zero c b l h r = absurd (omega arith)
rows_union_in rows chosen (suc m) c b l h r =
    elim (cases_eq c m) [
      | inl e ↦
          ap (λ (n : ℕ). has n b) (cond-true (has chosen.bits m) (union before row) before
          (ap (has chosen.bits) (sym e) ∙ h))
          ∙ has-union before row b
          ∙ or_right (has before b) (has row b) (ap (λ i. holds rows i b) (sym e) ∙ r)
      | inr ne ↦
          let ih : has before b ≡ true = rows_union_in rows chosen m c b (omega arith) h r in
          elim (cases_Bool (has chosen.bits m)) [
            | inl t ↦ ap (λ (n : ℕ). has n b)
                (cond-true (has chosen.bits m) (union before row) before t)
                ∙ has-union before row b ∙ or_left (has before b) (has row b) ih
            | inr t ↦ ap (λ (n : ℕ). has n b)
                (cond-false (has chosen.bits m) (union before row) before t) ∙ ih
          ]
    ]
  where
    before : ℕ
    before = rows_union rows chosen m

    row : ℕ
    row = (get_or rows m no_roles).bits

pub rows_union_out : (rows : List RoleSet) (chosen : RoleSet) (m b : ℕ)
    → has (rows_union rows chosen m) b ≡ true
    → (c : ℕ) × (has chosen.bits c ≡ true) × (holds rows c b ≡ true)
unfolding rows_union
rows_union_out rows chosen zero b h = absurd (both_ways (has 0 b) (has-zero b) h)
rows_union_out rows chosen (suc m) b h =
    elim (cases_Bool (has chosen.bits m)) [
      | inl t ↦
          elim (or_cases (has before b) (has row b)
          (sym (ap (λ (n : ℕ). has n b) (cond-true (has chosen.bits m) (union before row) before t)
          ∙ has-union before row b) ∙ h)) [
            | inl q ↦ rows_union_out rows chosen m b q
            | inr q ↦ (m, t, q)
          ]
      | inr t ↦ rows_union_out rows chosen m b
          (sym (ap (λ (n : ℕ). has n b)
          (cond-false (has chosen.bits m) (union before row) before t)) ∙ h)
    ]
  where
    before : ℕ
    before = rows_union rows chosen m

    row : ℕ
    row = (get_or rows m no_roles).bits

-- the same rows give the same
pub rows_union-same : (rows others : List RoleSet) (chosen : RoleSet) (m : ℕ)
    → ((a : ℕ) → (get_or rows a no_roles).bits ≡ (get_or others a no_roles).bits)
    → rows_union rows chosen m ≡ rows_union others chosen m
unfolding rows_union
rows_union-same rows others chosen zero same = refl
rows_union-same rows others chosen (suc m) same =
    ap (λ (n : ℕ). cond (has chosen.bits m) (union n (get_or rows m no_roles).bits) n)
    (rows_union-same rows others chosen m same)
    ∙ ap (λ (n : ℕ). cond (has chosen.bits m) (union (rows_union others chosen m) n)
    (rows_union others chosen m)) (same m)

-- one row, row_with_below
row_with_below-has : (k below b : ℕ) (row : RoleSet) → has row.bits k ≡ true
    → has (row_with_below k below row).bits b ≡ (has row.bits b || has below b)
row_with_below-has k below b row h =
    ap (λ (s : RoleSet). has s.bits b)
    (cond-true (has row.bits k) (record { bits = union row.bits below }) row h)
    ∙ has-union row.bits below b

row_with_below-same : (k below : ℕ) (row : RoleSet) → has row.bits k ≡ false
    → row_with_below k below row ≡ row
row_with_below-same k below row h =
    cond-false (has row.bits k) (record { bits = union row.bits below }) row h

spread_at : (k below : ℕ) (rows : List RoleSet) (a : ℕ) → a < length rows
    → get_or (spread_rows k below rows) a no_roles ≡ row_with_below k below (get_or rows a no_roles)
spread_at k below rows a l = get_or-map (row_with_below k below) rows a no_roles no_roles l

module _ (juniors : List RoleSet) (n : ℕ) (few : n ≤ 32)
    (inside : StepsWithin n (holds juniors)) where
  -- where the roles below k inherit: the rows, the row of a role, and the roles below k itself
  module _ (k : ℕ) where
    abbrev rows : List RoleSet
    rows = closed_below k juniors

    abbrev row : ℕ → RoleSet
    row a = get_or rows a no_roles

    abbrev below : ℕ
    below = rows_union rows (get_or juniors k no_roles) 32

  -- what the table so far holds, and shows
  Held : ℕ → Type 0
  Held k =
      (a b : ℕ) → a < 32 → b < 32 → Senior (cut (holds juniors) k) a b
      → holds (closed_below k juniors) a b ≡ true

  Shown : ℕ → Type 0
  Shown k =
      (a b : ℕ) → holds (closed_below k juniors) a b ≡ true → Senior (cut (holds juniors) k) a b

  held_none : Held zero
  unfolding closed_below Held
  held_none a b la lb p =
      ap (λ (s : RoleSet). has s.bits b)
      (get_or-map-range_with_len only_itself 0 32 a a no_roles la (omega arith))
      ∙ has-with 32 0 a b ∙ or_right (has 0 b) (eqb b a && ltb b 32)
      (and_from (eqb b a) (ltb b 32) (eq-eqb b a (alone p)) (lt-ltb b 32 lb))
    where
      alone : {x y : ℕ} → Senior (cut (holds juniors) zero) x y → y ≡ x
      alone itself = refl
      alone (through {a = x} {c = z} e q) =
          absurd (omega (arith, ltb-true x zero (and_parts (ltb x zero) (holds juniors x z) e).0))

  held_more : (k : ℕ) → k < 32 → Held k → Held (suc k)
  unfolding closed_below Held
  held_more k lk ih a b la lb p = goes (one_more (holds juniors) k p)
    where
      at : get_or (spread_rows k (below k) (rows k)) a no_roles
          ≡ row_with_below k (below k) (row k a)
      at = spread_at k (below k) (rows k) a (omega (arith, closed_length k juniors))

      kept : has (row k a).bits b ≡ true → has (row_with_below k (below k) (row k a)).bits b ≡ true
      kept h =
          elim (cases_Bool (has (row k a).bits k)) [
            | inl t ↦ row_with_below-has k (below k) b (row k a) t
                ∙ or_left (has (row k a).bits b) (has (below k) b) h
            | inr t ↦ ap (λ (s : RoleSet). has s.bits b)
                (row_with_below-same k (below k) (row k a) t) ∙ h
          ]

      goes : Senior (cut (holds juniors) k) a b ⊎ ByWay (holds juniors) k a b
          → holds (spread_rows k (below k) (rows k)) a b ≡ true
      goes (inl q) = ap (λ (s : RoleSet). has s.bits b) at ∙ kept (ih a b la lb q)
      goes (inr w) =
          let j32 : w.junior < 32 = omega (arith, (inside k w.junior w.step).1) in
          ap (λ (s : RoleSet). has s.bits b) at
          ∙ row_with_below-has k (below k) b (row k a) (ih a k la lk w.up)
          ∙ or_right (has (row k a).bits b) (has (below k) b)
          (rows_union_in (rows k) (get_or juniors k no_roles) 32 w.junior b j32 w.step
          (ih w.junior b j32 lb w.down))

  wider : (k a c : ℕ) → cut (holds juniors) k a c ≡ true → cut (holds juniors) (suc k) a c ≡ true
  wider k a c e =
      let q = and_parts (ltb a k) (holds juniors a c) e in
      and_from (ltb a (suc k)) (holds juniors a c)
      (lt-ltb a (suc k) (omega (arith, ltb-true a k q.0))) q.1

  shown_none : Shown zero
  unfolding closed_below Shown
  shown_none a b h =
      let la : a < 32 =
      held_inside (closed_below zero juniors) a b (closed_length zero juniors) h in
      let e =
      sym (ap (λ (s : RoleSet). has s.bits b)
      (get_or-map-range_with_len only_itself 0 32 a a no_roles la (omega arith))
      ∙ has-with 32 0 a b) ∙ h in
      elim (or_cases (has 0 b) (eqb b a && ltb b 32) e) [
        | inl z ↦ absurd (both_ways (has 0 b) (has-zero b) z)
        | inr q ↦ subst (λ m. Senior (cut (holds juniors) zero) a m)
            (sym (eqb-true b a (and_parts (eqb b a) (ltb b 32) q).0)) itself
      ]

  shown_more : (k : ℕ) → Shown k → Shown (suc k)
  unfolding closed_below Shown
  shown_more k ih a b h = goes (cases_Bool (has (row k a).bits k))
    where
      la : a < 32
      la = held_inside (closed_below (suc k) juniors) a b (closed_length (suc k) juniors) h

      at : has (row_with_below k (below k) (row k a)).bits b ≡ true
      at =
          sym (ap (λ (s : RoleSet). has s.bits b)
          (spread_at k (below k) (rows k) a (omega (arith, closed_length k juniors, la)))) ∙ h

      old : has (row k a).bits b ≡ true → Senior (cut (holds juniors) (suc k)) a b
      old q = along (wider k) (ih a b q)

      goes : (has (row k a).bits k ≡ true) ⊎ (has (row k a).bits k ≡ false)
          → Senior (cut (holds juniors) (suc k)) a b
      goes (inl t) =
          elim (or_cases (has (row k a).bits b) (has (below k) b)
          (sym (row_with_below-has k (below k) b (row k a) t) ∙ at)) [
            | inl q ↦ old q
            | inr q ↦
                let g = rows_union_out (rows k) (get_or juniors k no_roles) 32 b q in
                joined (along (wider k) (ih a k t))
                (through (and_from (ltb k (suc k)) (holds juniors k g.0)
                (lt-ltb k (suc k) (omega arith)) g.1) (along (wider k) (ih g.0 b g.2)))
          ]
      goes (inr t) =
          old (sym (ap (λ (s : RoleSet). has s.bits b)
          (row_with_below-same k (below k) (row k a) t)) ∙ at)

  held : (k : ℕ) → k ≤ 32 → Held k
  held zero le = held_none
  held (suc k) le = held_more k (omega arith) (held k (omega arith))

  shown : (k : ℕ) → Shown k
  shown zero = shown_none
  shown (suc k) = shown_more k (shown k)

  pub closure_tells : TellsSeniority juniors (closure juniors)
  unfolding Held Shown
  closure_tells = record {
    senior_held = λ a b la p. held 32 (omega arith) a b la (low la p) (along whole p);
    held_senior = λ a b h. along part (shown 32 a b h);
  }
    where
      low : {a b : ℕ} → a < 32 → Senior (holds juniors) a b → b < 32
      low la p = elim (senior_within inside p) [ inl q ↦ omega arith | inr q ↦ omega (arith, q.1) ]

      whole : (a c : ℕ) → holds juniors a c ≡ true → cut (holds juniors) 32 a c ≡ true
      whole a c e =
          and_from (ltb a 32) (holds juniors a c) (lt-ltb a 32 (omega (arith, (inside a c e).0))) e

      part : (a c : ℕ) → cut (holds juniors) 32 a c ≡ true → holds juniors a c ≡ true
      part a c e = (and_parts (ltb a 32) (holds juniors a c) e).1
