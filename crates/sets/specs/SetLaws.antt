-- Which numbers are members, at any width. It proves, for the crates above, and assumes nothing.
use Rattle.std.proofs.Common.{◌≡◌, ℕ, zero, suc, ◌+◌, ◌-◌, ◌*◌, ◌/◌, ◌%◌, ◌^◌, min, max, ◌<◌, ◌≤◌, Bool, true, false, cond, not, ◌&&◌, ◌||◌, eqb, ltb, Some, None, sym, refl, ap, ◌∙◌, inl, inr, pow-suc, arith}
use Rattle.std.proofs.Math.Nat.{mod-eq_of_lt}
use mathlib.Core.Path.{fun_ext}
use lib.Bits.{bit_and, bit_or, or_zero_r, or_lt, and_le_l, and_mask}
use lib.Count.{ones, ones_step, count_trailing_zeros, under}
use Rattle.std.specs.Int.{bit_at}
use Rattle.std.proofs.lemmas.Nat.{pow_pos, pow_below, one_shl}
use Rattle.std.proofs.lemmas.Nat.Bits.{bit_at_lowest, bit_at-suc, bit_at-zero, bit_at-pow_same, bit_at-pow_other, bit_at_above, bit_at_or, bit_at_and, bit_at-lt, same_from_bits_below, shr_and_one}
use Rattle.std.proofs.Math.Bool.{or-false, and-true}
use Rattle.std.proofs.lemmas.Bool.{eq-eqb, ne_eqb, eqb-true, eqb-false, lt-ltb, le-ltb, cases_Bool, cases_lt, cases_eq, cond-true, cond-false, and_from, and_left, and_right, and_parts}
use Rattle.sets.specs.First.{first_below}
use Rattle.sets.specs.FirstLaws.{First, first_never, first_is}
use Rattle.sets.specs.Sets.{has, with_member, without_member, union, intersection, difference, count_below}

-- bit 0
pub has_first : (n : ℕ) → has n zero ≡ eqb (n % 2) 1
unfolding has
has_first n = ap (λ (m : ℕ). eqb m 1) (bit_at_lowest n)

-- bit r + 1 is bit r of the half
pub has-next : (n r : ℕ) → has n (suc r) ≡ has (n / 2) r
unfolding has
has-next n r = ap (λ (m : ℕ). eqb m 1) (bit_at-suc n r)

-- the empty set has no member
pub has-zero : (r : ℕ) → has 0 r ≡ false
unfolding has
has-zero r = ap (λ (m : ℕ). eqb m 1) (bit_at-zero r)

-- a power of two has one member
pub has_bit : (k r : ℕ) → has (2 ^ k) r ≡ eqb r k
unfolding has
has_bit k r = elim (cases_eq r k) [
  | inl e ↦ ap (λ (m : ℕ). eqb m 1) (ap (bit_at (2 ^ k)) e ∙ bit_at-pow_same k) ∙ sym (eq-eqb r k e)
  | inr e ↦ ap (λ (m : ℕ). eqb m 1) (bit_at-pow_other k r e) ∙ sym (ne_eqb r k e)
]

-- nothing at or past the width
pub has_past : (w n r : ℕ) → n < 2 ^ w → w ≤ r → has n r ≡ false
unfolding has
has_past w n r h l = ap (λ (m : ℕ). eqb m 1) (bit_at_above n w r h l)

-- the complement within the width
pub has-not : (w n r : ℕ) → n < 2 ^ w → r < w → has (2 ^ w - 1 - n) r ≡ not (has n r)
has-not zero n r h l = absurd (omega arith)
has-not (suc w) n zero h l =
    has_first (2 ^ suc w - 1 - n)
    ∙ flips (n % 2) ((2 ^ suc w - 1 - n) % 2) (omega (arith, pow-suc 2 w))
    ∙ ap not (sym (has_first n))
  where
    flips : (p q : ℕ) → p + q ≡ 1 → eqb q 1 ≡ not (eqb p 1)
    flips zero q e = ap (λ (m : ℕ). eqb m 1) (let f : q ≡ 1 = omega arith in f)
    flips (suc zero) q e = ap (λ (m : ℕ). eqb m 1) (let f : q ≡ 0 = omega arith in f)
    flips (suc (suc p)) q e = absurd (omega arith)
has-not (suc w) n (suc r) h l =
    has-next (2 ^ suc w - 1 - n) r
    ∙ ap (λ (m : ℕ). has m r) half
    ∙ has-not w (n / 2) r (omega (arith, pow-suc 2 w)) (omega arith) ∙ ap not (sym (has-next n r))
  where
    half : (2 ^ suc w - 1 - n) / 2 ≡ 2 ^ w - 1 - n / 2
    half = omega (arith, pow-suc 2 w, pow_pos w)

-- two sets of the same members are equal
pub has_ext : (w a b : ℕ) → a < 2 ^ w → b < 2 ^ w → ((r : ℕ) → r < w → has a r ≡ has b r) → a ≡ b
unfolding has
has_ext w a b ha hb e =
    same_from_bits_below w a b ha hb
    (λ r l. same (bit_at a r) (bit_at b r) (bit_at-lt a r) (bit_at-lt b r) (e r l))
  where
    same : (p q : ℕ) → p < 2 → q < 2 → eqb p 1 ≡ eqb q 1 → p ≡ q
    same p q hp hq f = elim (cases_Bool (eqb q 1)) [
      | inl t ↦ omega (arith, eqb-true p 1 (f ∙ t), eqb-true q 1 t)
      | inr t ↦ omega (arith, eqb-false p 1 (f ∙ t), eqb-false q 1 t)
    ]

-- the bit operations, member by member

or_digits : (p q : ℕ) → p < 2 → q < 2 → eqb (max p q) 1 ≡ (eqb p 1 || eqb q 1)
or_digits zero zero _ _ = refl
or_digits zero (suc zero) _ _ = refl
or_digits (suc zero) zero _ _ = refl
or_digits (suc zero) (suc zero) _ _ = refl
or_digits zero (suc (suc q)) _ h = absurd (omega arith)
or_digits (suc zero) (suc (suc q)) _ h = absurd (omega arith)
or_digits (suc (suc p)) q h _ = absurd (omega arith)

and_digits : (p q : ℕ) → p < 2 → q < 2 → eqb (min p q) 1 ≡ (eqb p 1 && eqb q 1)
and_digits zero zero _ _ = refl
and_digits zero (suc zero) _ _ = refl
and_digits (suc zero) zero _ _ = refl
and_digits (suc zero) (suc zero) _ _ = refl
and_digits zero (suc (suc q)) _ h = absurd (omega arith)
and_digits (suc zero) (suc (suc q)) _ h = absurd (omega arith)
and_digits (suc (suc p)) q h _ = absurd (omega arith)

pub has_or : (a b k : ℕ) → has (bit_or a b) k ≡ (has a k || has b k)
unfolding has
has_or a b k =
    ap (λ (n : ℕ). eqb n 1) (bit_at_or a b k)
    ∙ or_digits (bit_at a k) (bit_at b k) (bit_at-lt a k) (bit_at-lt b k)

pub has_and : (a b k : ℕ) → has (bit_and a b) k ≡ (has a k && has b k)
unfolding has
has_and a b k =
    ap (λ (n : ℕ). eqb n 1) (bit_at_and a b k)
    ∙ and_digits (bit_at a k) (bit_at b k) (bit_at-lt a k) (bit_at-lt b k)

-- union, intersection and difference, member by member

pub has-union : (a b k : ℕ) → has (union a b) k ≡ (has a k || has b k)
unfolding union
has-union a b k = has_or a b k

pub has-intersection : (a b k : ℕ) → has (intersection a b) k ≡ (has a k && has b k)
unfolding intersection
has-intersection a b k = has_and a b k

pub has-difference : (w a b k : ℕ) → a < 2 ^ w → b < 2 ^ w
    → has (difference w a b) k ≡ (has a k && not (has b k))
unfolding difference
has-difference w a b k ha hb =
    has_and a (2 ^ w - 1 - b) k
    ∙ elim (cases_lt k w) [
      | inl l ↦ ap (λ (t : Bool). has a k && t) (has-not w b k hb l)
      | inr l ↦ and_left (has a k) (has (2 ^ w - 1 - b) k) (has_past w a k ha l)
          ∙ sym (and_left (has a k) (not (has b k)) (has_past w a k ha l))
    ]

-- they stay within the width

pub union_bound : (w a b : ℕ) → a < 2 ^ w → b < 2 ^ w → union a b < 2 ^ w
unfolding union
union_bound w a b ha hb = or_lt w a b ha hb

pub intersection_bound : (w a b : ℕ) → a < 2 ^ w → intersection a b < 2 ^ w
unfolding intersection
intersection_bound w a b ha = omega (arith, and_le_l a b)

pub difference_bound : (w a b : ℕ) → a < 2 ^ w → difference w a b < 2 ^ w
unfolding difference
difference_bound w a b ha = omega (arith, and_le_l a (2 ^ w - 1 - b))

-- a member more and a member less, within the width and past it

pub with-within : (w n r : ℕ) → r < w → with_member w n r ≡ union n (2 ^ r)
unfolding with_member union
with-within w n r l = cond-true (ltb r w) (bit_or n (2 ^ r)) n (lt-ltb r w l)

pub with_past : (w n r : ℕ) → w ≤ r → with_member w n r ≡ n
unfolding with_member
with_past w n r l = cond-false (ltb r w) (bit_or n (2 ^ r)) n (le-ltb r w l)

pub without-within : (w n r : ℕ) → r < w → without_member w n r ≡ difference w n (2 ^ r)
unfolding without_member difference
without-within w n r l = cond-true (ltb r w) (bit_and n (2 ^ w - 1 - 2 ^ r)) n (lt-ltb r w l)

pub without_past : (w n r : ℕ) → w ≤ r → without_member w n r ≡ n
unfolding without_member
without_past w n r l = cond-false (ltb r w) (bit_and n (2 ^ w - 1 - 2 ^ r)) n (le-ltb r w l)

pub has-with : (w n r k : ℕ) → has (with_member w n r) k ≡ (has n k || (eqb k r && ltb k w))
has-with w n r k =
    elim (cases_lt r w) [
      | inl l ↦ ap (λ (m : ℕ). has m k) (with-within w n r l) ∙ has-union n (2 ^ r) k
          ∙ ap (λ (t : Bool). has n k || t) (has_bit r k ∙ inside l)
      | inr l ↦ ap (λ (m : ℕ). has m k) (with_past w n r l) ∙ sym (or-false (has n k))
          ∙ ap (λ (t : Bool). has n k || t) (sym (outside l))
    ]
  where
    inside : r < w → eqb k r ≡ (eqb k r && ltb k w)
    inside l = elim (cases_eq k r) [
      | inl e ↦ eq-eqb k r e
          ∙ sym (and_from (eqb k r) (ltb k w) (eq-eqb k r e) (lt-ltb k w (omega arith)))
      | inr e ↦ ne_eqb k r e ∙ sym (and_left (eqb k r) (ltb k w) (ne_eqb k r e))
    ]

    outside : w ≤ r → (eqb k r && ltb k w) ≡ false
    outside l = elim (cases_eq k r) [
      | inl e ↦ and_right (eqb k r) (ltb k w) (le-ltb k w (omega arith))
      | inr e ↦ and_left (eqb k r) (ltb k w) (ne_eqb k r e)
    ]

pub has-without : (w n r k : ℕ) → n < 2 ^ w
    → has (without_member w n r) k ≡ (has n k && not (eqb k r))
has-without w n r k h =
    elim (cases_lt r w) [
      | inl l ↦ ap (λ (m : ℕ). has m k) (without-within w n r l)
          ∙ has-difference w n (2 ^ r) k h (pow_below r w l)
          ∙ ap (λ (t : Bool). has n k && not t) (has_bit r k)
      | inr l ↦ ap (λ (m : ℕ). has m k) (without_past w n r l) ∙ outside l
    ]
  where
    outside : w ≤ r → has n k ≡ (has n k && not (eqb k r))
    outside l = elim (cases_eq k r) [
      | inl e ↦ has_past w n k h (omega arith)
          ∙ sym (and_left (has n k) (not (eqb k r)) (has_past w n k h (omega arith)))
      | inr e ↦ sym (and-true (has n k)) ∙ ap (λ (t : Bool). has n k && not t) (sym (ne_eqb k r e))
    ]

-- below the width nothing is asked of n; and nothing but members stays
pub has_without_low : (w n r k : ℕ) → k < w
    → has (without_member w n r) k ≡ (has n k && not (eqb k r))
unfolding difference
has_without_low w n r k l =
    elim (cases_lt r w) [
      | inl p ↦ ap (λ (m : ℕ). has m k) (without-within w n r p) ∙ has_masked (pow_below r w p)
      | inr p ↦ ap (λ (m : ℕ). has m k) (without_past w n r p)
          ∙ sym (stays (has n k) (eqb k r) (ne_eqb k r (λ e. omega arith)))
    ]
  where
    has_masked : 2 ^ r < 2 ^ w → has (difference w n (2 ^ r)) k ≡ (has n k && not (eqb k r))
    has_masked q =
        has_and n (2 ^ w - 1 - 2 ^ r) k
        ∙ ap (λ (b : Bool). has n k && b) (has-not w (2 ^ r) k q l ∙ ap not (has_bit r k))

    stays : (a b : Bool) → b ≡ false → (a && not b) ≡ a
    stays true b e = ap not e
    stays false b e = refl

pub has-without_member : (w n r k : ℕ) → has (without_member w n r) k ≡ true → has n k ≡ true
unfolding difference
has-without_member w n r k h =
    elim (cases_lt r w) [
      | inl p ↦ kept (sym (ap (λ (m : ℕ). has m k) (without-within w n r p)) ∙ h)
      | inr p ↦ sym (ap (λ (m : ℕ). has m k) (without_past w n r p)) ∙ h
    ]
  where
    kept : has (difference w n (2 ^ r)) k ≡ true → has n k ≡ true
    kept q =
        let m = 2 ^ w - 1 - 2 ^ r in (and_parts (has n k) (has m k) (sym (has_and n m k) ∙ q)).0

-- both stay within the width

pub with_bound : (w n r : ℕ) → n < 2 ^ w → with_member w n r < 2 ^ w
with_bound w n r h =
    elim (cases_lt r w) [
      | inl l ↦ omega (arith, with-within w n r l, union_bound w n (2 ^ r) h (pow_below r w l))
      | inr l ↦ omega (arith, with_past w n r l)
    ]

pub without_bound : (w n r : ℕ) → n < 2 ^ w → without_member w n r < 2 ^ w
without_bound w n r h =
    elim (cases_lt r w) [
      | inl l ↦ omega (arith, without-within w n r l, difference_bound w n (2 ^ r) h)
      | inr l ↦ omega (arith, without_past w n r l)
    ]

-- the empty set

pub empty_none : (n : ℕ) → n ≡ 0 → (k : ℕ) → has n k ≡ false
empty_none n e k = ap (λ (m : ℕ). has m k) e ∙ has-zero k

pub none_empty : (w n : ℕ) → n < 2 ^ w → ((k : ℕ) → has n k ≡ false) → n ≡ 0
none_empty w n h f = has_ext w n 0 h (pow_pos w) (λ r _. f r ∙ sym (has-zero r))

-- a number whose members all lie below w is below 2 ^ w
pub below_from_members : (w n : ℕ) → ((k : ℕ) → has n k ≡ true → k < w) → n < 2 ^ w
below_from_members zero n h = omega (arith, none_empty n n (small n) nobody)
  where
    small : (m : ℕ) → m < 2 ^ m
    small zero = omega arith
    small (suc m) = omega (arith, pow-suc 2 m, small m)

    nobody : (k : ℕ) → has n k ≡ false
    nobody k = elim (cases_Bool (has n k)) [
      | inl t ↦ absurd (omega (arith, h k t))
      | inr f ↦ f
    ]
below_from_members (suc w) n h =
    let half = below_from_members w (n / 2) (λ k t. omega (arith, h (suc k) (has-next n k ∙ t))) in
    omega (arith, pow-suc 2 w)

-- the difference of sets whose members all lie below the width
pub has-difference_low : (w a b k : ℕ) → ((j : ℕ) → has a j ≡ true → j < w)
    → ((j : ℕ) → has b j ≡ true → j < w) → has (difference w a b) k ≡ (has a k && not (has b k))
has-difference_low w a b k ha hb =
    has-difference w a b k (below_from_members w a ha) (below_from_members w b hb)

-- the count of trailing zeros is the least member
pub least : (w n : ℕ) → n < 2 ^ w → 0 < n → First w (has n) (count_trailing_zeros w n)
unfolding count_trailing_zeros
least zero n h l = absurd (omega arith)
least (suc w) n h l =
    go (n % 2) refl (λ e. least w (n / 2) (omega (arith, pow-suc 2 w)) (omega arith))
  where
    lower : n % 2 ≡ 0 → (t : ℕ) → ((r : ℕ) → r < t → has (n / 2) r ≡ false) → (r : ℕ) → r < suc t
        → has n r ≡ false
    lower e t f zero k = has_first n ∙ ap (λ (m : ℕ). eqb m 1) e
    lower e t f (suc r) k = has-next n r ∙ f r (omega arith)

    go : (d : ℕ) → n % 2 ≡ d → (d ≡ 0 → First w (has (n / 2)) (count_trailing_zeros w (n / 2)))
        → First (suc w) (has n) (under d (count_trailing_zeros w (n / 2)))
    go zero e ih =
        let t : First w (has (n / 2)) (count_trailing_zeros w (n / 2)) = ih refl in
        record {
          within = omega (arith, t.within);
          passes = has-next n (count_trailing_zeros w (n / 2)) ∙ t.passes;
          before = lower e (count_trailing_zeros w (n / 2)) t.before;
        }
    go (suc d) e ih =
        record {
          within = omega arith;
          passes = has_first n ∙ ap (λ (m : ℕ). eqb m 1) (let f : n % 2 ≡ 1 = omega arith in f);
          before = λ r k. absurd (omega arith);
        }

pub lowest_none : (w n : ℕ) → n ≡ 0 → first_below w (has n) ≡ None
lowest_none w n e = first_never w (has n) (λ j _. empty_none n e j)

pub lowest_is : (w n : ℕ) → n < 2 ^ w → 0 < n
    → first_below w (has n) ≡ Some (count_trailing_zeros w n)
lowest_is w n h l =
    let s = least w n h l in
    first_is w (has n) (count_trailing_zeros w n) s.within s.passes s.before

-- the count of ones is the count of members

count-first : (k : ℕ) (f : ℕ → Bool)
    → count_below (suc k) f ≡ cond (f zero) 1 0 + count_below k (λ r. f (suc r))
unfolding count_below
count-first zero f = refl
count-first (suc k) f = omega (arith, count-first k f)

pub ones_count : (w n : ℕ) → n < 2 ^ w → ones n ≡ count_below w (has n)
unfolding count_below ones
ones_count zero n h = ap ones (let e : n ≡ 0 = omega arith in e)
ones_count (suc w) n h =
    let ih = ones_count w (n / 2) (omega (arith, pow-suc 2 w)) in
    ones_step n ∙ (omega (arith, tail, digit)) ∙ sym (count-first w (has n))
  where
    first : (d : ℕ) (b : Bool) → d < 2 → b ≡ eqb d 1 → d ≡ cond b 1 0
    first zero b l e = ap (λ (x : Bool). cond x 1 0) (sym e)
    first (suc zero) b l e = ap (λ (x : Bool). cond x 1 0) (sym e)
    first (suc (suc d)) b l e = absurd (omega arith)

    tail : count_below w (λ r. has n (suc r)) ≡ count_below w (has (n / 2))
    tail = ap (count_below w) (fun_ext (has-next n))

    digit : n % 2 ≡ cond (has n zero) 1 0
    digit = first (n % 2) (has n zero) (omega arith) (has_first n)

-- what the code computes

pub shifted_low : (n r : ℕ) → eqb (bit_and (n / 2 ^ r) 1) 1 ≡ has n r
unfolding has
shifted_low n r = ap (λ (m : ℕ). eqb m 1) (shr_and_one n r)

pub no_bit_past : (w n r : ℕ) → n < 2 ^ w → w ≤ r → ltb r w ≡ has n r
no_bit_past w n r h l = le-ltb r w l ∙ sym (has_past w n r h l)

-- the word of one bit, or of none past the width

pub bit_within : (w r : ℕ) → r < w → 1 * 2 ^ r % 2 ^ w ≡ cond (ltb r w) (2 ^ r) 0
bit_within w r l = one_shl r w l ∙ sym (cond-true (ltb r w) (2 ^ r) 0 (lt-ltb r w l))

pub bit_past : (w r : ℕ) → w ≤ r → 0 ≡ cond (ltb r w) (2 ^ r) 0
bit_past w r l = sym (cond-false (ltb r w) (2 ^ r) 0 (le-ltb r w l))

pub with_bit : (w n r : ℕ) → bit_or n (cond (ltb r w) (2 ^ r) 0) ≡ with_member w n r
unfolding with_member
with_bit w n r = by (ltb r w)
  where
    by : (b : Bool) → bit_or n (cond b (2 ^ r) 0) ≡ cond b (bit_or n (2 ^ r)) n
    by true = refl
    by false = or_zero_r n

pub without_bit : (w n r : ℕ) → n < 2 ^ w
    → bit_and n (2 ^ w - 1 - cond (ltb r w) (2 ^ r) 0) ≡ without_member w n r
unfolding without_member
without_bit w n r h = by (ltb r w)
  where
    by : (b : Bool)
        → bit_and n (2 ^ w - 1 - cond b (2 ^ r) 0) ≡ cond b (bit_and n (2 ^ w - 1 - 2 ^ r)) n
    by true = refl
    by false =
        ap (bit_and n) (let e : 2 ^ w - 1 - 0 ≡ 2 ^ w - 1 = omega arith in e) ∙ and_mask n w
        ∙ mod-eq_of_lt h

pub difference_code : (w a b : ℕ) → bit_and a (2 ^ w - 1 - b) ≡ difference w a b
unfolding difference
difference_code w a b = refl

-- what the proofs of the methods use

pub ruleset of_empty = has-zero

pub ruleset of_with = (with_bit, has-with)

pub ruleset of_without = (without_bit, has-without)

pub ruleset of_difference = (difference_code, has-difference)

pub ruleset of_is_empty = (has-zero, none_empty)
