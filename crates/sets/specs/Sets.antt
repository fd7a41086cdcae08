-- A set of small numbers held as the bits of one number. Assumes nothing.
--
--   has n r                r is a member of n
--   with_member w n r      n and r, at width w
--   without_member w n r   n but r, at width w
--   union a b              what is in a or in b
--   intersection a b       what is in both
--   difference w a b       what is in a and not in b, at width w
--   count_below k f        how many numbers below k pass f
use Rattle.std.specs.Prelude.{ℕ, zero, suc, ◌+◌, ◌-◌, ◌/◌, ◌%◌, ◌^◌, Bool, if◌then◌else◌, ◌==◌, bit_and, bit_or, nat_lt}

-- the membership test: bit r of n
unfoldable pub has : ℕ → ℕ → Bool
has n r = n / 2 ^ r % 2 == 1

-- n with bit r set; past the width it stays n
unfoldable pub with_member : ℕ → ℕ → ℕ → ℕ
with_member w n r = if nat_lt r w then bit_or n (2 ^ r) else n

-- n with bit r cleared; past the width it stays n
unfoldable pub without_member : ℕ → ℕ → ℕ → ℕ
without_member w n r = if nat_lt r w then bit_and n (2 ^ w - 1 - 2 ^ r) else n

-- the members of either
unfoldable pub union : ℕ → ℕ → ℕ
union a b = bit_or a b

-- the members of both
unfoldable pub intersection : ℕ → ℕ → ℕ
intersection a b = bit_and a b

-- the members of a that b lacks
unfoldable pub difference : ℕ → ℕ → ℕ → ℕ
difference w a b = bit_and a (2 ^ w - 1 - b)

-- how many of the numbers below k pass the test
unfoldable pub count_below : ℕ → (ℕ → Bool) → ℕ
count_below zero f = 0
count_below (suc k) f = (if f k then 1 else 0) + count_below k f
