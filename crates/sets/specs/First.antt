-- The first of several answers, from 0 up, and the least number that passes. Assumes nothing.
use Rattle.std.specs.Prelude.{ℕ, zero, suc, Bool, if◌then◌else◌, Some, None, Option}
use Rattle.std.specs.Option.{option_or}

-- the first answer that f gives at a number below k
unfoldable pub first_of : {A : Type 0} → ℕ → (ℕ → Option A) → Option A
first_of zero f = None
first_of (suc k) f = option_or (first_of k f) (f k)

-- the least number below k that passes the test
abbrev pub first_below : ℕ → (ℕ → Bool) → Option ℕ
first_below k f = first_of k (λ i. if f i then Some i else None)
