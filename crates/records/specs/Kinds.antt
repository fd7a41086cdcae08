-- The kinds of record: which reader takes which, and how long the body of each is. Assumes nothing.
use Rattle.std.specs.Prelude.{ℕ, Bool, if◌then◌else◌, ◌&&◌, ◌||◌, Some, None, Option, ◌==◌, nat_le}
use Rattle.records.specs.declared.kinds.Reader.{Reader}
use Rattle.records.specs.declared.kinds.Reader.TheVariants.{Policy, Events}

-- low and high belong to it
abbrev pub between : ℕ → ℕ → ℕ → Bool
between low high k = nat_le low k && nat_le k high

-- the kinds that a reader takes
abbrev pub reads : Reader → ℕ → Bool
reads Policy k = between 1 13 k
reads Events k = between 32 39 k

-- the body length of a kind, or none where the kind is unknown
unfoldable pub body_length : ℕ → Option ℕ
body_length k =
    if k == 12 then Some 0
    else if k == 34 || k == 35 || k == 37 then Some 1
    else if k == 1 || k == 5 || k == 10 || k == 13 then Some 3
    else if between 2 11 k || between 32 39 k then Some 2
    else None
