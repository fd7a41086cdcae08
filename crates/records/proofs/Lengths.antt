-- The table is the list of the kinds' body lengths, by computation.
use Rattle.std.proofs.Common.{◌≡◌, ℕ, ◌<◌, List, map, get_or, None, Option, arith}
use Rattle.std.specs.List.{range_with_len}
use Rattle.std.proofs.lemmas.List.FromFn.{get_or-map-range_with_len}
use Rattle.records.specs.Kinds.{body_length}

abbrev pub lengths : List (Option ℕ)
lengths = map body_length (range_with_len 0 256)

-- the entry at a kind is its body length
pub entry : (k : ℕ) → k < 256 → get_or lengths k None ≡ body_length k
entry k h = get_or-map-range_with_len body_length 0 256 k k None h (omega arith)
