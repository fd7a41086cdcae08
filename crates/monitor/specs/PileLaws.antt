-- What holds of every rule of two piles holds of every rule of their pile. It proves, for the law
-- of a pair, and assumes nothing.
use Rattle.std.specs.Prelude.{List, [], ◌∷◌, ◌++◌}
use Rattle.monitor.specs.Meaning.{Meaning, Every}

pub every_append : (P : Meaning → Type 0) (xs ys : List Meaning) → Every P xs → Every P ys
    → Every P (xs ++ ys)
every_append P [] ys p q = q
every_append P (x ∷ xs) ys p q = (p.0, every_append P xs ys p.1 q)
