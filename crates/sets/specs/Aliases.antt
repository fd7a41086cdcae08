-- The two sets by their names: in specs a word is its number. Assumes nothing.
use Rattle.std.specs.Prelude.{ℕ}
use Rattle.sets.specs.declared.bit_set.BitSet.{BitSet}

-- a set of roles
abbrev pub RoleSet : Type 0
RoleSet = BitSet ℕ

-- a set of users
abbrev pub UserSet : Type 0
UserSet = BitSet ℕ
