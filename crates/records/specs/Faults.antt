-- The number and the place of each fault of a record. Assumes nothing.
use Rattle.std.specs.Prelude.{ℕ}
use Rattle.records.specs.declared.fault.Fault.{Fault}
use Rattle.records.specs.declared.fault.Fault.TheVariants.{UnknownKind, CutBody, MisplacedSizes, OutOfRange, EqualPair, RepeatedLimit, NoByte}

-- the number that is printed for the fault
abbrev pub number_of : Fault → ℕ
number_of (UnknownKind at) = 1
number_of (CutBody at) = 2
number_of (MisplacedSizes at) = 3
number_of (OutOfRange at) = 4
number_of (EqualPair at) = 5
number_of (RepeatedLimit at) = 6
number_of (NoByte at) = 7

-- the index of the first byte of the refused record
abbrev pub place_of : Fault → ℕ
place_of (UnknownKind at) = at
place_of (CutBody at) = at
place_of (MisplacedSizes at) = at
place_of (OutOfRange at) = at
place_of (EqualPair at) = at
place_of (RepeatedLimit at) = at
place_of (NoByte at) = at
