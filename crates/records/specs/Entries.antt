-- The entry that a policy's record is, by its kind and its body. Assumes nothing.
use Rattle.std.specs.Prelude.{ℕ, if◌then◌else◌, List, [], ◌∷◌, Some, None, Option, Result, ◌==◌}
use Rattle.std.specs.Borrow.{Bor}
use Rattle.records.specs.Parts.{Took, Taken, taken}
use Rattle.records.specs.declared.kinds.Reader.TheVariants.{Policy}
use Rattle.records.specs.declared.fault.Fault.{Fault}
use Rattle.records.specs.declared.entry.Entry.{Entry}
use Rattle.records.specs.declared.entry.Entry.TheVariants.{Sizes, Inherits, StaticPair, DynamicPair, ConflictingUsers, LimitOfRoleUsers, LimitOfUserRoles, LimitOfUserActive, LimitOfRoleSessions, Required, Dependency, End, AssignmentConflict}

-- by the number of bytes in the body, then by the kind
abbrev pub entry_of : ℕ → List ℕ → Option Entry
entry_of k [] = if k == 12 then Some End else None
entry_of k (a ∷ []) = None
entry_of k (a ∷ b ∷ []) =
    if k == 2 then Some (Inherits a b)
    else if k == 3 then Some (StaticPair a b)
    else if k == 4 then Some (DynamicPair a b)
    else if k == 6 then Some (LimitOfRoleUsers a b)
    else if k == 7 then Some (LimitOfUserRoles a b)
    else if k == 8 then Some (LimitOfUserActive a b)
    else if k == 9 then Some (LimitOfRoleSessions a b)
    else if k == 11 then Some (Dependency a b)
    else None
entry_of k (a ∷ b ∷ c ∷ []) =
    if k == 1 then Some (Sizes a b c)
    else if k == 5 then Some (ConflictingUsers a b c)
    else if k == 10 then Some (Required a b c)
    else if k == 13 then Some (AssignmentConflict a b c)
    else None
entry_of k (a ∷ b ∷ c ∷ d ∷ more) = None

-- the entry at the front, or the fault at its place
abbrev pub entry_taken : List ℕ → ℕ → Taken Entry
entry_taken bytes at = taken Policy entry_of bytes at

-- what `take` answers of entries
abbrev pub EntryTaken : List ℕ → ℕ → Result (Entry × Bor (List ℕ)) Fault → Type 0
EntryTaken bytes at r = Took (entry_taken bytes at) r
