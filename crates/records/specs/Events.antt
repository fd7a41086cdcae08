-- The event that a record is, by its kind and its body. Assumes nothing.
use Rattle.std.specs.Prelude.{ℕ, if◌then◌else◌, List, [], ◌∷◌, Some, None, Option, Result, ◌==◌}
use Rattle.std.specs.Borrow.{Bor}
use Rattle.records.specs.Parts.{Took, Taken, taken}
use Rattle.records.specs.declared.kinds.Reader.TheVariants.{Events}
use Rattle.records.specs.declared.fault.Fault.{Fault}
use Rattle.records.specs.declared.event.Event.{Event}
use Rattle.records.specs.declared.event.Event.TheVariants.{Assign, Deassign, Enable, Disable, Open, Close, Activate, Deactivate}

-- by the number of bytes in the body, then by the kind
abbrev pub event_of : ℕ → List ℕ → Option Event
event_of k [] = None
event_of k (a ∷ []) =
    if k == 34 then Some (Enable a)
    else if k == 35 then Some (Disable a)
    else if k == 37 then Some (Close a)
    else None
event_of k (a ∷ b ∷ []) =
    if k == 32 then Some (Assign a b)
    else if k == 33 then Some (Deassign a b)
    else if k == 36 then Some (Open a b)
    else if k == 38 then Some (Activate a b)
    else if k == 39 then Some (Deactivate a b)
    else None
event_of k (a ∷ b ∷ c ∷ more) = None

-- the kind of the record that asks for the event
abbrev pub kind_of : Event → ℕ
kind_of (Assign u r) = 32
kind_of (Deassign u r) = 33
kind_of (Enable r) = 34
kind_of (Disable r) = 35
kind_of (Open s u) = 36
kind_of (Close s) = 37
kind_of (Activate s r) = 38
kind_of (Deactivate s r) = 39

-- the event at the front, or the fault at its place
abbrev pub event_taken : List ℕ → ℕ → Taken Event
event_taken bytes at = taken Events event_of bytes at

-- what `take` answers of events
abbrev pub EventTaken : List ℕ → ℕ → Result (Event × Bor (List ℕ)) Fault → Type 0
EventTaken bytes at r = Took (event_taken bytes at) r
