-- The events that stand in a list of bytes, as far as there are rows for them. Assumes nothing.
--   script      the events of at most n rows, the bytes that they took, and the end
--   end_number  0 no byte is left, 10 no row is left, else the number of the fault
use Rattle.std.specs.Prelude.{ℕ, zero, suc, ◌+◌, ◌-◌, List, [], ◌∷◌, ◌++◌, length, Ok, Err, Result}
use Rattle.records.specs.declared.event.Event.{Event}
use Rattle.records.specs.declared.fault.Fault.{Fault}
use Rattle.records.specs.Events.{event_taken}
use Rattle.records.specs.Faults.{number_of}
use Rattle.records.specs.Parts.{Taken}
use Rattle.monitor.specs.declared.run.Stop.{Stop}
use Rattle.monitor.specs.declared.run.Stop.TheVariants.{NoByteLeft, NoRowLeft}

abbrev pub End : Type 0
End = Result Stop Fault

abbrev pub end_number : End → ℕ
end_number (Ok NoByteLeft) = 0
end_number (Ok NoRowLeft) = 10
end_number (Err f) = number_of f

pub record Script : Type 0 where
  pub events : List Event
  pub bytes : ℕ
  pub end : End

-- no event, and this end
abbrev pub only_end : End → Script
only_end why = record { events = []; bytes = 0; end = why }

-- these events, which took n bytes, and then the others
abbrev pub first : List Event → ℕ → Script → Script
first es n s = record { events = es ++ s.events; bytes = n + s.bytes; end = s.end }

-- go on after an event, or end with the fault
abbrev pub onward : Taken Event → (Event → List ℕ → Script) → Script
onward (Ok p) f = f p.0 p.1
onward (Err f) g = only_end (Err f)

-- is a byte left, is a row left, is the kind an event's, is the body whole: asked in this order;
-- the bytes begin at a place
unfoldable pub script : ℕ → List ℕ → ℕ → Script
script zero [] at = only_end (Ok NoByteLeft)
script (suc n) [] at = only_end (Ok NoByteLeft)
script zero (b ∷ bs) at = only_end (Ok NoRowLeft)
script (suc n) (b ∷ bs) at =
    onward (event_taken (b ∷ bs) at) (λ e rest.
    let taken : ℕ = length (b ∷ bs) - length rest in
    first (e ∷ []) taken (script n rest (at + taken)))

-- of a run over these bytes with these rows
abbrev pub script_of : {A : Type 0} → List ℕ → List A → Script
script_of bytes rows = script (length rows) bytes 0
