-- The row of each event: its kind and what it was answered; and what a run leaves. Assumes nothing.
use Rattle.std.specs.Prelude.{◌≡◌, ℕ, ◌<◌, ◌≤◌, List, [], ◌∷◌, ◌++◌, length, drop, Ok}
use Rattle.records.specs.declared.event.Event.{Event}
use Rattle.records.specs.Events.{kind_of, event_taken}
use Rattle.monitor.specs.declared.states.Cells.{Cells}
use Rattle.monitor.specs.declared.governed.GovernedState.{GovernedState}
use Rattle.monitor.specs.declared.rows.Row.{Row}
use Rattle.monitor.specs.declared.run.Outcome.{Outcome}
use Rattle.monitor.specs.Answers.{Answer, number_of, subject_of, place_of, roles_of}
use Rattle.monitor.specs.Governed.{answer_to, state_after, answers_to, state_after_all, Extends}
use Rattle.monitor.specs.Meaning.{Meaning}
use Rattle.monitor.specs.Scripts.{Script, script_of}

abbrev pub row_of : Event → Answer → Row
row_of e a = record {
  kind = kind_of e;
  number = number_of a;
  subject = subject_of a;
  place = place_of a;
  roles = roles_of a;
}

abbrev pub rows_of : List Event → List Answer → List Row
rows_of [] rs = []
rows_of (e ∷ es) [] = []
rows_of (e ∷ es) (a ∷ rs) = row_of e a ∷ rows_of es rs

-- of the rules of a pile and a governed state: the rows and the state after a run over these bytes;
-- later rows are as they were
abbrev pub rows_after : List Meaning → GovernedState → List ℕ → List Row → List Row
rows_after ms g bytes rows =
    let es : List Event = (script_of bytes rows).events in
    rows_of es (answers_to ms g es) ++ drop (length es) rows

abbrev pub state_run : List Meaning → GovernedState → List ℕ → List Row → Cells
state_run ms g bytes rows = state_after_all ms g (script_of bytes rows).events

-- at a place, one event at the front of the bytes: with its row, the bytes after it and the state
-- after it
pub record FilledRow (ms : List Meaning) (g : GovernedState) (bytes : List ℕ) (at : ℕ)
    (tail : List ℕ) (row : Row) (c : Cells) : Type 0 where
  pub event : Event
  pub taken : event_taken bytes at ≡ Ok (event, tail)
  pub shorter : length tail < length bytes
  pub written : row ≡ row_of event (answer_to ms g event)
  pub reached : c ≡ state_after ms g event

abbrev pub outcome : Script → Outcome
outcome s = record { rows = length s.events; bytes = s.bytes; end = s.end }

-- whatever events led here, with those of the bytes they are one list, and the law over whole runs
-- holds of it
abbrev pub ExtendsByBytes : List Meaning → GovernedState → List ℕ → List Row → Cells → Type 0
ExtendsByBytes ms g bytes rows d =
    let es : List Event = (script_of bytes rows).events in Extends ms g es (answers_to ms g es) d

-- no more rows are filled than there are, every event takes a byte at least, and no more bytes are
-- taken than there are
pub record RunBounds (rows : List Row) (bytes : List ℕ) (o : Outcome) : Type 0 where
  pub filled : o.rows ≤ length rows
  pub each : o.rows ≤ o.bytes
  pub taken : o.bytes ≤ length bytes
