-- What is seen of a desk, and what the events that it was asked leave on it. Assumes nothing.
--   state_on      the state of its monitor
--   answer_on     what an event is answered there
--   SameMonitor   its monitor is as it was
--   HasRoom       of a list, that a day's events can be added, 16 at most
--   Added         of a list, that these items were added
--   Noted         these rows were added to it, and these events to its journal
--   Asked         its monitor decided these events, one after the other; each has its row, and the
--                 granted ones are in the journal
--   Resumed       it began with these events, decided from the new state on, each with its row
--   GoesOn        events that were granted before are all granted again, and lead where they led
use Rattle.std.specs.Prelude.{◌≡◌, ◌+◌, ◌≤◌, List, ◌++◌, take, vec_len, vec_capacity}
use Rattle.std.specs.declared.vec.Vec.{Vec}
use Rattle.records.specs.declared.event.Event.{Event}
use Rattle.policy.specs.Approved as approved
use Rattle.policy.specs.declared.approved.Approved.{Approved}
use Rattle.monitor.specs.Answers.{Answer}
use Rattle.monitor.specs.declared.governed.GovernedState.{GovernedState}
use Rattle.monitor.specs.declared.rows.Row.{Row}
use Rattle.monitor.specs.Governed.{policy_of, cells_of, answer_to, answers_to, state_after_all}
use Rattle.monitor.specs.Cells.{blank}
use Rattle.monitor.specs.History.{replies, after}
use Rattle.monitor.specs.Journal.{granted_events, Resumes}
use Rattle.monitor.specs.Monitors.{state_of, SamePolicy}
use Rattle.monitor.specs.Rows.{rows_of}
use Rattle.monitor.specs.RunLaw.{RunLaw}
use Rattle.families.specs.House.{house_rules}
use Rattle.shift.specs.declared.desk.Desk.{Desk}

abbrev pub state_on : Desk → GovernedState
state_on desk = state_of desk.monitor

abbrev pub answer_on : Desk → Event → Answer
answer_on desk e = answer_to house_rules (state_on desk) e

abbrev pub SameMonitor : Desk → Desk → Type 0
SameMonitor old new = new.monitor ≡ old.monitor

abbrev pub HasRoom : {A Z : Type 0} → Vec A Z → Type 0
HasRoom list = vec_len list + 16 ≤ vec_capacity list

-- more was written behind what stood there, as far as there is room
pub record Added {A Z : Type 0} (old new : Vec A Z) (more : List A) : Type 0 where
  pub items : new.items ≡ take (vec_capacity old) (old.items ++ more)
  pub room : vec_capacity new ≡ vec_capacity old

pub record Noted (old new : Desk) (more : List Row) (granted : List Event) : Type 0 where
  pub rows : Added old.rows new.rows more
  pub journal : Added old.journal new.journal granted

pub record Asked (old new : Desk) (es : List Event) : Type 0 where
  pub state : cells_of (state_on new) ≡ state_after_all house_rules (state_on old) es
  pub same : SamePolicy old.monitor new.monitor
  pub noted : Noted old new (rows_of es (answers_to house_rules (state_on old) es))
      (granted_events es (answers_to house_rules (state_on old) es))

-- under a policy, by a journal of granted events; a new desk began with none
pub record Resumed (held : Approved) (events : List Event) (desk : Desk) : Type 0 where
  pub policy : policy_of (state_on desk) ≡ held
  pub state : cells_of (state_on desk) ≡ after house_rules (approved.tables_of held) blank events
  pub rows : desk.rows.items
      ≡ rows_of events (replies house_rules (approved.tables_of held) blank events)
  pub journal : desk.journal.items ≡ events
  pub room : HasRoom desk.rows × HasRoom desk.journal
  pub law : RunLaw house_rules (approved.tables_of held) events
      (replies house_rules (approved.tables_of held) blank events) (cells_of (state_on desk))

-- where the journal holds the granted ones of some list of events, they are all granted again, and
-- the state is the one that the list led to
abbrev pub GoesOn : Approved → List Event → Desk → Type 0
GoesOn held journal desk =
    Resumes house_rules (approved.tables_of held) journal (cells_of (state_on desk))
