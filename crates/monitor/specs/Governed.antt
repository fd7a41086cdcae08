-- What is seen of a state under its policy, and what its events are answered. Assumes nothing.
--   policy_of, tables_of, cells_of    the approved policy, its tables, and the cells of the state
--   answer_to, state_after            by the rules of a pile, the answer to one event and the cells
--                                     after it
--   answers_to, state_after_all       the same of a list of events
--   Extends                           what led to the state goes on with these events and answers
use Rattle.std.specs.Prelude.{List}
use Rattle.records.specs.declared.event.Event.{Event}
use Rattle.policy.specs.Approved as approved
use Rattle.policy.specs.declared.approved.Approved.{Approved}
use Rattle.policy.specs.declared.tables.Tables.{Tables}
use Rattle.monitor.specs.Answers.{Answer}
use Rattle.monitor.specs.declared.governed.GovernedState.{GovernedState}
use Rattle.monitor.specs.declared.states.Cells.{Cells}
use Rattle.monitor.specs.History.{reply, step, replies, after}
use Rattle.monitor.specs.Meaning.{Meaning}
use Rattle.monitor.specs.RunLaw.{ExtendsRun}

abbrev pub policy_of : GovernedState → Approved
policy_of g = g.policy

abbrev pub tables_of : GovernedState → Tables
tables_of g = approved.tables_of g.policy

abbrev pub cells_of : GovernedState → Cells
cells_of g = g.state.cells

abbrev pub answer_to : List Meaning → GovernedState → Event → Answer
answer_to ms g e = reply ms (tables_of g) (cells_of g) e

abbrev pub state_after : List Meaning → GovernedState → Event → Cells
state_after ms g e = step ms (tables_of g) (cells_of g) e

abbrev pub answers_to : List Meaning → GovernedState → List Event → List Answer
answers_to ms g es = replies ms (tables_of g) (cells_of g) es

abbrev pub state_after_all : List Meaning → GovernedState → List Event → Cells
state_after_all ms g es = after ms (tables_of g) (cells_of g) es

-- whatever events led here, with the events es and their answers rs they are one list, which leads
-- to the state d
abbrev pub Extends : List Meaning → GovernedState → List Event → List Answer → Cells → Type 0
Extends ms g es rs d = ExtendsRun ms (tables_of g) (cells_of g) es rs d
