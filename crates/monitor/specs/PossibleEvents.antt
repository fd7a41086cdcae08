-- What is seen of a possible event: the tables and the cells that it is asked in. Assumes nothing.
use Rattle.std.specs.Prelude.{◌≡◌}
use Rattle.records.specs.declared.event.Event.{Event}
use Rattle.policy.specs.declared.tables.Tables.{Tables}
use Rattle.monitor.specs.declared.governed.GovernedState.{GovernedState}
use Rattle.monitor.specs.declared.possible.PossibleEvent.{PossibleEvent}
use Rattle.monitor.specs.declared.states.Cells.{Cells}
use Rattle.monitor.specs.Governed as governed

abbrev pub tables_of : PossibleEvent → Tables
tables_of p = governed.tables_of p.governed.now

abbrev pub cells_of : PossibleEvent → Cells
cells_of p = governed.cells_of p.governed.now

-- it is this event, asked in this state
pub record Asks (g : GovernedState) (e : Event) (p : PossibleEvent) : Type 0 where
  pub state : p.governed.now ≡ g
  pub event : p.event ≡ e
