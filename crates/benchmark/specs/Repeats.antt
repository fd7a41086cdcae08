-- What the same work comes to, done many times over. Assumes nothing.
--   held_over       the tables held after so many checks of one policy
--   times_over      a list of events, so many times
--   rows_over       the rows after so many runs over these events: the last run wrote them
--   outcome_over    what came of the last run; nothing where there was none
use Rattle.std.specs.Prelude.{ℕ, zero, suc, List, [], ◌++◌, length, drop, Ok, Result}
use Rattle.records.specs.declared.event.Event.{Event}
use Rattle.records.specs.declared.fault.Fault.{Fault}
use Rattle.policy.specs.declared.tables.Tables.{Tables}
use Rattle.monitor.specs.declared.governed.GovernedState.{GovernedState}
use Rattle.monitor.specs.declared.rows.Row.{Row}
use Rattle.monitor.specs.declared.run.Outcome.{Outcome}
use Rattle.monitor.specs.declared.run.Stop.TheVariants.{NoByteLeft}
use Rattle.monitor.specs.Governed.{tables_of, state_after_all}
use Rattle.monitor.specs.History.{replies}
use Rattle.monitor.specs.Meaning.{Meaning}
use Rattle.monitor.specs.Rows.{rows_of, outcome}
use Rattle.monitor.specs.Scripts.{Script}
use Rattle.report.specs.Judging.{held_after}

abbrev pub held_over : ℕ → Result (Tables × ℕ) Fault → Tables → Tables
held_over zero reading held = held
held_over (suc n) reading held = held_after reading held

abbrev pub times_over : ℕ → List Event → List Event
times_over zero es = []
times_over (suc n) es = times_over n es ++ es

-- later rows are as they were
abbrev pub rows_over : ℕ → List Meaning → GovernedState → List Event → List Row → List Row
rows_over zero ms g es rows = rows
rows_over (suc n) ms g es rows =
    rows_of es (replies ms (tables_of g) (state_after_all ms g (times_over n es)) es)
    ++ drop (length es) rows

abbrev pub outcome_over : ℕ → Script → Outcome
outcome_over zero s = record { rows = 0; bytes = 0; end = Ok NoByteLeft }
outcome_over (suc n) s = outcome s
