-- Two runs, one after the other, are one run over both parts. Assumes nothing.
use Rattle.std.specs.Prelude.{◌≡◌, ℕ, ◌+◌, List, ◌++◌, drop}
use Rattle.policy.specs.declared.tables.Tables.{Tables}
use Rattle.monitor.specs.declared.states.Cells.{Cells}
use Rattle.monitor.specs.declared.rows.Row.{Row}
use Rattle.monitor.specs.History.{replies, after}
use Rattle.monitor.specs.Meaning.{Meaning}
use Rattle.monitor.specs.Rows.{rows_of}
use Rattle.monitor.specs.Scripts.{Script, end_number, script}

-- what a script leaves, from a state
abbrev pub rows_in : List Meaning → Tables → Cells → Script → List Row
rows_in ms t c s = rows_of s.events (replies ms t c s.events)

-- of a run with n rows that ends because no row is left, and a run with m more over the rest of the
-- bytes
pub record OneRun (ms : List Meaning) (t : Tables) (c : Cells) (one two whole : Script)
    : Type 0 where
  pub rows : rows_in ms t c whole
      ≡ rows_in ms t c one ++ rows_in ms t (after ms t c one.events) two
  pub state : after ms t c whole.events ≡ after ms t (after ms t c one.events) two.events
  pub bytes : whole.bytes ≡ one.bytes + two.bytes
  pub number : end_number whole.end ≡ end_number two.end

abbrev pub Joins : List Meaning → Tables → Cells → List ℕ → ℕ → Type 0
Joins ms t c bytes n = (m : ℕ)
    → let one : Script = script n bytes 0 in
    OneRun ms t c one (script m (drop one.bytes bytes) 0) (script (n + m) bytes 0)
