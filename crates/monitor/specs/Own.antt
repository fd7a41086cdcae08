-- A rule that an archive brings: its numbers are 100 to 199. Assumes nothing.
use Rattle.std.specs.Prelude.{◌≡◌, ◌≤◌, false}
use Rattle.records.specs.declared.event.Event.{Event}
use Rattle.policy.specs.declared.tables.Tables.{Tables}
use Rattle.monitor.specs.declared.states.Cells.{Cells}
use Rattle.monitor.specs.Authority.{Fits}
use Rattle.monitor.specs.Meaning.{Meaning, Lawful}
use Rattle.monitor.specs.Possible.{Possible}

-- each number that it names for a possible event that it does not admit, in a state that it
-- allows, is one of an own rule
abbrev pub Confined : Meaning → Type 0
Confined m = (t : Tables) (c : Cells) (e : Event) → Lawful t → Fits t c → Possible t c e
    → m.allowed t c → m.admits t c e ≡ false
    → (100 ≤ m.number t c e) × (m.number t c e ≤ 199)
