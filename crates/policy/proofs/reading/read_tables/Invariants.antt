use Rattle.std.proofs.Common.{◌≡◌, ℕ, ◌-◌, ◌<◌, ◌≤◌, length}
use Rattle.policy.specs.WellFormed.{WellFormed}
use Rattle.policy.specs.Reading.{read_from, reading}
use Rattle.policy.proofs.reading.read_tables.Given as goal

abbrev pub invariant-loop-entry : goal.invariant-loop-entry
invariant-loop-entry l =
    WellFormed l.tables
    × (length l.rest ≤ length l.bytes)
    × ((k : ℕ) × (length l.rest < k) × (read_from k l.tables l.rest (length l.bytes - length l.rest) ≡ reading l.bytes))

abbrev pub decreases-loop-entry : goal.decreases-loop-entry
decreases-loop-entry l = length l.rest
