use Rattle.std.proofs.Common.{◌≡◌, ℕ, ◌<◌, false, not, ◌&&◌, eqb}
use Rattle.monitor.specs.PossibleEvents.{cells_of}
use Rattle.monitor.specs.Cells.{session_at}
use Rattle.monitor.specs.Sessions.{is_open}
use Rattle.own.proofs.one_open.other_open.Given as goal

abbrev pub invariant-loop-other : goal.invariant-loop-other
invariant-loop-other l =
    (k : ℕ) → k < l.other
    → (not (eqb k l.session) && is_open (session_at (cells_of l.possible) k)) ≡ false
