use Rattle.std.proofs.Common.{◌≡◌}
use Rattle.policy.specs.Approved as approved
use Rattle.monitor.specs.Cells.{blank}
use Rattle.monitor.specs.Governed.{policy_of, cells_of}
use Rattle.monitor.specs.Monitors.{state_of, pile_of}
use Rattle.monitor.specs.ReplayLaws.{Reached}
use Rattle.monitor.proofs.monitors.Monitor.resume.Given as goal

abbrev pub invariant-loop-event : goal.invariant-loop-event
invariant-loop-event g l =
    let policy = approved.policy_of l.fn.checked in
    Reached (g.P.Rule.rules l.fn.pile) (approved.tables_of policy) blank l.events l.event-index
    (cells_of (state_of l.monitor))
    × (policy_of (state_of l.monitor) ≡ policy)
    × (pile_of l.monitor ≡ l.fn.pile)
