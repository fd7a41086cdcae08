use Rattle.std.proofs.Common.{◌∙◌, arith}
use Rattle.monitor.specs.GovernedLaws.{governed_fits}
use Rattle.monitor.specs.StandingLaws.{told_different, told_seats}
use Rattle.monitor.proofs.monitors.Monitor.seats.Goals as goal

pub returns-clause-pairs : goal.returns-clause-pairs
returns-clause-pairs g c =
    let s = c.args.self.now.governed in
    c.seats.ensures
    ∙ told_seats s.policy.draft.tables s.state.cells (governed_fits s) c.args.user

pub returns-clause-different : goal.returns-clause-different
returns-clause-different g c =
    omega (arith, told_different c.args.self.now.governed.state.cells c.args.user, c.seats.ensures)
