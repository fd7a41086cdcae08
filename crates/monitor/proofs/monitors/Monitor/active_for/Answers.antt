use Rattle.std.proofs.Common.{◌≡◌, true, ◌↔◌, sym, subst}
use Rattle.sets.specs.Aliases.{RoleSet}
use Rattle.sets.specs.Sets.{has}
use Rattle.monitor.specs.Standing.{ActiveFor}
use Rattle.monitor.specs.StandingLaws.{told_active_for}
use Rattle.monitor.proofs.monitors.Monitor.active_for.Goals as goal

pub returns-clause-sessions : goal.returns-clause-sessions
returns-clause-sessions g c r =
    let cells = c.args.self.now.governed.state.cells in
    subst (λ (s : RoleSet). (has s.bits r ≡ true) ↔ ActiveFor cells c.args.user r)
    (sym c.active_in.ensures) (told_active_for cells c.args.user r)
