use Rattle.std.proofs.Common.{ℕ, ◌≤◌, ◌↔◌, sym, ◌∙◌, subst}
use Rattle.monitor.specs.GovernedLaws.{governed_fits}
use Rattle.monitor.specs.Standing.{ActiveForAny}
use Rattle.monitor.specs.StandingLaws.{told_using, told_some}
use Rattle.monitor.proofs.monitors.Monitor.using.Goals as goal

pub returns-clause-sessions : goal.returns-clause-sessions
returns-clause-sessions g c =
    let s = c.args.self.now.governed in
    c.using.ensures
    ∙ told_using s.policy.draft.tables s.state.cells (governed_fits s) c.args.role

pub returns-clause-some : goal.returns-clause-some
returns-clause-some g c =
    let cells = c.args.self.now.governed.state.cells in
    subst (λ (n : ℕ). (1 ≤ n) ↔ ActiveForAny cells c.args.role) (sym c.using.ensures)
    (told_some cells c.args.role)
