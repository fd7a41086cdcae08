use Rattle.std.proofs.Common.{ℕ, List, ap, ◌∙◌}
use Rattle.sets.specs.Aliases.{RoleSet}
use Rattle.monitor.specs.declared.sessions.Session.{Session}
use Rattle.monitor.specs.GovernedLaws.{sessions-active_in}
use Rattle.monitor.specs.Sessions.{active_in}
use Rattle.monitor.proofs.governed.GovernedState.active_in.Goals as goal

pub returns : goal.returns
returns c =
    let w = c.args.whose in
    c.active_among.ensures
    ∙ ap {B = RoleSet} (λ (xs : List Session). record { bits = active_in w xs }) c.sessions.ensures
    ∙ ap {B = RoleSet} (λ (n : ℕ). record { bits = n }) (sessions-active_in c.args.self.now w)
