use Rattle.std.proofs.Common.{List, ap, ◌∙◌}
use Rattle.monitor.specs.declared.sessions.Session.{Session}
use Rattle.monitor.specs.GovernedLaws.{sessions-using}
use Rattle.monitor.specs.Sessions.{sessions_using}
use Rattle.monitor.proofs.governed.GovernedState.using.Goals as goal

pub returns : goal.returns
returns c =
    c.using_among.ensures.count
    ∙ ap (λ (xs : List Session). sessions_using xs c.args.role) c.sessions.ensures
    ∙ sessions-using c.args.self.now c.args.role
