use Rattle.std.proofs.Common.{List, ap, ◌∙◌}
use Rattle.monitor.specs.declared.sessions.Session.{Session}
use Rattle.monitor.specs.declared.sessions.Whose.TheVariants.{User}
use Rattle.monitor.specs.GovernedLaws.{sessions-seats_in}
use Rattle.monitor.specs.Sessions.{seats_in}
use Rattle.monitor.proofs.governed.GovernedState.seats.Goals as goal

pub returns : goal.returns
returns c =
    let w = User c.args.user in
    c.seats_among.ensures ∙ ap (λ (xs : List Session). seats_in w xs) c.sessions.ensures
    ∙ sessions-seats_in c.args.self.now w
