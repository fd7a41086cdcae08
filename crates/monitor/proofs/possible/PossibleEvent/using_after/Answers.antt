use Rattle.std.proofs.Common.{List, set, sym, ap, ◌∙◌}
use Rattle.monitor.specs.declared.sessions.Session.{Session}
use Rattle.monitor.specs.GovernedLaws.{sessions-using-set}
use Rattle.monitor.specs.Sessions.{sessions_using}
use Rattle.monitor.proofs.possible.PossibleEvent.using_after.Goals as goal

pub returns-in-Seated : goal.returns-in-Seated
returns-in-Seated c =
    let p = c.args.self in
    let s = c.in-Seated.session in
    let to = c.in-Seated.to in
    c.using_with.ensures
    ∙ ap (λ (xs : List Session). sessions_using (set xs s to) c.args.role) c.sessions.ensures
    ∙ sessions-using-set p.governed.now p.event p.possible s to (sym c.in-Seated.is ∙ p.makes)
    c.args.role
