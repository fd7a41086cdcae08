use Rattle.std.proofs.Common.{ℕ, List, set, sym, ap, ◌∙◌}
use Rattle.sets.specs.Aliases.{RoleSet}
use Rattle.monitor.specs.declared.sessions.Session.{Session}
use Rattle.monitor.specs.GovernedLaws.{sessions-active_in-set}
use Rattle.monitor.specs.Sessions.{active_in}
use Rattle.monitor.proofs.possible.PossibleEvent.active_after.Goals as goal

pub returns-in-Seated : goal.returns-in-Seated
returns-in-Seated c =
    let p = c.args.self in
    let w = c.args.whose in
    let s = c.in-Seated.session in
    let to = c.in-Seated.to in
    c.active_with.ensures
    ∙ ap {B = RoleSet} (λ (xs : List Session). record { bits = active_in w (set xs s to) })
    c.sessions.ensures
    ∙ ap {B = RoleSet} (λ (n : ℕ). record { bits = n })
    (sessions-active_in-set p.governed.now p.event p.possible s to (sym c.in-Seated.is ∙ p.makes) w)
