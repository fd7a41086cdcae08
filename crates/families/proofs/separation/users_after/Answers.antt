use Rattle.std.proofs.Common.{ℕ, List, set, sym, ap, ◌∙◌}
use Rattle.sets.specs.Sets.{has}
use Rattle.monitor.specs.declared.changes.Change.{Change}
use Rattle.monitor.specs.declared.sessions.Session.{Session}
use Rattle.monitor.specs.declared.sessions.Whose.TheVariants.{User}
use Rattle.monitor.specs.Changes.{applied}
use Rattle.monitor.specs.GovernedLaws.{sessions-active_in, sessions-active_in-set}
use Rattle.monitor.specs.PossibleEvents.{tables_of, cells_of}
use Rattle.monitor.specs.Sessions.{active_in}
use Rattle.families.proofs.separation.users_after.Goals as goal

pub returns-in-Seated : goal.returns-in-Seated
returns-in-Seated c v l =
    let p = c.args.possible in
    let s = c.in-Seated.session in
    let to = c.in-Seated.to in
    c.users_put.ensures v l
    ∙ ap (λ (xs : List Session). has (active_in (User v) (set xs s to)) c.args.role) c.sessions-sessions.ensures
    ∙ ap (λ (n : ℕ). has n c.args.role)
    (sessions-active_in-set p.governed.now p.event p.possible s to (sym c.in-Seated.is ∙ p.makes) (User v))

pub returns-in-Assigned : goal.returns-in-Assigned
returns-in-Assigned c v l =
    let p = c.args.possible in
    c.users_with.ensures v l
    ∙ ap (λ (xs : List Session). has (active_in (User v) xs) c.args.role) c.sessions-sessions.ensures
    ∙ ap (λ (n : ℕ). has n c.args.role) (sessions-active_in p.governed.now (User v))
    ∙ ap (λ (d : Change). has (active_in (User v) (applied (tables_of p) (cells_of p) d).sessions) c.args.role) (sym c.in-Assigned.is ∙ p.makes)

pub returns-in-Enabled : goal.returns-in-Enabled
returns-in-Enabled c v l =
    let p = c.args.possible in
    c.users_with-in-Enabled.ensures v l
    ∙ ap (λ (xs : List Session). has (active_in (User v) xs) c.args.role) c.sessions-sessions.ensures
    ∙ ap (λ (n : ℕ). has n c.args.role) (sessions-active_in p.governed.now (User v))
    ∙ ap (λ (d : Change). has (active_in (User v) (applied (tables_of p) (cells_of p) d).sessions) c.args.role) (sym c.in-Enabled.is ∙ p.makes)
