use Rattle.std.proofs.Common.{◌≡◌, ◌≤◌, sym, ap, ◌∙◌, arith}
use Rattle.monitor.specs.declared.sessions.Whose.TheVariants.{User}
use Rattle.monitor.specs.Cells.{session_at}
use Rattle.monitor.specs.Governed.{cells_of}
use Rattle.monitor.specs.GovernedLaws.{governed_fits, sessions-in_place, seats_in-next}
use Rattle.monitor.specs.SessionLaws.{seats_most, seats_in_most, seats_in_each}
use Rattle.monitor.specs.Sessions.{seats_where, seats_in}
use Rattle.monitor.proofs.possible.PossibleEvent.seats_after.Goals as goal

pub overflow_add-result : goal.overflow_add-result
overflow_add-result c =
    let g = c.args.self.governed.now in
    omega (
      arith,
      seats_in_most (User c.args.user) (cells_of g).sessions,
      seats_most (User c.args.user) c.in-Seated.to,
      (governed_fits g).sound.wide.2,
    )

pub returns-in-Seated : goal.returns-in-Seated
returns-in-Seated c =
    let p = c.args.self in
    let g = p.governed.now in
    let w = User c.args.user in
    let s = c.in-Seated.session in
    let to = c.in-Seated.to in
    let is = sym c.in-Seated.is ∙ p.makes in
    let before : c.seats_where-before.result ≡ seats_where w (session_at (cells_of g) s) =
    c.seats_where-before.ensures
    ∙ ap (seats_where w) (c.session.ensures ∙ ap (λ d. session_at d s) c.cells.ensures) in
    let some : seats_where w (session_at (cells_of g) s) ≤ seats_in w (cells_of g).sessions =
    seats_in_each w (cells_of g).sessions s (sessions-in_place g p.event p.possible s to is) in
    let after = seats_in-next g p.event p.possible s to is w in
    omega arith
