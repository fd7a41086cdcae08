use Rattle.std.proofs.Common.{◌≡◌, Bool, true, ◌↔◌, sym, ap, ◌∙◌, subst}
use Rattle.sets.specs.Aliases.{RoleSet}
use Rattle.sets.specs.Sets.{has}
use Rattle.monitor.specs.Standing.{ActiveForAny}
use Rattle.monitor.specs.StandingLaws.{told_active}
use Rattle.monitor.proofs.monitors.Monitor.is_active_for_any.Goals as goal

pub returns : goal.returns
returns g c =
    let cells = c.args.self.now.governed.state.cells in
    let is = c.contains.ensures
    ∙ ap (λ (s : RoleSet). has s.bits c.args.role) c.active_in.ensures in
    record {
      answer = is;
      sessions =
          subst (λ (b : Bool). (b ≡ true) ↔ ActiveForAny cells c.args.role) (sym is)
          (told_active cells c.args.role);
    }
