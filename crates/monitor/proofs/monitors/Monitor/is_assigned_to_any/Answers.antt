use Rattle.std.proofs.Common.{◌≡◌, Bool, true, ◌↔◌, sym, ap, ◌∙◌, subst}
use Rattle.sets.specs.Aliases.{RoleSet}
use Rattle.sets.specs.Sets.{has}
use Rattle.monitor.specs.Standing.{AssignedToAny}
use Rattle.monitor.specs.StandingLaws.{told_assigned}
use Rattle.monitor.proofs.monitors.Monitor.is_assigned_to_any.Goals as goal

pub returns : goal.returns
returns g c =
    let cells = c.args.self.now.governed.state.cells in
    let is = c.contains.ensures
    ∙ ap (λ (s : RoleSet). has s.bits c.args.role) c.assigned_to_any.ensures in
    record {
      answer = is;
      users =
          subst (λ (b : Bool). (b ≡ true) ↔ AssignedToAny cells c.args.role) (sym is)
          (told_assigned cells c.args.role);
    }
