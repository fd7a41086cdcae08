use Rattle.std.proofs.Common.{◌≡◌, sym, ap, ◌∙◌}
use Rattle.sets.specs.Sets.{has}
use Rattle.sets.specs.Aliases.{RoleSet}
use Rattle.monitor.specs.Cells.{is_authorised}
use Rattle.monitor.specs.AuthorityLaws.{stored_relation, relation_stored}
use Rattle.monitor.specs.GovernedLaws.{governed_formed, governed_fits}
use Rattle.monitor.proofs.governed.GovernedState.is_authorised.Goals as goal

pub returns : goal.returns
returns c =
    let g = c.args.self.now in
    let t = g.policy.draft.tables in
    let is : c.contains.result ≡ is_authorised g.state.cells c.args.user c.args.role =
    c.contains.ensures ∙ ap (λ (s : RoleSet). has s.bits c.args.role) c.authorised.ensures in
    record {
      answer = is;
      relation = (
        λ h. stored_relation t (governed_formed g) g.state.cells (governed_fits g) c.args.user
            c.args.role (sym is ∙ h),
        λ a. is ∙ relation_stored t (governed_formed g) g.state.cells (governed_fits g) c.args.user
            c.args.role a,
      );
    }
