use Rattle.std.proofs.Common.{◌≡◌, ◌∙◌, Ok, sym, ap}
use Rattle.sets.specs.Sets.{has}
use Rattle.sets.specs.Aliases.{RoleSet}
use Rattle.policy.specs.Asking.{ok_unless}
use Rattle.monitor.specs.declared.states.Cells.{Cells}
use Rattle.monitor.specs.Cells.{assigned_roles, is_assigned}
use Rattle.families.specs.declared.precedence.RequirementKind.TheVariants.{AssignedToUser, AssignedToAny}
use Rattle.monitor.specs.PossibleEvents.{tables_of, cells_of}
use Rattle.families.specs.Precedence.{assigned_anywhere, unmet_requirement}
use Rattle.families.proofs.Asking.{goes_on}
use Rattle.families.proofs.precedence.unmet_at_assignment.Goals as goal

pub returns : goal.returns
returns c =
    let t = tables_of c.args.possible in
    let cells = cells_of c.args.possible in
    let r = c.args.role in
    let first : ok_unless (unmet_requirement t AssignedToUser r (is_assigned cells c.args.user))
    ≡ Ok c.in_ok-require.field-0 =
    ap (λ (s : RoleSet). ok_unless (unmet_requirement t AssignedToUser r (has s.bits)))
    (sym (c.assigned-own.ensures
    ∙ ap (λ (x : Cells). assigned_roles x c.args.user) c.cells.ensures))
    ∙ sym c.require.ensures ∙ c.in_ok-require.was in
    let second : c.require-2.result
    ≡ ok_unless (unmet_requirement t AssignedToAny r (assigned_anywhere cells)) =
    c.require-2.ensures
    ∙ ap (λ (s : RoleSet). ok_unless (unmet_requirement t AssignedToAny r (has s.bits)))
    c.assigned_to_any-anywhere.ensures in
    goes_on _ _ c.require-2.result _ first second
