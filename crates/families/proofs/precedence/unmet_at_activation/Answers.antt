use Rattle.std.proofs.Common.{◌≡◌, ℕ, ◌∙◌, Err, Ok, sym, ap, rules}
use Rattle.std.proofs.lemmas.Bool.{or_parts}
use Rattle.sets.specs.Sets.{has}
use Rattle.sets.specs.Aliases.{RoleSet}
use Rattle.policy.specs.Asking.{ok_unless}
use Rattle.monitor.specs.declared.sessions.Whose.TheVariants.{Anyone, User}
use Rattle.families.specs.declared.precedence.RequirementKind.TheVariants.{ActiveForAny, ActiveInSession, ActiveForOwner}
use Rattle.monitor.specs.Cells.{is_active_for}
use Rattle.monitor.specs.Sessions.{active, owner}
use Rattle.monitor.specs.PossibleEvents.{tables_of, cells_of}
use Rattle.families.specs.Precedence.{unmet_requirement}
use Rattle.families.proofs.Asking.{stops, goes_on, unmet_requirement_none}
use Rattle.families.proofs.precedence.unmet_at_activation.Goals as goal

pub returns-in_err-require : goal.returns-in_err-require
returns-in_err-require c =
    let t = tables_of c.args.possible in
    let r = c.args.role in
    let first : ok_unless (unmet_requirement t ActiveForAny r (is_active_for (cells_of c.args.possible) Anyone)) ≡ Err c.in_err-require.field-0.0 =
    ap (λ (s : RoleSet). ok_unless (unmet_requirement t ActiveForAny r (has s.bits))) (sym c.active_in-anyone.ensures) ∙ sym c.require.ensures ∙ c.in_err-require.was in
    stops _ _ c.from_residual.result c.in_err-require.field-0.0 first (search rules)

pub returns-in_err-require-2 : goal.returns-in_err-require-2
returns-in_err-require-2 c =
    let t = tables_of c.args.possible in
    let r = c.args.role in
    let first : ok_unless (unmet_requirement t ActiveForAny r (is_active_for (cells_of c.args.possible) Anyone)) ≡ Ok c.in_ok-require.field-0 =
    ap (λ (s : RoleSet). ok_unless (unmet_requirement t ActiveForAny r (has s.bits))) (sym c.active_in-anyone.ensures) ∙ sym c.require.ensures ∙ c.in_ok-require.was in
    let second : ok_unless (unmet_requirement t ActiveInSession r (has (active c.args.session))) ≡ Err c.in_err-require-2.field-0.0 =
    ap (λ (s : RoleSet). ok_unless (unmet_requirement t ActiveInSession r (has s.bits))) (sym c.active-active.ensures) ∙ sym c.require-2.ensures ∙ c.in_err-require-2.was in
    goes_on _ _ c.from_residual-in_err-require-2.result _ first (stops _ _ c.from_residual-in_err-require-2.result c.in_err-require-2.field-0.0 second (search rules))

pub returns-then-is_empty : goal.returns-then-is_empty
returns-then-is_empty c =
    let t = tables_of c.args.possible in
    let cells = cells_of c.args.possible in
    let r = c.args.role in
    let none = λ (b : ℕ). or_parts _ _ (sym (c.union-required.ensures.members b) ∙ c.is_empty.ensures.is c.if-is_empty.true b) in
    let front = λ (b : ℕ). or_parts _ _ (sym (c.union.ensures.members b) ∙ (none b).0) in
    let first = unmet_requirement_none t ActiveForAny r (is_active_for cells Anyone) (λ b. sym (ap (λ (s : RoleSet). has s.bits b) c.required_set.ensures) ∙ (front b).0) in
    let second = unmet_requirement_none t ActiveInSession r (has (active c.args.session)) (λ b. sym (ap (λ (s : RoleSet). has s.bits b) c.required_set-2.ensures) ∙ (front b).1) in
    let third = unmet_requirement_none t ActiveForOwner r (is_active_for cells (User (owner c.args.session))) (λ b. sym (ap (λ (s : RoleSet). has s.bits b) c.required_set-3.ensures) ∙ (none b).1) in
    goes_on _ _ (Ok tt) tt first (goes_on _ _ (Ok tt) tt second (sym third))

pub returns : goal.returns
returns c =
    let t = tables_of c.args.possible in
    let r = c.args.role in
    let first : ok_unless (unmet_requirement t ActiveForAny r (is_active_for (cells_of c.args.possible) Anyone)) ≡ Ok c.in_ok-require.field-0 =
    ap (λ (s : RoleSet). ok_unless (unmet_requirement t ActiveForAny r (has s.bits))) (sym c.active_in-anyone.ensures) ∙ sym c.require.ensures ∙ c.in_ok-require.was in
    let second : ok_unless (unmet_requirement t ActiveInSession r (has (active c.args.session))) ≡ Ok c.in_ok-require-2.field-0 = ap (λ (s : RoleSet). ok_unless (unmet_requirement t ActiveInSession r (has s.bits))) (sym c.active-active.ensures) ∙ sym c.require-2.ensures ∙ c.in_ok-require-2.was in
    let third : c.require-3.result ≡ ok_unless (unmet_requirement t ActiveForOwner r (is_active_for (cells_of c.args.possible) (User (owner c.args.session)))) =
    c.require-3.ensures ∙ ap (λ (s : RoleSet). ok_unless (unmet_requirement t ActiveForOwner r (has s.bits))) c.active_in-owned.ensures ∙ ap (λ (o : ℕ). ok_unless (unmet_requirement t ActiveForOwner r (is_active_for (cells_of c.args.possible) (User o)))) c.owner-owner.ensures in
    goes_on _ _ c.require-3.result _ first (goes_on _ _ _ _ second third)
