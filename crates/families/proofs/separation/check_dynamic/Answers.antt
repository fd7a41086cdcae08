use Rattle.std.proofs.Common.{◌≡◌, ℕ, false, sym, ap, ◌∙◌}
use Rattle.std.specs.Option.{option_map}
use Rattle.sets.specs.Aliases.{RoleSet}
use Rattle.sets.specs.Sets.{has}
use Rattle.policy.specs.declared.tables.Tables.{Tables}
use Rattle.policy.specs.Asking.{ok_unless}
use Rattle.policy.specs.Seniority.{rows_union}
use Rattle.monitor.specs.declared.sessions.Whose.TheVariants.{User}
use Rattle.monitor.specs.declared.states.Cells.{Cells}
use Rattle.monitor.specs.Cells.{is_active_for}
use Rattle.monitor.specs.Changes.{next}
use Rattle.monitor.specs.PossibleEvents.{tables_of, cells_of}
use Rattle.families.specs.declared.separation.Violation.TheVariants.{DynamicRole}
use Rattle.families.proofs.Asking.{none_right}
use Rattle.families.proofs.separation.check_dynamic.Goals as goal

pub returns-then-is_empty : goal.returns-then-is_empty
returns-then-is_empty c =
    let p = c.args.possible in
    let after : Cells = next (tables_of p) (cells_of p) p.event in
    let partners : ℕ = rows_union (tables_of p).dsd.partners c.args.new 32 in
    let never : (a : ℕ) → has partners a ≡ false = λ a.
    sym (ap (λ (s : RoleSet). has s.bits a) c.gather-partners.ensures
    ∙ ap (λ (x : Tables). has (rows_union x.dsd.partners c.args.new 32) a) c.tables.ensures)
    ∙ c.is_empty.ensures.is c.if-is_empty.true a in
    ap (λ o. ok_unless (option_map DynamicRole o))
    (sym (none_right 32 (is_active_for after (User c.args.owner)) (has partners) never))
