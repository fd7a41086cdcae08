use Rattle.std.proofs.Common.{ℕ, get_or, sym, ap, ◌∙◌, arith}
use Rattle.sets.specs.Aliases.{RoleSet}
use Rattle.sets.specs.FirstLaws.{First, first_some, first_none}
use Rattle.sets.specs.Sets.{has, union}
use Rattle.policy.specs.RowsUnionLaws.{none_with, one_row_more, smaller_rest, no_row_more}
use Rattle.policy.specs.Seniority.{rows_union}
use Rattle.policy.proofs.seniority.gather.Goals as goal

pub loop-role-init : goal.loop-role-init
loop-role-init c =
    ap (λ (s : RoleSet). union s.bits (rows_union c.args.rows.now c.args.chosen 32)) c.empty-all.ensures.value
    ∙ none_with (rows_union c.args.rows.now c.args.chosen 32)

pub loop-role-smaller : goal.loop-role-smaller
loop-role-smaller c =
    let r : First 32 (has c.loop-role.rest.bits) c.in-Some.role = first_some 32 _ _ (sym c.in-Some.ensures.value) in
    omega (arith, smaller_rest c.loop-role.rest.bits c.in-Some.role r.within r.passes, ap (λ (s : RoleSet). s.bits) c.without-rest.ensures.value)

pub loop-role-preserved : goal.loop-role-preserved
loop-role-preserved c =
    let rows = c.args.rows.now in
    let r : First 32 (has c.loop-role.rest.bits) c.in-Some.role = first_some 32 _ _ (sym c.in-Some.ensures.value) in
    one_row_more rows c.loop-role.all.bits c.union-all.result.bits c.loop-role.rest c.without-rest.result c.in-Some.role r.within r.passes
    c.without-rest.ensures.value
    (ap (λ (s : RoleSet). s.bits) c.union-all.ensures.value ∙ ap (λ (s : RoleSet). union c.loop-role.all.bits s.bits) (c.at_or.ensures ∙ ap (get_or rows c.in-Some.role) c.empty.ensures.value))
    ∙ c.loop-role.invariant

pub returns : goal.returns
returns c =
    ap {B = RoleSet} (λ (n : ℕ). record { bits = n })
    (sym (no_row_more c.args.rows.now c.loop-role.all.bits c.loop-role.rest (first_none 32 (has c.loop-role.rest.bits) (sym c.lowest.ensures.value ∙ c.in_default.is))) ∙ c.loop-role.invariant)
