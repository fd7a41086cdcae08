use Rattle.std.proofs.Common.{◌≡◌, ℕ, get_or, sym, ap, ◌∙◌, subst, arith}
use Rattle.std.proofs.lemmas.Bool.{eqb-true}
use Rattle.sets.specs.Aliases.{RoleSet}
use Rattle.policy.specs.Entries.{no_roles}
use Rattle.policy.specs.Seniority.{rows_union, closed_below, closure, TellsSeniority}
use Rattle.policy.specs.SeniorityLaws.{closure_tells}
use Rattle.policy.specs.RowsUnionLaws.{close_more, close_none}
use Rattle.policy.proofs.seniority.Seniority.of.Goals as goal
use Rattle.policy.proofs.seniority.Seniority.of.Goals.{then-not-is_empty, else-not-is_empty}

pub loop-role-init : goal.loop-role-init
unfolding closed_below
loop-role-init c = c.alone-rows.ensures

pub loop-role-preserved : goal.loop-role-preserved
loop-role-preserved c =
    let juniors = c.args.draft.now.tables.hierarchy.juniors in
    let row : c.of-juniors.result.bits ≡ (get_or juniors c.loop-role.role no_roles).bits = ap (λ (s : RoleSet). s.bits) c.of-juniors.ensures in
    elim c.if-not-is_empty.branch [
      | then-not-is_empty w ↦ w.rows-is ∙ close_more juniors c.loop-role.rows w.spread-rows.result c.loop-role.role w.gather-below.result.bits c.loop-role.invariant
          (ap (λ (s : RoleSet). s.bits) w.gather-below.ensures ∙ ap (λ (s : RoleSet). rows_union c.loop-role.rows s 32) c.of-juniors.ensures) w.spread-rows.ensures
      | else-not-is_empty w ↦ w.rows-is ∙ close_none juniors c.loop-role.rows c.loop-role.role c.loop-role.invariant
          (sym row ∙ eqb-true c.of-juniors.result.bits 0 (sym c.is_empty.ensures.value ∙ w.if-not-is_empty.false))
    ]

pub returns : goal.returns
returns c =
    let d = c.args.draft.now in
    let juniors = d.tables.hierarchy.juniors in
    let is : c.loop-role.rows ≡ closure juniors = c.loop-role.invariant ∙ ap (λ (k : ℕ). closed_below k juniors) (omega arith) in
    record {
      value = is;
      tells = subst (TellsSeniority juniors) (sym is) (closure_tells juniors d.tables.sizes.roles d.formed.roles_sized.1 d.formed.juniors_within);
    }
