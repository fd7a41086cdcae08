use Rattle.std.proofs.Common.{sym, ap, ◌∙◌, arith}
use Rattle.std.proofs.lemmas.Bool.{and_parts}
use Rattle.sets.specs.Aliases.{RoleSet}
use Rattle.sets.specs.FirstLaws.{First, first_some, first_none}
use Rattle.sets.specs.Sets.{has}
use Rattle.policy.specs.RowsUnionLaws.{smaller_rest}
use Rattle.monitor.specs.Changes.{next}
use Rattle.monitor.specs.PossibleEvents.{tables_of, cells_of}
use Rattle.families.specs.Cardinality.{is_over_sessions}
use Rattle.families.proofs.Searches.{still_remaining, lowest_remaining, none_remaining}
use Rattle.families.proofs.cardinality.over_sessions.Goals as goal

pub loop-role-init : goal.loop-role-init
loop-role-init c = λ k l h. (and_parts (has c.args.roles.bits k) _ h).0

pub loop-role-smaller : goal.loop-role-smaller
loop-role-smaller c =
    let r : First 32 (has c.loop-role.rest.bits) c.in-Some.role = first_some 32 _ _ (sym c.in-Some.ensures.value) in
    omega (arith, smaller_rest c.loop-role.rest.bits c.in-Some.role r.within r.passes, ap (λ (s : RoleSet). s.bits) c.without-rest.ensures.value)

pub loop-role-preserved : goal.loop-role-preserved
loop-role-preserved c =
    still_remaining (is_over_sessions (tables_of c.args.possible) (next (tables_of c.args.possible) (cells_of c.args.possible) c.args.possible.event) c.args.roles.bits) c.loop-role.rest c.without-rest.result c.in-Some.role
    (sym c.is_over_sessions.ensures ∙ c.if-is_over_sessions.false) c.without-rest.ensures.value c.loop-role.invariant

pub returns-then-is_over_sessions : goal.returns-then-is_over_sessions
returns-then-is_over_sessions c =
    lowest_remaining (is_over_sessions (tables_of c.args.possible) (next (tables_of c.args.possible) (cells_of c.args.possible) c.args.possible.event) c.args.roles.bits) c.loop-role.rest c.in-Some.role (first_some 32 _ _ (sym c.in-Some.ensures.value))
    (sym c.is_over_sessions.ensures ∙ c.if-is_over_sessions.true) c.loop-role.invariant

pub returns : goal.returns
returns c =
    none_remaining (is_over_sessions (tables_of c.args.possible) (next (tables_of c.args.possible) (cells_of c.args.possible) c.args.possible.event) c.args.roles.bits) c.loop-role.rest (first_none 32 (has c.loop-role.rest.bits) (sym c.lowest.ensures.value ∙ c.in_default.is)) c.loop-role.invariant
