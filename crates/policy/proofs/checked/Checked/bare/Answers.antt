use Rattle.std.proofs.Common.{List, get_or, sym, ap, subst}
use Rattle.sets.specs.Aliases.{RoleSet}
use Rattle.policy.specs.Entries.{no_roles}
use Rattle.policy.specs.Questions.{Passes}
use Rattle.policy.proofs.Bare.{bare-passes}
use Rattle.policy.proofs.checked.Checked.bare.Goals as goal

pub invariant_of-result : goal.invariant_of-result
invariant_of-result c = record {
  closed = λ a. ap (λ (rows : List RoleSet). (get_or rows a no_roles).bits) c.of-seniority.ensures.value;
  passes = subst Passes (sym c.bare-draft.ensures) bare-passes;
}
