use Rattle.std.proofs.Common.{List, get_or, sym, ap, ◌∙◌}
use Rattle.sets.specs.Aliases.{RoleSet}
use Rattle.policy.specs.Entries.{no_roles}
use Rattle.policy.proofs.Drafts.{passes}
use Rattle.policy.proofs.checked.Checked.check.Goals as goal

pub invariant_of-self : goal.invariant_of-self
invariant_of-self c = record {
  closed = λ a. ap (λ (rows : List RoleSet). (get_or rows a no_roles).bits) c.of-seniority.ensures.value;
  passes = passes c.args.draft.now _ c.vet-verdict.ensures (sym c.is_ok.ensures.value ∙ c.if-is_ok.true);
}
