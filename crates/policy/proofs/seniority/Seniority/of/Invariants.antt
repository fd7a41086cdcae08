use Rattle.std.proofs.Common.{◌≡◌}
use Rattle.policy.specs.Seniority.{closed_below}
use Rattle.policy.proofs.seniority.Seniority.of.Given as goal

abbrev pub invariant-loop-role : goal.invariant-loop-role
invariant-loop-role l = l.rows ≡ closed_below l.role l.draft.tables.hierarchy.juniors
