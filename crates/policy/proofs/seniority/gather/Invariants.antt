use Rattle.std.proofs.Common.{◌≡◌}
use Rattle.sets.specs.Sets.{union}
use Rattle.policy.specs.Seniority.{rows_union}
use Rattle.policy.proofs.seniority.gather.Given as goal

-- the rows that are gathered, and those of the rest
abbrev pub invariant-loop-role : goal.invariant-loop-role
invariant-loop-role l = union l.all.bits (rows_union l.rows l.rest 32) ≡ rows_union l.rows l.fn.chosen 32

abbrev pub decreases-loop-role : goal.decreases-loop-role
decreases-loop-role l = l.rest.bits
