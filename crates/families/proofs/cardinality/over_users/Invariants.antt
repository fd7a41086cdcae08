use Rattle.families.specs.Cardinality.{is_over_users}
use Rattle.families.proofs.Searches.{Remaining}
use Rattle.families.proofs.cardinality.over_users.Given as goal

-- the roles that are over their limit are among the rest
abbrev pub invariant-loop-role : goal.invariant-loop-role
invariant-loop-role l = Remaining (is_over_users l.tables l.authorised l.roles.bits) l.rest

abbrev pub decreases-loop-role : goal.decreases-loop-role
decreases-loop-role l = l.rest.bits
