use Rattle.monitor.specs.Changes.{next}
use Rattle.monitor.specs.PossibleEvents.{tables_of, cells_of}
use Rattle.families.specs.Cardinality.{is_over_sessions}
use Rattle.families.proofs.Searches.{Remaining}
use Rattle.families.proofs.cardinality.over_sessions.Given as goal

-- the roles that are over their limit are among the rest
abbrev pub invariant-loop-role : goal.invariant-loop-role
invariant-loop-role l = Remaining (is_over_sessions (tables_of l.possible) (next (tables_of l.possible) (cells_of l.possible) l.possible.event) l.roles.bits) l.rest

abbrev pub decreases-loop-role : goal.decreases-loop-role
decreases-loop-role l = l.rest.bits
