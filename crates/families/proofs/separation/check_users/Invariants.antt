use Rattle.std.proofs.Common.{◌≡◌, ◌<◌, ◌||◌, ℕ}
use Rattle.sets.specs.Sets.{has}
use Rattle.monitor.specs.declared.states.Cells.{Cells}
use Rattle.monitor.specs.Changes.{next}
use Rattle.monitor.specs.PossibleEvents.{tables_of, cells_of}
use Rattle.families.specs.Separation.{is_rival}
use Rattle.families.proofs.separation.check_users.Given as goal

-- the users in conflict for a role that was looked at, and for one of the rest
abbrev pub invariant-loop-role : goal.invariant-loop-role
invariant-loop-role l =
    let p = l.possible in
    let after : Cells = next (tables_of p) (cells_of p) p.event in
    (v : ℕ) → v < 64
    → (has l.conflicting.bits v || is_rival (tables_of p) after l.owner l.rest v)
    ≡ is_rival (tables_of p) after l.owner l.fn.new v

abbrev pub decreases-loop-role : goal.decreases-loop-role
decreases-loop-role l = l.rest.bits
