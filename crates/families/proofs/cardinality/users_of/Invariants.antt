use Rattle.std.proofs.Common.{◌≡◌, ◌≤◌}
use Rattle.sets.specs.Sets.{count_below}
use Rattle.policy.specs.Entries.{holds}
use Rattle.families.proofs.cardinality.users_of.Given as goal

abbrev pub invariant-loop-roles : goal.invariant-loop-roles
invariant-loop-roles l =
    (l.users ≡ count_below l.roles-index (λ u. holds l.authorised u l.role))
    × (l.users ≤ l.roles-index)
