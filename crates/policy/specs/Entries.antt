-- What stands in the tables of a policy. Assumes nothing.
--   holds        a role is in the set at a place
--   inherits     the first role inherits the second directly
--   ssd_pair     two roles are in static conflict;  dsd_pair: in dynamic conflict
--   users_pair   two users conflict for a role: they may not both have it active
--   assignment_pair   they may not share an assignment of it
--   requires_role   by a condition the first role requires the second;  depends: it depends on it
use Rattle.std.specs.Prelude.{ℕ, zero, suc, Bool, false, List, [], slice_index_or}
use Rattle.sets.specs.Aliases.{RoleSet, UserSet}
use Rattle.sets.specs.Sets.{has}
use Rattle.policy.specs.declared.tables.Tables.{Tables}

abbrev pub no_roles : RoleSet
no_roles = record { bits = 0 }

abbrev pub no_users : UserSet
no_users = record { bits = 0 }

abbrev pub holds : List RoleSet → ℕ → ℕ → Bool
holds rows i r = has (slice_index_or rows i no_roles).bits r

abbrev pub holds_user : List (List UserSet) → ℕ → ℕ → ℕ → Bool
holds_user rows r u v = has (slice_index_or (slice_index_or rows r []) u no_users).bits v

abbrev pub inherits : Tables → ℕ → ℕ → Bool
inherits t a b = holds t.hierarchy.juniors a b

abbrev pub ssd_pair : Tables → ℕ → ℕ → Bool
ssd_pair t a b = holds t.ssd.partners a b

abbrev pub dsd_pair : Tables → ℕ → ℕ → Bool
dsd_pair t a b = holds t.dsd.partners a b

abbrev pub users_pair : Tables → ℕ → ℕ → ℕ → Bool
users_pair t r u v = holds_user t.activation_conflicts.partners r u v

abbrev pub assignment_pair : Tables → ℕ → ℕ → ℕ → Bool
assignment_pair t r u v = holds_user t.assignment_conflicts.partners r u v

-- the conditions are numbered from 1
abbrev pub requires_role : Tables → ℕ → ℕ → ℕ → Bool
requires_role t zero a b = false
requires_role t (suc k) a b = holds (slice_index_or t.requirements.sets k []) a b

abbrev pub depends : Tables → ℕ → ℕ → Bool
depends t a b = holds t.dependencies.needs a b
