-- Cardinality: limits on who is authorised for what, and on what is active. Assumes nothing.
--   users_of, roles_of   the users authorised for a role, the roles authorised for a user; with the
--                        seats of a user and the sessions using a role, what the limits bound
--   SeatsWithin          no user takes more seats than the limit allows, said of sessions and roles
--   newly_authorised     the roles for which a user with these roles assigned was not authorised
--   violation_of         the first question that a change fails: of what is gained by it, put to
--                        the state after it
use Rattle.std.specs.Prelude.{◌≡◌, ℕ, ◌≤◌, Bool, true, List, not, ◌&&◌, Some, None, Option}
use Rattle.std.specs.Option.{option_map, option_or}
use Rattle.sets.specs.First.{first_below}
use Rattle.sets.specs.Sets.{has, count_below, difference}
use Rattle.sets.specs.Aliases.{RoleSet}
use Rattle.policy.specs.declared.tables.Tables.{Tables}
use Rattle.policy.specs.Asking.{question}
use Rattle.policy.specs.Entries.{holds}
use Rattle.policy.specs.Limits.{limit_of_users, limit_of_roles, limit_of_active, limit_of_sessions, within}
use Rattle.monitor.specs.declared.changes.Change.{Change}
use Rattle.monitor.specs.declared.changes.Change.TheVariants.{Assigned, Enabled, Seated}
use Rattle.monitor.specs.declared.states.Cells.{Cells}
use Rattle.monitor.specs.Authority.{authority_of}
use Rattle.monitor.specs.Cells.{authorised_roles, seats, using}
use Rattle.monitor.specs.Changes.{applied, gained}
use Rattle.monitor.specs.Meaning.{Meaning}
use Rattle.monitor.specs.Sessions.{owner}
use Rattle.monitor.specs.Standing.{is_seat, pairs_below}
use Rattle.families.specs.Family.{family, by_change, if_any}
use Rattle.families.specs.declared.cardinality.Violation.{Violation}
use Rattle.families.specs.declared.cardinality.Violation.TheVariants.{UsersOfRole, RolesOfUser, SeatsOfUser, SessionsOfRole}

-- of the authorised roles of each user
abbrev pub users_of : List RoleSet → ℕ → ℕ
users_of authorised r = count_below 64 (λ u. holds authorised u r)

abbrev pub roles_of : List RoleSet → ℕ → ℕ
roles_of authorised u = count_below 32 (holds authorised u)

-- every count is within its limit
pub record WithinLimits (t : Tables) (c : Cells) : Type 0 where
  pub users : (r : ℕ) → within (limit_of_users t.limits r) (users_of c.authorised r) ≡ true
  pub roles : (u : ℕ) → within (limit_of_roles t.limits u) (roles_of c.authorised u) ≡ true
  pub seats : (u : ℕ) → within (limit_of_active t.limits u) (seats c u) ≡ true
  pub sessions : (r : ℕ) → within (limit_of_sessions t.limits r) (using c r) ≡ true

-- of each user with a limit, at most so many pairs of a session of theirs and a role active in it
abbrev pub SeatsWithin : Tables → Cells → Type 0
SeatsWithin t c = (u most : ℕ) → limit_of_active t.limits u ≡ Some most
    → pairs_below t.sizes.sessions 32 (is_seat c u) ≤ most

abbrev pub newly_authorised : Tables → Cells → ℕ → RoleSet → ℕ
newly_authorised t c u roles =
    difference 32 (authority_of t roles).bits (authorised_roles c u).bits

-- a role is one of these and over its limit of users, or of sessions; and the lowest such role
abbrev pub is_over_users : Tables → List RoleSet → ℕ → ℕ → Bool
is_over_users t authorised roles r =
    has roles r && not (within (limit_of_users t.limits r) (users_of authorised r))

abbrev pub is_over_sessions : Tables → Cells → ℕ → ℕ → Bool
is_over_sessions t c roles r =
    has roles r && not (within (limit_of_sessions t.limits r) (using c r))

abbrev pub over_users : Tables → List RoleSet → ℕ → Option ℕ
over_users t authorised roles = first_below 32 (is_over_users t authorised roles)

abbrev pub over_sessions : Tables → Cells → ℕ → Option ℕ
over_sessions t c roles = first_below 32 (is_over_sessions t c roles)

-- 41 and 42, where the user is newly authorised for these roles
abbrev pub over_authorised : Tables → List RoleSet → ℕ → ℕ → Option Violation
over_authorised t authorised u roles =
    option_or (option_map UsersOfRole (over_users t authorised roles))
    (question (within (limit_of_roles t.limits u) (roles_of authorised u)) (RolesOfUser u) None)

-- 43 and 44, of a state in which these roles have become active for the user
abbrev pub over_active : Tables → Cells → ℕ → ℕ → Option Violation
over_active t c u roles =
    question (within (limit_of_active t.limits u) (seats c u)) (SeatsOfUser u)
    (option_map SessionsOfRole (over_sessions t c roles))

abbrev pub violation_of : Tables → Cells → Change → Option Violation
violation_of t c (Assigned u roles) =
    let new : ℕ = newly_authorised t c u roles in
    if_any new (over_authorised t (applied t c (Assigned u roles)).authorised u new)
violation_of t c (Enabled roles) = None
violation_of t c (Seated s x) =
    let new : ℕ = gained c (Seated s x) in
    if_any new (over_active t (applied t c (Seated s x)) (owner x) new)

abbrev pub violation_number : Violation → ℕ
violation_number (UsersOfRole r) = 41
violation_number (RolesOfUser u) = 42
violation_number (SeatsOfUser u) = 43
violation_number (SessionsOfRole r) = 44

abbrev pub violation_subject : Violation → ℕ
violation_subject (UsersOfRole r) = r
violation_subject (RolesOfUser u) = u
violation_subject (SeatsOfUser u) = u
violation_subject (SessionsOfRole r) = r

abbrev pub cardinality : Meaning
cardinality = family WithinLimits (by_change violation_of) violation_number violation_subject
