-- Separation of duty: static, dynamic, and of conflicting users. Assumes nothing.
--   Separated        the states that it allows
--   newly_assigned   the roles among these that the user was not assigned
--   static_conflict, dynamic_conflict, user_conflict
--                    the lowest role or user in conflict with what is gained, in the state after
--   violation_of     the first question that a change fails
use Rattle.std.specs.Prelude.{◌≡◌, ℕ, zero, suc, Bool, true, false, ◌&&◌, ◌||◌, None, Option}
use Rattle.std.specs.Option.{option_map, option_or}
use Rattle.sets.specs.First.{first_below}
use Rattle.sets.specs.Sets.{has, difference}
use Rattle.sets.specs.Aliases.{RoleSet}
use Rattle.policy.specs.declared.tables.Tables.{Tables}
use Rattle.policy.specs.Entries.{dsd_pair, users_pair}
use Rattle.policy.specs.Seniority.{rows_union}
use Rattle.monitor.specs.declared.changes.Change.{Change}
use Rattle.monitor.specs.declared.changes.Change.TheVariants.{Assigned, Enabled, Seated}
use Rattle.monitor.specs.declared.sessions.Whose.TheVariants.{User}
use Rattle.monitor.specs.declared.states.Cells.{Cells}
use Rattle.monitor.specs.Apart.{StaticallyApart}
use Rattle.monitor.specs.Authority.{authority_of}
use Rattle.monitor.specs.Cells.{assigned_roles, is_active_for}
use Rattle.monitor.specs.Changes.{applied, gained}
use Rattle.monitor.specs.Meaning.{Meaning}
use Rattle.monitor.specs.Sessions.{owner}
use Rattle.families.specs.Family.{family, by_change, if_any}
use Rattle.families.specs.declared.separation.Violation.{Violation}
use Rattle.families.specs.declared.separation.Violation.TheVariants.{StaticRole, DynamicRole, ConflictingUser}

pub record Separated (t : Tables) (c : Cells) : Type 0 where
  pub statically : StaticallyApart t c
  -- nobody has two roles in dynamic conflict active
  pub dynamically : (u a b : ℕ) → is_active_for c (User u) a ≡ true
      → is_active_for c (User u) b ≡ true → dsd_pair t a b ≡ false
  -- no two users who conflict for a role both have it active
  pub by_users : (r u v : ℕ) → is_active_for c (User u) r ≡ true
      → is_active_for c (User v) r ≡ true → users_pair t r u v ≡ false

abbrev pub newly_assigned : Cells → ℕ → RoleSet → RoleSet
newly_assigned c u roles = record { bits = difference 32 roles.bits (assigned_roles c u).bits }

-- 45: the lowest role that these roles authorise for, in static conflict with a newly assigned one
abbrev pub static_conflict : Tables → Cells → ℕ → RoleSet → Option ℕ
static_conflict t c u roles =
    let partners : ℕ = rows_union t.ssd.partners (newly_assigned c u roles) 32 in
    first_below 32 (λ a. has (authority_of t roles).bits a && has partners a)

-- 46: the lowest role active for the user, in dynamic conflict with one of the roles
abbrev pub dynamic_conflict : Tables → Cells → ℕ → RoleSet → Option ℕ
dynamic_conflict t c u roles =
    let partners : ℕ = rows_union t.dsd.partners roles 32 in
    first_below 32 (λ a. is_active_for c (User u) a && has partners a)

-- some number below n passes the test
unfoldable pub some_below : ℕ → (ℕ → Bool) → Bool
some_below zero test = false
some_below (suc n) test = some_below n test || test n

-- the user is in conflict with u for one of the roles, and has it active
abbrev pub is_rival : Tables → Cells → ℕ → RoleSet → ℕ → Bool
is_rival t c u roles v =
    some_below 32 (λ r. has roles.bits r && (users_pair t r u v && is_active_for c (User v) r))

-- 47: the lowest such user
abbrev pub user_conflict : Tables → Cells → ℕ → RoleSet → Option ℕ
user_conflict t c u roles = first_below 64 (is_rival t c u roles)

abbrev pub violation_of : Tables → Cells → Change → Option Violation
violation_of t c (Assigned u roles) =
    if_any (newly_assigned c u roles).bits (option_map StaticRole (static_conflict t c u roles))
violation_of t c (Enabled roles) = None
violation_of t c (Seated s x) =
    let after : Cells = applied t c (Seated s x) in
    let new : RoleSet = record { bits = gained c (Seated s x) } in
    if_any new.bits
    (option_or (option_map DynamicRole (dynamic_conflict t after (owner x) new))
    (option_map ConflictingUser (user_conflict t after (owner x) new)))

abbrev pub violation_number : Violation → ℕ
violation_number (StaticRole a) = 45
violation_number (DynamicRole a) = 46
violation_number (ConflictingUser v) = 47

abbrev pub violation_subject : Violation → ℕ
violation_subject (StaticRole a) = a
violation_subject (DynamicRole a) = a
violation_subject (ConflictingUser v) = v

abbrev pub separation : Meaning
separation = family Separated (by_change violation_of) violation_number violation_subject
