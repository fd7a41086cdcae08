-- A policy read from bytes: what each record is asked, and what it enters. Assumes nothing.
--   is_sizes, is_end    the kind of a record that has a place of its own
--   in_range            the numbers of a record are in range
--   has_distinct_pair   its last two numbers differ, where they have to
--   is_unlimited        its subject had no limit, where it sets one
--   with_entry          the tables with what it says
--   after_entry         the tables after it, or its fault
--   reading             the tables and the count of bytes, or the first fault
--   answer_of, draft_of what the caller and the draft get of a reading
use Rattle.std.specs.Prelude.{ℕ, zero, suc, ◌+◌, ◌-◌, Bool, true, false, not, ◌&&◌, List, [], length, is_some, Some, Ok, Err, Result, ◌==◌, if◌then◌else◌, nat_lt, slice_index_or, slice_set}
use Rattle.records.specs.Kinds.{between}
use Rattle.records.specs.Parts.{then as and_then}
use Rattle.records.specs.Entries.{entry_taken}
use Rattle.records.specs.declared.fault.Fault.{Fault}
use Rattle.records.specs.declared.fault.Fault.TheVariants.{MisplacedSizes, OutOfRange, EqualPair, RepeatedLimit, NoByte}
use Rattle.records.specs.declared.entry.Entry.{Entry}
use Rattle.records.specs.declared.entry.Entry.TheVariants.{Sizes, Inherits, StaticPair, DynamicPair, ConflictingUsers, LimitOfRoleUsers, LimitOfUserRoles, LimitOfUserActive, LimitOfRoleSessions, Required, Dependency, End, AssignmentConflict}
use Rattle.sets.specs.Aliases.{RoleSet}
use Rattle.policy.specs.declared.tables.Sizes.{Sizes as Counts}
use Rattle.policy.specs.declared.tables.Limits.{Limits}
use Rattle.policy.specs.declared.tables.Tables.{Tables}
use Rattle.policy.specs.Limits.{limit_of_users, limit_of_roles, limit_of_active, limit_of_sessions}
use Rattle.policy.specs.Updates.{only, bare, with_role, with_pair, with_users, with_hierarchy, with_ssd, with_dsd, with_activation_conflicts, with_assignment_conflicts, with_limits, with_requirements, with_dependencies}

abbrev pub same : Bool → Bool → Bool
same true b = b
same false b = not b

-- is it a sizes record, and is it the end record
abbrev pub is_sizes : Entry → Bool
is_sizes (Sizes u r n) = true
is_sizes _ = false

abbrev pub is_end : Entry → Bool
is_end End = true
is_end _ = false

-- are all numbers in range: the sizes in their limits, users and roles below the sizes, a condition
-- from 1 to 6
abbrev pub in_range : Counts → Entry → Bool
in_range s (Sizes u r n) = between 1 64 u && (between 1 32 r && between 1 64 n)
in_range s (Inherits a b) = nat_lt a s.roles && nat_lt b s.roles
in_range s (StaticPair a b) = nat_lt a s.roles && nat_lt b s.roles
in_range s (DynamicPair a b) = nat_lt a s.roles && nat_lt b s.roles
in_range s (ConflictingUsers r u v) = nat_lt r s.roles && (nat_lt u s.users && nat_lt v s.users)
in_range s (LimitOfRoleUsers r n) = nat_lt r s.roles
in_range s (LimitOfUserRoles u n) = nat_lt u s.users
in_range s (LimitOfUserActive u n) = nat_lt u s.users
in_range s (LimitOfRoleSessions r n) = nat_lt r s.roles
in_range s (Required k a b) = between 1 6 k && (nat_lt a s.roles && nat_lt b s.roles)
in_range s (Dependency a b) = nat_lt a s.roles && nat_lt b s.roles
in_range s End = true
in_range s (AssignmentConflict r u v) = nat_lt r s.roles && (nat_lt u s.users && nat_lt v s.users)

-- are the last two different, where they have to be
abbrev pub has_distinct_pair : Entry → Bool
has_distinct_pair (ConflictingUsers r u v) = not (u == v)
has_distinct_pair (Dependency a b) = not (a == b)
has_distinct_pair (AssignmentConflict r u v) = not (u == v)
has_distinct_pair _ = true

-- had the subject of a limit none
abbrev pub is_unlimited : Limits → Entry → Bool
is_unlimited l (LimitOfRoleUsers r n) = not (is_some (limit_of_users l r))
is_unlimited l (LimitOfUserRoles u n) = not (is_some (limit_of_roles l u))
is_unlimited l (LimitOfUserActive u n) = not (is_some (limit_of_active l u))
is_unlimited l (LimitOfRoleSessions r n) = not (is_some (limit_of_sessions l r))
is_unlimited l _ = true

-- the limits with one more
abbrev pub with_limit_of_users : Limits → ℕ → ℕ → Limits
with_limit_of_users l role n = record l { users = slice_set l.users role (Some n) }

abbrev pub with_limit_of_roles : Limits → ℕ → ℕ → Limits
with_limit_of_roles l user n = record l { roles = slice_set l.roles user (Some n) }

abbrev pub with_limit_of_active : Limits → ℕ → ℕ → Limits
with_limit_of_active l user n = record l { active = slice_set l.active user (Some n) }

abbrev pub with_limit_of_sessions : Limits → ℕ → ℕ → Limits
with_limit_of_sessions l role n = record l { sessions = slice_set l.sessions role (Some n) }

-- the required sets with one more role that a condition requires of another
abbrev pub with_required : List (List RoleSet) → ℕ → ℕ → ℕ → List (List RoleSet)
with_required sets k a b =
    slice_set sets (k - 1) (with_role (slice_index_or sets (k - 1) []) a b)

-- what an entry enters; a sizes record begins anew
abbrev pub with_entry : Tables → Entry → Tables
with_entry t (Sizes u r n) = only (record { users = u; roles = r; sessions = n })
with_entry t (Inherits a b) = with_hierarchy t (with_role t.hierarchy.juniors a b)
with_entry t (StaticPair a b) = with_ssd t (with_pair t.ssd.partners a b)
with_entry t (DynamicPair a b) = with_dsd t (with_pair t.dsd.partners a b)
with_entry t (ConflictingUsers r u v) =
    with_activation_conflicts t (with_users t.activation_conflicts.partners r u v)
with_entry t (LimitOfRoleUsers r n) = with_limits t (with_limit_of_users t.limits r n)
with_entry t (LimitOfUserRoles u n) = with_limits t (with_limit_of_roles t.limits u n)
with_entry t (LimitOfUserActive u n) = with_limits t (with_limit_of_active t.limits u n)
with_entry t (LimitOfRoleSessions r n) = with_limits t (with_limit_of_sessions t.limits r n)
with_entry t (Required k a b) = with_requirements t (with_required t.requirements.sets k a b)
with_entry t (Dependency a b) = with_dependencies t (with_role t.dependencies.needs a b)
with_entry t End = t
with_entry t (AssignmentConflict r u v) =
    with_assignment_conflicts t (with_users t.assignment_conflicts.partners r u v)

-- the questions of a whole record at a place, in their order, and the tables after it
abbrev pub after_entry : Tables → Entry → ℕ → Result Tables Fault
after_entry t e at =
    if not (same (is_sizes e) (at == 0)) then Err (MisplacedSizes at)
    else if not (in_range t.sizes e) then Err (OutOfRange at)
    else if not (has_distinct_pair e) then Err (EqualPair at)
    else if not (is_unlimited t.limits e) then Err (RepeatedLimit at)
    else Ok (with_entry t e)

-- the tables read from s, which begins at a place, and the place after the end record; of at most k
-- records
unfoldable pub read_from : ℕ → Tables → List ℕ → ℕ → Result (Tables × ℕ) Fault
read_from zero t s at = Err (NoByte at)
read_from (suc k) t s at =
    and_then (entry_taken s at) (λ p.
    let next : ℕ = at + (length s - length p.1) in
    and_then (after_entry t p.0 at)
    (λ u. if is_end p.0 then Ok (u, next) else read_from k u p.1 next))

-- the reading of all the bytes: every record takes at least one
abbrev pub reading : List ℕ → Result (Tables × ℕ) Fault
reading bytes = read_from (length bytes + 1) bare bytes 0

-- the answer, and the draft's tables: bare after a refusal
abbrev pub answer_of : Result (Tables × ℕ) Fault → Result ℕ Fault
answer_of (Ok p) = Ok p.1
answer_of (Err f) = Err f

abbrev pub draft_of : Result (Tables × ℕ) Fault → Tables
draft_of (Ok p) = p.0
draft_of (Err f) = bare
