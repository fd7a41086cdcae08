-- Precedence: what a role requires before it is enabled, assigned or activated. Assumes nothing.
-- Every state is allowed: a role stays so when what it required goes.
--   required_set, required   the roles that a role requires, by the kind of the requirement
--   missing_required         the lowest required role that does not stand
--   violation_by             the first question that an event fails
use Rattle.std.specs.Prelude.{ℕ, Bool, not, ◌&&◌, [], None, Option, slice_index_or}
use Rattle.std.specs.Option.{option_map, option_or}
use Rattle.sets.specs.First.{first_below}
use Rattle.sets.specs.Sets.{has}
use Rattle.sets.specs.Aliases.{RoleSet}
use Rattle.records.specs.declared.event.Event.{Event}
use Rattle.records.specs.declared.event.Event.TheVariants.{Assign, Enable, Activate}
use Rattle.policy.specs.declared.tables.Tables.{Tables}
use Rattle.policy.specs.Entries.{no_roles}
use Rattle.monitor.specs.declared.states.Cells.{Cells}
use Rattle.monitor.specs.declared.sessions.Session.{Session}
use Rattle.monitor.specs.declared.sessions.Whose.TheVariants.{Anyone, User}
use Rattle.monitor.specs.Cells.{assigned_in, is_active_for, is_assigned, is_enabled, session_at}
use Rattle.monitor.specs.Meaning.{Meaning}
use Rattle.monitor.specs.Sessions.{active, owner}
use Rattle.families.specs.Family.{family}
use Rattle.families.specs.declared.precedence.Violation.{Violation}
use Rattle.families.specs.declared.precedence.RequirementKind.{RequirementKind}
use Rattle.families.specs.declared.precedence.RequirementKind.TheVariants.{Enabled, AssignedToUser, AssignedToAny, ActiveForAny, ActiveInSession, ActiveForOwner}

-- the row of a policy for the kind: its number in the records, less one
abbrev pub requirement_row : RequirementKind → ℕ
requirement_row Enabled = 0
requirement_row AssignedToUser = 1
requirement_row AssignedToAny = 2
requirement_row ActiveForAny = 3
requirement_row ActiveInSession = 4
requirement_row ActiveForOwner = 5

abbrev pub required_set : Tables → RequirementKind → ℕ → RoleSet
required_set t k r =
    slice_index_or (slice_index_or t.requirements.sets (requirement_row k) []) r no_roles

abbrev pub required : Tables → RequirementKind → ℕ → ℕ → Bool
required t k r b = has (required_set t k r).bits b

abbrev pub missing_required : Tables → RequirementKind → ℕ → (ℕ → Bool) → Option ℕ
missing_required t k r stands = first_below 32 (λ b. required t k r b && not (stands b))

-- the question of one kind
abbrev pub unmet_requirement : Tables → RequirementKind → ℕ → (ℕ → Bool) → Option Violation
unmet_requirement t k r stands =
    option_map (λ b. record { kind = k; role = b }) (missing_required t k r stands)

-- the role is assigned to some user
abbrev pub assigned_anywhere : Cells → ℕ → Bool
assigned_anywhere c b = has (assigned_in c.assigned) b

-- 51
abbrev pub unmet_at_enabling : Tables → Cells → ℕ → Option Violation
unmet_at_enabling t c r = unmet_requirement t Enabled r (is_enabled c)

-- 52, 53
abbrev pub unmet_at_assignment : Tables → Cells → ℕ → ℕ → Option Violation
unmet_at_assignment t c u r =
    option_or (unmet_requirement t AssignedToUser r (is_assigned c u))
    (unmet_requirement t AssignedToAny r (assigned_anywhere c))

-- 54, 55, 56: of anyone, in the session, and of its owner
abbrev pub unmet_at_activation : Tables → Cells → ℕ → Session → Option Violation
unmet_at_activation t c r x =
    option_or (unmet_requirement t ActiveForAny r (is_active_for c Anyone))
    (option_or (unmet_requirement t ActiveInSession r (has (active x)))
    (unmet_requirement t ActiveForOwner r (is_active_for c (User (owner x)))))

-- the first question that an event fails, put to the state before it
abbrev pub violation_by : Tables → Cells → Event → Option Violation
violation_by t c (Assign u r) = unmet_at_assignment t c u r
violation_by t c (Enable r) = unmet_at_enabling t c r
violation_by t c (Activate s r) = unmet_at_activation t c r (session_at c s)
violation_by t c _ = None

abbrev pub requirement_number : RequirementKind → ℕ
requirement_number Enabled = 51
requirement_number AssignedToUser = 52
requirement_number AssignedToAny = 53
requirement_number ActiveForAny = 54
requirement_number ActiveInSession = 55
requirement_number ActiveForOwner = 56

abbrev pub violation_number : Violation → ℕ
violation_number v = requirement_number v.kind

abbrev pub violation_subject : Violation → ℕ
violation_subject v = v.role

abbrev pub precedence : Meaning
precedence = family (λ t c. Unit {0}) violation_by violation_number violation_subject
