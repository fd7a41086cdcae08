-- When an event is possible: the questions of each event, in their order. Assumes nothing.
use Rattle.std.specs.Prelude.{◌≡◌, ℕ, Bool, not, ◌&&◌, Some, None, Option, nat_lt}
use Rattle.std.specs.Option.{option_map}
use Rattle.sets.specs.First.{first_below}
use Rattle.sets.specs.Sets.{has}
use Rattle.records.specs.declared.event.Event.{Event}
use Rattle.records.specs.declared.event.Event.TheVariants.{Assign, Deassign, Enable, Disable, Open, Close, Activate, Deactivate}
use Rattle.policy.specs.declared.tables.Sizes.{Sizes}
use Rattle.policy.specs.declared.tables.Tables.{Tables}
use Rattle.policy.specs.Asking.{question}
use Rattle.monitor.specs.declared.answers.Impossibility.{Impossibility}
use Rattle.monitor.specs.declared.answers.Impossibility.TheVariants.{OutOfRange, AlreadyAuthorised, NotAssigned, AlreadyEnabled, NotEnabled, AlreadyOpen, NotOpen, RoleDisabled, NotAuthorised, AlreadyActive, NotActive, InUse, StillActive}
use Rattle.monitor.specs.declared.sessions.Session.{Session}
use Rattle.monitor.specs.declared.sessions.Session.TheVariants as session
use Rattle.monitor.specs.declared.sessions.Whose.TheVariants.{Anyone, User}
use Rattle.monitor.specs.declared.states.Cells.{Cells}
use Rattle.monitor.specs.Authority.{authority_of}
use Rattle.monitor.specs.Cells.{assigned_roles, session_at, is_assigned, is_authorised, is_enabled, is_active_for}
use Rattle.monitor.specs.Changes.{without_role}

-- is each number of the event in range
abbrev pub in_range : Sizes → Event → Bool
in_range z (Assign u r) = nat_lt u z.users && nat_lt r z.roles
in_range z (Deassign u r) = nat_lt u z.users && nat_lt r z.roles
in_range z (Enable r) = nat_lt r z.roles
in_range z (Disable r) = nat_lt r z.roles
in_range z (Open s u) = nat_lt s z.sessions && nat_lt u z.users
in_range z (Close s) = nat_lt s z.sessions
in_range z (Activate s r) = nat_lt s z.sessions && nat_lt r z.roles
in_range z (Deactivate s r) = nat_lt s z.sessions && nat_lt r z.roles

-- the lowest role active for the user that loses its authority with the assignment of r
abbrev pub lost_authority : Tables → Cells → ℕ → ℕ → Option ℕ
lost_authority t c u r =
    let kept : ℕ = (authority_of t (without_role (assigned_roles c u) r)).bits in
    first_below 32 (λ k. is_active_for c (User u) k && not (has kept k))

-- the questions of an event that concerns a session, by the session's state and the event
abbrev pub session_question : Cells → Session → Event → Option Impossibility
session_question c session.Closed (Open s u) = None
session_question c (session.Open o a) (Open s u) = Some AlreadyOpen
session_question c session.Closed _ = Some NotOpen
session_question c (session.Open o a) (Activate s r) =
    question (is_enabled c r) RoleDisabled
    (question (is_authorised c o r) NotAuthorised
    (question (not (has a.bits r)) AlreadyActive None))
session_question c (session.Open o a) (Deactivate s r) = question (has a.bits r) NotActive None
session_question c (session.Open o a) _ = None

-- the questions of an event whose numbers are in range
abbrev pub later_question : Tables → Cells → Event → Option Impossibility
later_question t c (Assign u r) = question (not (is_authorised c u r)) AlreadyAuthorised None
later_question t c (Deassign u r) =
    question (is_assigned c u r) NotAssigned (option_map StillActive (lost_authority t c u r))
later_question t c (Enable r) = question (not (is_enabled c r)) AlreadyEnabled None
later_question t c (Disable r) =
    question (is_enabled c r) NotEnabled
    (question (not (is_active_for c Anyone r)) InUse None)
later_question t c (Open s u) = session_question c (session_at c s) (Open s u)
later_question t c (Close s) = session_question c (session_at c s) (Close s)
later_question t c (Activate s r) = session_question c (session_at c s) (Activate s r)
later_question t c (Deactivate s r) = session_question c (session_at c s) (Deactivate s r)

-- the first question that is answered no
abbrev pub impossibility : Tables → Cells → Event → Option Impossibility
impossibility t c e = question (in_range t.sizes e) OutOfRange (later_question t c e)

abbrev pub Possible : Tables → Cells → Event → Type 0
Possible t c e = impossibility t c e ≡ None
