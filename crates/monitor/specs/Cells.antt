-- What stands in a state, and what holds in every state. Assumes nothing.
--   is_assigned ..      what stands in the cells
--   assigned_in         the roles assigned to some user
--   is_active_for       a role is active in anyone's sessions, or in a user's
--   seats, using        what limits bound: the seats of a user, pairs of a session of theirs and a
--                       role active in it; and the sessions that have a role active
use Rattle.std.specs.Prelude.{◌≡◌, ℕ, ◌<◌, Bool, true, List, [], ◌∷◌, length, replicate, slice_index_or}
use Rattle.sets.specs.Aliases.{RoleSet}
use Rattle.sets.specs.Sets.{has, union}
use Rattle.policy.specs.Entries.{no_roles, holds}
use Rattle.monitor.specs.declared.states.Cells.{Cells}
use Rattle.monitor.specs.declared.sessions.Session.{Session}
use Rattle.monitor.specs.declared.sessions.Session.TheVariants.{Closed}
use Rattle.monitor.specs.declared.sessions.Whose.{Whose}
use Rattle.monitor.specs.declared.sessions.Whose.TheVariants.{User}
use Rattle.monitor.specs.Sessions.{active, owner, active_in, seats_in, sessions_using}

abbrev pub session_at : Cells → ℕ → Session
session_at c s = slice_index_or c.sessions s Closed

abbrev pub assigned_roles : Cells → ℕ → RoleSet
assigned_roles c u = slice_index_or c.assigned u no_roles

abbrev pub authorised_roles : Cells → ℕ → RoleSet
authorised_roles c u = slice_index_or c.authorised u no_roles

abbrev pub is_assigned : Cells → ℕ → ℕ → Bool
is_assigned c u r = holds c.assigned u r

abbrev pub assigned_in : List RoleSet → ℕ
assigned_in [] = 0
assigned_in (x ∷ xs) = union x.bits (assigned_in xs)

abbrev pub is_authorised : Cells → ℕ → ℕ → Bool
is_authorised c u r = holds c.authorised u r

abbrev pub is_enabled : Cells → ℕ → Bool
is_enabled c r = has c.enabled.bits r

abbrev pub is_active : Cells → ℕ → ℕ → Bool
is_active c s r = has (active (session_at c s)) r

-- the role is active in one of the sessions that are meant
abbrev pub is_active_for : Cells → Whose → ℕ → Bool
is_active_for c w r = has (active_in w c.sessions) r

abbrev pub seats : Cells → ℕ → ℕ
seats c u = seats_in (User u) c.sessions

abbrev pub using : Cells → ℕ → ℕ
using c r = sessions_using c.sessions r

-- no assignments, all roles disabled, all sessions closed
unfoldable pub blank : Cells
blank = record {
  assigned = replicate 64 no_roles;
  authorised = replicate 64 no_roles;
  enabled = no_roles;
  sessions = replicate 64 Closed;
}

-- there are cells for 64 users and 64 sessions
abbrev pub Wide : Cells → Type 0
Wide c = (length c.assigned ≡ 64) × (length c.authorised ≡ 64) × (length c.sessions ≡ 64)

-- each owner is a user
abbrev pub Owned : Cells → Type 0
Owned c = (s : ℕ) → owner (session_at c s) < 64

-- an active role is enabled
abbrev pub Live : Cells → Type 0
Live c = (s r : ℕ) → is_active c s r ≡ true → is_enabled c r ≡ true

-- the owner of a session is authorised for its active roles
abbrev pub Entitled : Cells → Type 0
Entitled c = (s r : ℕ) → is_active c s r ≡ true → is_authorised c (owner (session_at c s)) r ≡ true

-- all of them
pub record Sound (c : Cells) : Type 0 where
  pub wide : Wide c
  pub owned : Owned c
  pub live : Live c
  pub entitled : Entitled c
