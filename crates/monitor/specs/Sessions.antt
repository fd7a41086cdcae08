-- What is active in a session, and in a list of them. Assumes nothing.
--   is_open           a session is open
--   active, owner     of a session; a closed one has no active role
--   is_meant          is the session one of those that are meant
--   active_where      the roles active in the session, where it is one of those that are meant
--   seats_where       how many these are
--   with_active       the session with other roles active
--   active_in         the roles active in those of the sessions that are meant
--   seats_in          the seats in those of the sessions that are meant: the pairs of a session and
--                     a role active in it
--   sessions_using    how many sessions have a role active
use Rattle.std.specs.Prelude.{ℕ, ◌+◌, Bool, true, false, if◌then◌else◌, List, [], ◌∷◌, ◌==◌}
use Rattle.std.specs.List.{sum_by}
use Rattle.sets.specs.Aliases.{RoleSet}
use Rattle.sets.specs.Sets.{has, union, count_below}
use Rattle.monitor.specs.declared.sessions.Session.{Session}
use Rattle.monitor.specs.declared.sessions.Session.TheVariants.{Closed, Open}
use Rattle.monitor.specs.declared.sessions.Whose.{Whose}
use Rattle.monitor.specs.declared.sessions.Whose.TheVariants.{Anyone, User}

abbrev pub is_open : Session → Bool
is_open Closed = false
is_open (Open user roles) = true

abbrev pub active : Session → ℕ
active Closed = 0
active (Open user roles) = roles.bits

abbrev pub owner : Session → ℕ
owner Closed = 0
owner (Open user roles) = user

abbrev pub is_meant : Whose → Session → Bool
is_meant Anyone x = true
is_meant (User u) Closed = false
is_meant (User u) (Open user roles) = user == u

abbrev pub active_where : Whose → Session → ℕ
active_where w x = if is_meant w x then active x else 0

abbrev pub seats_where : Whose → Session → ℕ
seats_where w x = count_below 32 (has (active_where w x))

-- a closed session stays closed
abbrev pub with_active : Session → RoleSet → Session
with_active Closed roles = Closed
with_active (Open user _) roles = Open user roles

abbrev pub active_in : Whose → List Session → ℕ
active_in w [] = 0
active_in w (x ∷ xs) = union (active_where w x) (active_in w xs)

abbrev pub seats_in : Whose → List Session → ℕ
seats_in w xs = sum_by (seats_where w) xs

-- one where it holds, else none
abbrev pub tally : Bool → ℕ
tally b = if b then 1 else 0

abbrev pub sessions_using : List Session → ℕ → ℕ
sessions_using [] r = 0
sessions_using (x ∷ xs) r = tally (has (active x) r) + sessions_using xs r
