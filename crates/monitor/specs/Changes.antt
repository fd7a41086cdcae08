-- The one change that an event makes, and what it does. Assumes nothing.
--   change_of    what an event changes: a user's assigned roles, the enabled roles, or another
--                session in the place of one
--   applied      the cells after a change
--   next         the cells after an event
--   gained       the roles that become active for the owner of the session that is put
--   lost         the roles that cease to be so for the owner of the session that was there
--   listed       the roles that a granted event lists
use Rattle.std.specs.Prelude.{ℕ, slice_set}
use Rattle.sets.specs.Aliases.{RoleSet}
use Rattle.sets.specs.Sets.{with_member, without_member, difference}
use Rattle.records.specs.declared.event.Event.{Event}
use Rattle.records.specs.declared.event.Event.TheVariants.{Assign, Deassign, Enable, Disable, Open, Close, Activate, Deactivate}
use Rattle.policy.specs.declared.tables.Tables.{Tables}
use Rattle.policy.specs.Entries.{no_roles}
use Rattle.monitor.specs.declared.changes.Change.{Change}
use Rattle.monitor.specs.declared.changes.Change.TheVariants.{Assigned, Enabled, Seated}
use Rattle.monitor.specs.declared.sessions.Session.{Session}
use Rattle.monitor.specs.declared.sessions.Session.TheVariants as session
use Rattle.monitor.specs.declared.sessions.Whose.TheVariants.{User}
use Rattle.monitor.specs.declared.states.Cells.{Cells}
use Rattle.monitor.specs.Authority.{authority_of}
use Rattle.monitor.specs.Cells.{assigned_roles, session_at}
use Rattle.monitor.specs.Sessions.{active, active_where, owner, with_active}

abbrev pub with_role : RoleSet → ℕ → RoleSet
with_role roles r = record { bits = with_member 32 roles.bits r }

abbrev pub without_role : RoleSet → ℕ → RoleSet
without_role roles r = record { bits = without_member 32 roles.bits r }

-- the roles active at a place
abbrev pub active_at : Cells → ℕ → RoleSet
active_at c s = record { bits = active (session_at c s) }

abbrev pub change_of : Cells → Event → Change
change_of c (Assign u r) = Assigned u (with_role (assigned_roles c u) r)
change_of c (Deassign u r) = Assigned u (without_role (assigned_roles c u) r)
change_of c (Enable r) = Enabled (with_role c.enabled r)
change_of c (Disable r) = Enabled (without_role c.enabled r)
change_of c (Open s u) = Seated s (session.Open u no_roles)
change_of c (Close s) = Seated s session.Closed
change_of c (Activate s r) = Seated s (with_active (session_at c s) (with_role (active_at c s) r))
change_of c (Deactivate s r) =
    Seated s (with_active (session_at c s) (without_role (active_at c s) r))

-- a user with other roles assigned is authorised for what they give
abbrev pub applied : Tables → Cells → Change → Cells
applied t c (Assigned u roles) = record c {
  assigned = slice_set c.assigned u roles;
  authorised = slice_set c.authorised u (authority_of t roles);
}
applied t c (Enabled roles) = record c { enabled = roles }
applied t c (Seated s x) = record c { sessions = slice_set c.sessions s x }

abbrev pub next : Tables → Cells → Event → Cells
next t c e = applied t c (change_of c e)

-- what is active in y, less what was active in x before for the owner of y
abbrev pub gained_by : Session → Session → ℕ
gained_by x y = difference 32 (active y) (active_where (User (owner y)) x)

abbrev pub gained : Cells → Change → ℕ
gained c (Seated s y) = gained_by (session_at c s) y
gained c _ = 0

abbrev pub lost : Cells → Change → ℕ
lost c (Seated s y) = gained_by y (session_at c s)
lost c _ = 0

-- a closing lists the roles that are lost by it; no other event lists any
abbrev pub listed : Cells → Event → ℕ
listed c (Close s) = lost c (change_of c (Close s))
listed c _ = 0
