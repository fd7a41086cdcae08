-- Who is authorised for what, and how a state is tied to its policy. Assumes nothing.
use Rattle.std.specs.Prelude.{◌≡◌, ℕ, ◌<◌, true}
use Rattle.sets.specs.Sets.{has}
use Rattle.sets.specs.Aliases.{RoleSet}
use Rattle.policy.specs.declared.tables.Tables.{Tables}
use Rattle.policy.specs.Entries.{inherits}
use Rattle.policy.specs.Seniority.{Senior, rows_union, closure}
use Rattle.monitor.specs.declared.states.Cells.{Cells}
use Rattle.monitor.specs.Cells.{assigned_roles, authorised_roles, is_assigned, is_authorised, is_enabled, is_active, session_at, Sound}
use Rattle.monitor.specs.Sessions.{is_open, owner}

-- a user is authorised for b when assigned some role senior to b
abbrev pub Authorised : Tables → Cells → ℕ → ℕ → Type 0
Authorised t c u b = (a : ℕ) × (is_assigned c u a ≡ true) × Senior (inherits t) a b

-- the roles for which a set of assigned roles authorises
abbrev pub authority_of : Tables → RoleSet → RoleSet
authority_of t assigned = record { bits = rows_union (closure t.hierarchy.juniors) assigned 32 }

-- these are exactly the roles that some assigned role is senior to
pub record Gives (t : Tables) (assigned roles : RoleSet) : Type 0 where
  pub each_by_a_senior : (b : ℕ) → has roles.bits b ≡ true
      → (a : ℕ) × (has assigned.bits a ≡ true) × Senior (inherits t) a b
  pub every_junior : (a b : ℕ) → a < 32 → has assigned.bits a ≡ true
      → Senior (inherits t) a b → has roles.bits b ≡ true

-- the stored authorised roles are those that the assigned ones give
abbrev pub Stored : Tables → Cells → Type 0
Stored t c = (u : ℕ)
    → (authorised_roles c u).bits ≡ (authority_of t (assigned_roles c u)).bits

-- only roles of the policy are assigned, and only to its users
abbrev pub Ranged : Tables → Cells → Type 0
Ranged t c = (u r : ℕ) → is_assigned c u r ≡ true → (u < t.sizes.users) × (r < t.sizes.roles)

-- only roles of the policy are enabled
abbrev pub EnabledWithin : Tables → Cells → Type 0
EnabledWithin t c = (r : ℕ) → is_enabled c r ≡ true → r < t.sizes.roles

-- only sessions of the policy are open, and only for its users
abbrev pub OpenWithin : Tables → Cells → Type 0
OpenWithin t c = (s : ℕ) → is_open (session_at c s) ≡ true
    → (s < t.sizes.sessions) × (owner (session_at c s) < t.sizes.users)

-- a state that a monitor of this policy can hold; it holds only what the policy has
pub record Fits (t : Tables) (c : Cells) : Type 0 where
  pub sound : Sound c
  pub stored : Stored t c
  pub ranged : Ranged t c
  pub enabled_within : EnabledWithin t c
  pub open_within : OpenWithin t c

-- what a state stores of authority is the relation, for every user and role; and the owner of a
-- session is authorised for its active roles in the sense of the relation
pub record AuthorisedByRelation (t : Tables) (c : Cells) : Type 0 where
  pub stored_is_related : (u b : ℕ) → is_authorised c u b ≡ true → Authorised t c u b
  pub related_is_stored : (u b : ℕ) → Authorised t c u b → is_authorised c u b ≡ true
  pub owner_is_related : (s b : ℕ) → is_active c s b ≡ true
      → Authorised t c (owner (session_at c s)) b
