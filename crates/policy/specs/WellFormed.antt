-- What holds of the tables of every draft. Assumes nothing.
-- A draft carries all of them, as `WellFormed`.
--   Sized         a size is at least 1 and within its limit
--   Wide          every row of a table of roles is there
--   Within        only roles of the policy stand in the rows
--   Symmetric     pairs are stored both ways
--   RolePairs     the three of a table of pairs of roles
--   Users...      the same of pairs of users for each role, and nobody is paired with himself
--   UserPairs     the four of a table of pairs of users
use Rattle.std.specs.Prelude.{◌≡◌, ℕ, ◌<◌, ◌≤◌, true, false, List, [], length, slice_index_or}
use Rattle.sets.specs.Aliases.{RoleSet, UserSet}
use Rattle.policy.specs.declared.tables.Sizes.{Sizes}
use Rattle.policy.specs.declared.tables.Tables.{Tables}
use Rattle.policy.specs.Entries.{holds, holds_user}

abbrev pub Sized : ℕ → ℕ → Type 0
Sized most n = (1 ≤ n) × (n ≤ most)

abbrev pub Wide : List RoleSet → Type 0
Wide rows = length rows ≡ 32

abbrev pub Within : ℕ → List RoleSet → Type 0
Within roles rows = (a b : ℕ) → holds rows a b ≡ true → (a < roles) × (b < roles)

abbrev pub Symmetric : List RoleSet → Type 0
Symmetric rows = (a b : ℕ) → holds rows a b ≡ holds rows b a

abbrev pub UsersWide : List (List UserSet) → Type 0
UsersWide rows = (length rows ≡ 32) × ((r : ℕ) → r < 32 → length (slice_index_or rows r []) ≡ 64)

-- a role and two users, as one triple
abbrev pub UsersWithin : Sizes → List (List UserSet) → Type 0
UsersWithin s rows =
    (p : ℕ × ℕ × ℕ) → holds_user rows p.0 p.1 p.2 ≡ true
    → (p.0 < s.roles) × (p.1 < s.users) × (p.2 < s.users)

abbrev pub UsersSymmetric : List (List UserSet) → Type 0
UsersSymmetric rows = (r u v : ℕ) → holds_user rows r u v ≡ holds_user rows r v u

abbrev pub UsersApart : List (List UserSet) → Type 0
UsersApart rows = (r u : ℕ) → holds_user rows r u u ≡ false

-- a table of unordered pairs of roles
pub record RolePairs (roles : ℕ) (rows : List RoleSet) : Type 0 where
  pub wide : Wide rows
  pub within : Within roles rows
  pub symmetric : Symmetric rows

-- a table of unordered pairs of users, for each role
pub record UserPairs (s : Sizes) (rows : List (List UserSet)) : Type 0 where
  pub wide : UsersWide rows
  pub within : UsersWithin s rows
  pub symmetric : UsersSymmetric rows
  pub apart : UsersApart rows

-- all of them, one field for each table
pub record WellFormed (t : Tables) : Type 0 where
  pub users_sized : Sized 64 t.sizes.users
  pub roles_sized : Sized 32 t.sizes.roles
  pub sessions_sized : Sized 64 t.sizes.sessions
  pub juniors_within : Within t.sizes.roles t.hierarchy.juniors
  pub needs_within : Within t.sizes.roles t.dependencies.needs
  pub ssd : RolePairs t.sizes.roles t.ssd.partners
  pub dsd : RolePairs t.sizes.roles t.dsd.partners
  pub activation_conflicts : UserPairs t.sizes t.activation_conflicts.partners
  pub assignment_conflicts : UserPairs t.sizes t.assignment_conflicts.partners
