-- The role hierarchy: the relation of seniority, and the table of it. Assumes nothing.
use Rattle.std.specs.Prelude.{◌≡◌, ℕ, zero, suc, ◌<◌, Bool, true, List, map, if◌then◌else◌, slice_index_or}
use Rattle.std.specs.List.{range_with_len}
use Rattle.sets.specs.Aliases.{RoleSet}
use Rattle.sets.specs.Sets.{has, union, with_member}
use Rattle.policy.specs.Entries.{no_roles, holds}

-- a is senior to b when a is b, or a inherits some c that is senior to b
pub data Senior (inherits : ℕ → ℕ → Bool) : ℕ → ℕ → Type 0 where
  itself : {a : ℕ} → Senior inherits a a
  through : {a b c : ℕ} → inherits a c ≡ true → Senior inherits c b → Senior inherits a b

-- the members of the rows of those roles below k that are in the set
unfoldable pub rows_union : List RoleSet → RoleSet → ℕ → ℕ
rows_union rows chosen zero = 0
rows_union rows chosen (suc k) =
    if has chosen.bits k
    then union (rows_union rows chosen k) (slice_index_or rows k no_roles).bits
    else rows_union rows chosen k

-- a row that has role k gets the roles below k too
abbrev pub row_with_below : ℕ → ℕ → RoleSet → RoleSet
row_with_below k below row =
    if has row.bits k then record { bits = union row.bits below } else row

abbrev pub spread_rows : ℕ → ℕ → List RoleSet → List RoleSet
spread_rows k below rows = map (row_with_below k below) rows

-- each role by itself
abbrev pub only_itself : ℕ → RoleSet
only_itself a = record { bits = with_member 32 0 a }

-- the roles that each role is senior to, where only the roles below k inherit
unfoldable pub closed_below : ℕ → List RoleSet → List RoleSet
closed_below zero juniors = map only_itself (range_with_len 0 32)
closed_below (suc k) juniors =
    let rows : List RoleSet = closed_below k juniors in
    spread_rows k (rows_union rows (slice_index_or juniors k no_roles) 32) rows

-- the roles that each role is senior to
abbrev pub closure : List RoleSet → List RoleSet
closure juniors = closed_below 32 juniors

-- a table of rows is that of the hierarchy, row by row
abbrev pub Closes : List RoleSet → List RoleSet → Type 0
Closes juniors rows =
    (a : ℕ) → (slice_index_or rows a no_roles).bits
    ≡ (slice_index_or (closure juniors) a no_roles).bits

-- a table of rows says who is senior to whom
pub record TellsSeniority (juniors rows : List RoleSet) : Type 0 where
  pub senior_held : (a b : ℕ) → a < 32 → Senior (holds juniors) a b → holds rows a b ≡ true
  pub held_senior : (a b : ℕ) → holds rows a b ≡ true → Senior (holds juniors) a b
