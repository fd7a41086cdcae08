-- The tables with nothing in them, and with one entry more. Assumes nothing.
use Rattle.std.specs.Prelude.{ℕ, List, [], replicate, None, slice_index_or, slice_set}
use Rattle.sets.specs.declared.bit_set.BitSet.{BitSet}
use Rattle.sets.specs.Aliases.{RoleSet, UserSet}
use Rattle.sets.specs.Sets.{with_member}
use Rattle.policy.specs.declared.tables.Sizes.{Sizes}
use Rattle.policy.specs.declared.tables.Limits.{Limits}
use Rattle.policy.specs.declared.tables.Tables.{Tables}
use Rattle.policy.specs.Entries.{no_roles, no_users}

-- tables with these sizes, and nothing else
unfoldable pub only : Sizes → Tables
only sizes = record {
  sizes = sizes;
  hierarchy = record { juniors = replicate 32 no_roles };
  ssd = record { partners = replicate 32 no_roles };
  dsd = record { partners = replicate 32 no_roles };
  activation_conflicts = record { partners = replicate 32 (replicate 64 no_users) };
  assignment_conflicts = record { partners = replicate 32 (replicate 64 no_users) };
  limits = record {
    users = replicate 32 None;
    roles = replicate 64 None;
    active = replicate 64 None;
    sessions = replicate 32 None;
  };
  requirements = record { sets = replicate 6 (replicate 32 no_roles) };
  dependencies = record { needs = replicate 32 no_roles };
}

-- one user, role and session, and nothing else
abbrev pub bare : Tables
bare = only (record { users = 1; roles = 1; sessions = 1 })

-- a row with one more member, and a pair, which is stored both ways: of sets over words of a width
abbrev pub with_one : {W : Type 0} → (W → ℕ) → (ℕ → W) → ℕ → List (BitSet W) → ℕ → ℕ
    → List (BitSet W)
with_one {W = W} value word width rows a b =
    let row : BitSet W = slice_index_or rows a (record { bits = word 0 }) in
    slice_set rows a (record { bits = word (with_member width (value row.bits) b) })

abbrev pub with_both : {W : Type 0} → (W → ℕ) → (ℕ → W) → ℕ → List (BitSet W) → ℕ → ℕ
    → List (BitSet W)
with_both value word width rows a b =
    with_one value word width (with_one value word width rows a b) b a

-- the same of roles, and of the users in the row of a role
abbrev pub with_role : List RoleSet → ℕ → ℕ → List RoleSet
with_role = with_one (λ n. n) (λ n. n) 32

abbrev pub with_pair : List RoleSet → ℕ → ℕ → List RoleSet
with_pair = with_both (λ n. n) (λ n. n) 32

abbrev pub with_users : List (List UserSet) → ℕ → ℕ → ℕ → List (List UserSet)
with_users rows r u v =
    slice_set rows r (with_both (λ n. n) (λ n. n) 64 (slice_index_or rows r []) u v)

-- the tables with another in the place of one
abbrev pub with_hierarchy : Tables → List RoleSet → Tables
with_hierarchy t x = record t { hierarchy = record { juniors = x } }

abbrev pub with_ssd : Tables → List RoleSet → Tables
with_ssd t x = record t { ssd = record { partners = x } }

abbrev pub with_dsd : Tables → List RoleSet → Tables
with_dsd t x = record t { dsd = record { partners = x } }

abbrev pub with_activation_conflicts : Tables → List (List UserSet) → Tables
with_activation_conflicts t x = record t { activation_conflicts = record { partners = x } }

abbrev pub with_assignment_conflicts : Tables → List (List UserSet) → Tables
with_assignment_conflicts t x = record t { assignment_conflicts = record { partners = x } }

abbrev pub with_limits : Tables → Limits → Tables
with_limits t x = record t { limits = x }

abbrev pub with_requirements : Tables → List (List RoleSet) → Tables
with_requirements t x = record t { requirements = record { sets = x } }

abbrev pub with_dependencies : Tables → List RoleSet → Tables
with_dependencies t x = record t { dependencies = record { needs = x } }
