-- The limits of a policy, each read in one place; a missing limit is none. Assumes nothing.
--   limit_of_users      of the users authorised for a role
--   limit_of_roles      of the roles authorised for a user
--   limit_of_active     of the seats of a user, pairs of a session of theirs and an active role
--   limit_of_sessions   of the sessions with a role active
--   within              a count is within a limit
use Rattle.std.specs.Prelude.{ℕ, Bool, true, Some, None, Option, nat_le, slice_index_or}
use Rattle.policy.specs.declared.tables.Limits.{Limits}

abbrev pub limit_of_users : Limits → ℕ → Option ℕ
limit_of_users l role = slice_index_or l.users role None

abbrev pub limit_of_roles : Limits → ℕ → Option ℕ
limit_of_roles l user = slice_index_or l.roles user None

abbrev pub limit_of_active : Limits → ℕ → Option ℕ
limit_of_active l user = slice_index_or l.active user None

abbrev pub limit_of_sessions : Limits → ℕ → Option ℕ
limit_of_sessions l role = slice_index_or l.sessions role None

abbrev pub within : Option ℕ → ℕ → Bool
within None count = true
within (Some most) count = nat_le count most
