-- What stands for a user, or for any user, said of users and sessions. Assumes nothing.
--   AssignedToAny   there is a user to whom the role is assigned
--   ActiveFor       there is a session of the user's in which the role is active
--   ActiveForAny    there is a session in which the role is active
--   is_seat         the session is the user's, and the role is active in it
--   pairs_below     how many pairs of numbers, each below its bound, pass a test
use Rattle.std.specs.Prelude.{◌≡◌, ℕ, zero, suc, ◌+◌, Bool, true, ◌&&◌, ◌==◌}
use Rattle.sets.specs.Sets.{count_below}
use Rattle.monitor.specs.declared.states.Cells.{Cells}
use Rattle.monitor.specs.Cells.{is_assigned, is_active, session_at}
use Rattle.monitor.specs.Sessions.{owner}

abbrev pub AssignedToAny : Cells → ℕ → Type 0
AssignedToAny c r = (u : ℕ) × (is_assigned c u r ≡ true)

abbrev pub ActiveFor : Cells → ℕ → ℕ → Type 0
ActiveFor c u r = (s : ℕ) × (owner (session_at c s) ≡ u) × (is_active c s r ≡ true)

abbrev pub ActiveForAny : Cells → ℕ → Type 0
ActiveForAny c r = (s : ℕ) × (is_active c s r ≡ true)

abbrev pub is_seat : Cells → ℕ → ℕ → ℕ → Bool
is_seat c u s r = (owner (session_at c s) == u) && is_active c s r

unfoldable pub pairs_below : ℕ → ℕ → (ℕ → ℕ → Bool) → ℕ
pairs_below zero n f = 0
pairs_below (suc m) n f = count_below n (f m) + pairs_below m n f
