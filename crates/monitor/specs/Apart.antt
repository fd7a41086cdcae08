-- Nobody is authorised for two roles in static conflict, and where in a pile a rule stands that
-- keeps it so. Assumes nothing.
--   StaticallyApart   nobody is authorised, even by inheritance, for two roles in static conflict
--   allowed_at        the rule at an index of the pile, from 0 at the top, allows the state
--   SeparatesAt       the rule at the index allows only such states, under the policy t
use Rattle.std.specs.Prelude.{◌≡◌, ℕ, zero, suc, false, List, [], ◌∷◌}
use Rattle.policy.specs.declared.tables.Tables.{Tables}
use Rattle.policy.specs.Entries.{ssd_pair}
use Rattle.monitor.specs.declared.states.Cells.{Cells}
use Rattle.monitor.specs.Authority.{Authorised, Fits}
use Rattle.monitor.specs.Meaning.{Meaning}

abbrev pub StaticallyApart : Tables → Cells → Type 0
StaticallyApart t c = (u a b : ℕ) → Authorised t c u a → Authorised t c u b → ssd_pair t a b ≡ false

-- past the pile nothing is said
abbrev pub allowed_at : List Meaning → ℕ → Tables → Cells → Type 0
allowed_at [] k t c = Unit {0}
allowed_at (m ∷ ms) zero t c = m.allowed t c
allowed_at (m ∷ ms) (suc k) t c = allowed_at ms k t c

abbrev pub SeparatesAt : List Meaning → ℕ → Tables → Type 0
SeparatesAt ms k t = (c : Cells) → Fits t c → allowed_at ms k t c → StaticallyApart t c
