-- At most one of all sessions is open. Assumes nothing.
--   OneOpen            any two open sessions are one
--   other_open         the lowest open session of the policy but for one
--   open_besides       the one that is open besides an open one that a change puts
--   one_open_session   the rule: what it allows, what it admits, and what it names
use Rattle.std.specs.Prelude.{◌≡◌, ℕ, true, not, ◌&&◌, None, Option, is_some, if◌then◌else◌, ◌==◌}
use Rattle.std.specs.Option.{unwrap_or}
use Rattle.sets.specs.First.{first_below}
use Rattle.policy.specs.declared.tables.Tables.{Tables}
use Rattle.monitor.specs.declared.changes.Change.{Change}
use Rattle.monitor.specs.declared.changes.Change.TheVariants.{Seated}
use Rattle.monitor.specs.declared.states.Cells.{Cells}
use Rattle.monitor.specs.Cells.{session_at}
use Rattle.monitor.specs.Changes.{change_of}
use Rattle.monitor.specs.Meaning.{Meaning}
use Rattle.monitor.specs.Sessions.{is_open}

abbrev pub OneOpen : Cells → Type 0
OneOpen c = (s k : ℕ) → is_open (session_at c s) ≡ true → is_open (session_at c k) ≡ true → s ≡ k

abbrev pub other_open : Tables → Cells → ℕ → Option ℕ
other_open t c s = first_below t.sizes.sessions (λ k. not (k == s) && is_open (session_at c k))

abbrev pub open_besides : Tables → Cells → Change → Option ℕ
open_besides t c (Seated s y) = if is_open y then other_open t c s else None
open_besides t c _ = None

abbrev pub one_open_session : Meaning
one_open_session = record {
  allowed = λ t c. OneOpen c;
  admits = λ t c e. not (is_some (open_besides t c (change_of c e)));
  number = λ t c e. 101;
  subject = λ t c e. unwrap_or (open_besides t c (change_of c e)) 0;
}
