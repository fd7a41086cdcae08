-- A role that a user never has active in two sessions at once. Assumes nothing.
--   once_per_user q   the rule for the role q: what it allows, what it admits, and what it names
use Rattle.std.specs.Prelude.{◌≡◌, ℕ, Bool, true, not, ◌&&◌}
use Rattle.sets.specs.Sets.{has}
use Rattle.monitor.specs.declared.changes.Change.{Change}
use Rattle.monitor.specs.declared.changes.Change.TheVariants.{Seated}
use Rattle.monitor.specs.declared.sessions.Whose.TheVariants.{User}
use Rattle.monitor.specs.declared.states.Cells.{Cells}
use Rattle.monitor.specs.Cells.{is_active, is_active_for, session_at}
use Rattle.monitor.specs.Changes.{change_of, gained}
use Rattle.monitor.specs.Meaning.{Meaning}
use Rattle.monitor.specs.Sessions.{owner}

-- two sessions of one owner that have the role active are one session
abbrev pub Once : ℕ → Cells → Type 0
Once q c = (s k : ℕ) → is_active c s q ≡ true → is_active c k q ≡ true
    → owner (session_at c s) ≡ owner (session_at c k) → s ≡ k

-- the user for whom a change makes roles active, and else 0
abbrev pub gainer : Change → ℕ
gainer (Seated s y) = owner y
gainer _ = 0

-- only what makes the role active for a user who has it active already is refused
abbrev pub admitted : ℕ → Cells → Change → Bool
admitted q c (Seated s y) =
    not (has (gained c (Seated s y)) q && is_active_for c (User (owner y)) q)
admitted q c _ = true

abbrev pub once_per_user : ℕ → Meaning
once_per_user q = record {
  allowed = λ t c. Once q c;
  admits = λ t c e. admitted q c (change_of c e);
  number = λ t c e. 100;
  subject = λ t c e. gainer (change_of c e);
}
