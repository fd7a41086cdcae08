-- Dependency: each role that an active role depends on is active too, for anyone. Assumes nothing.
--   Met            the states that it allows
--   missing        the lowest role that an active role depends on and that is not active
--   violation_of   the question that a change may fail, put to the state after it
use Rattle.std.specs.Prelude.{◌≡◌, ℕ, Bool, true, not, ◌&&◌, None, Option}
use Rattle.std.specs.Option.{option_map}
use Rattle.sets.specs.First.{first_below}
use Rattle.sets.specs.Sets.{has, union}
use Rattle.policy.specs.declared.tables.Tables.{Tables}
use Rattle.policy.specs.Entries.{depends}
use Rattle.policy.specs.Seniority.{rows_union}
use Rattle.monitor.specs.declared.changes.Change.{Change}
use Rattle.monitor.specs.declared.changes.Change.TheVariants.{Seated}
use Rattle.monitor.specs.declared.sessions.Whose.TheVariants.{Anyone}
use Rattle.monitor.specs.declared.states.Cells.{Cells}
use Rattle.monitor.specs.Cells.{is_active_for}
use Rattle.monitor.specs.Changes.{applied, gained, lost}
use Rattle.monitor.specs.Meaning.{Meaning}
use Rattle.monitor.specs.Sessions.{active_in}
use Rattle.families.specs.Family.{family, by_change, if_any}
use Rattle.families.specs.declared.dependency.Violation.{Violation}
use Rattle.families.specs.declared.dependency.Violation.TheVariants.{NotActive}

-- the role is active in some session
abbrev pub is_active_anywhere : Cells → ℕ → Bool
is_active_anywhere c r = is_active_for c Anyone r

abbrev pub Met : Tables → Cells → Type 0
Met t c = (a b : ℕ)
    → is_active_anywhere c a ≡ true → depends t a b ≡ true → is_active_anywhere c b ≡ true

-- the lowest role that one of these depends on and that is not among them
abbrev pub missing_from : Tables → ℕ → Option ℕ
missing_from t roles =
    let needed : ℕ = rows_union t.dependencies.needs (record { bits = roles }) 32 in
    first_below 32 (λ b. has needed b && not (has roles b))

abbrev pub missing : Tables → Cells → Option ℕ
missing t c = missing_from t (active_in Anyone c.sessions)

abbrev pub violation_number : Violation → ℕ
violation_number (NotActive b) = 61

abbrev pub violation_subject : Violation → ℕ
violation_subject (NotActive b) = b

-- 61, where a role becomes active or ceases to be
abbrev pub violation_of : Tables → Cells → Change → Option Violation
violation_of t c (Seated s x) =
    if_any (union (gained c (Seated s x)) (lost c (Seated s x)))
    (option_map NotActive (missing t (applied t c (Seated s x))))
violation_of t c _ = None

abbrev pub dependency : Meaning
dependency = family Met (by_change violation_of) violation_number violation_subject
