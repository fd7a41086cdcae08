-- Users who may not share an assignment: where two are listed for a role, one does not hold it
-- while the other holds it, or a senior or junior of it for which they are listed too. To hold a
-- role is to be assigned it directly: what is inherited does not count. Assumes nothing.
--   Unshared             the states that it allows
--   some_role            some role passes a test
--   is_related           one of two roles is senior to the other, as a role is to itself
--   stands_against       what a user holds stands against another's being assigned a role
--   stands_against_new   .. one of these roles that the other does not hold yet
--   violation_of         the question that a change may fail
use Rattle.std.specs.Prelude.{◌≡◌, ℕ, Bool, true, false, not, ◌&&◌, ◌||◌, None, Option}
use Rattle.std.specs.List.{list_any, range_with_len}
use Rattle.std.specs.Option.{option_map}
use Rattle.sets.specs.First.{first_below}
use Rattle.sets.specs.Sets.{has}
use Rattle.sets.specs.Aliases.{RoleSet}
use Rattle.policy.specs.declared.tables.Tables.{Tables}
use Rattle.policy.specs.Entries.{holds, inherits, assignment_pair}
use Rattle.policy.specs.Seniority.{Senior, closure}
use Rattle.monitor.specs.declared.changes.Change.{Change}
use Rattle.monitor.specs.declared.changes.Change.TheVariants.{Assigned}
use Rattle.monitor.specs.declared.states.Cells.{Cells}
use Rattle.monitor.specs.Cells.{is_assigned}
use Rattle.monitor.specs.Meaning.{Meaning}
use Rattle.families.specs.Family.{family, by_change}
use Rattle.families.specs.declared.assignment_conflicts.Violation.{Violation}
use Rattle.families.specs.declared.assignment_conflicts.Violation.TheVariants.{HeldBy}

-- of two users, u holds a and v holds b, and a is senior to b: they are not listed for both roles
abbrev pub Unshared : Tables → Cells → Type 0
Unshared t c = (a b u v : ℕ) → Senior (inherits t) a b
    → is_assigned c u a ≡ true → is_assigned c v b ≡ true
    → (assignment_pair t a u v && assignment_pair t b u v) ≡ false

abbrev pub some_role : (ℕ → Bool) → Bool
some_role test = list_any test (range_with_len 0 32)

abbrev pub is_related : Tables → ℕ → ℕ → Bool
is_related t a b =
    holds (closure t.hierarchy.juniors) a b || holds (closure t.hierarchy.juniors) b a

-- v holds r or a related role for which the two are listed
abbrev pub holds_related : Tables → Cells → ℕ → ℕ → ℕ → Bool
holds_related t c u r v =
    some_role (λ q. is_assigned c v q && (assignment_pair t q u v && is_related t r q))

-- and they are listed for r too
abbrev pub stands_against : Tables → Cells → ℕ → ℕ → ℕ → Bool
stands_against t c u r v = assignment_pair t r u v && holds_related t c u r v

abbrev pub stands_against_new : Tables → Cells → ℕ → RoleSet → ℕ → Bool
stands_against_new t c u roles v =
    some_role (λ r. (has roles.bits r && not (is_assigned c u r)) && stands_against t c u r v)

-- 48: the lowest such user
abbrev pub lowest_against : Tables → Cells → ℕ → RoleSet → Option ℕ
lowest_against t c u roles = first_below 64 (stands_against_new t c u roles)

-- only where a user is assigned roles anew is there a question
abbrev pub violation_of : Tables → Cells → Change → Option Violation
violation_of t c (Assigned u roles) = option_map HeldBy (lowest_against t c u roles)
violation_of t c _ = None

abbrev pub violation_number : Violation → ℕ
violation_number (HeldBy v) = 48

abbrev pub violation_subject : Violation → ℕ
violation_subject (HeldBy v) = v

abbrev pub assignment_conflicts : Meaning
assignment_conflicts = family Unshared (by_change violation_of) violation_number violation_subject
