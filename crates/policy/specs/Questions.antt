-- The questions put to a policy, and the verdict that follows from them. Assumes nothing.
--   Witness    what shows that a question fails, with the names of a failure
--   Passes     no question fails;  No...: one question does not
--   IsLowest   of one question, the lowest failure that has a witness
--   Vetted     a verdict is the right one: passed where no question fails, else the soonest failure
use Rattle.std.specs.Prelude.{◌≡◌, ℕ, ◌<◌, true, false, ◌⊎◌, Ok, Err}
use Rattle.policy.specs.declared.tables.Tables.{Tables}
use Rattle.policy.specs.declared.verdict.Failure.{Failure}
use Rattle.policy.specs.declared.verdict.Failure.TheVariants.{Cycle, SelfConflict, UninheritedConflict, BothConflicts, UninheritedUserConflict, UninheritedAssignmentConflict}
use Rattle.policy.specs.Entries.{inherits, ssd_pair, dsd_pair, users_pair, assignment_pair}
use Rattle.policy.specs.Seniority.{Senior}
use Rattle.policy.specs.Verdicts.{Verdict, failure_number, failure_names, Lower, Sooner}

abbrev pub Witness : Tables → Failure → Type 0
-- two different roles are each senior to the other
Witness t (Cycle a b) = (a < b) × Senior (inherits t) a b × Senior (inherits t) b a
-- a role is in static or dynamic conflict with itself
Witness t (SelfConflict a) = (ssd_pair t a a ≡ true) ⊎ (dsd_pair t a a ≡ true)
-- a is senior to b, b is in static conflict with c, and a is not
Witness t (UninheritedConflict a b c) =
    Senior (inherits t) a b × (ssd_pair t b c ≡ true) × (ssd_pair t a c ≡ false)
-- a pair is in both static and dynamic conflict
Witness t (BothConflicts a b) = (ssd_pair t a b ≡ true) × (dsd_pair t a b ≡ true)
-- a is senior to b, and two users conflict for b but not for a; the lower user first
Witness t (UninheritedUserConflict a b u v) =
    (u < v) × Senior (inherits t) a b × (users_pair t b u v ≡ true) × (users_pair t a u v ≡ false)
-- the same of users who may not share an assignment
Witness t (UninheritedAssignmentConflict a b u v) =
    (u < v) × Senior (inherits t) a b
    × (assignment_pair t b u v ≡ true) × (assignment_pair t a u v ≡ false)

abbrev pub Passes : Tables → Type 0
Passes t = (f : Failure) → Witness t f → ⊥

-- each question by name, for laws that rest on one of them

-- no two roles are each senior to the other
abbrev pub NoCycle : Tables → Type 0
NoCycle t = (a b : ℕ) → Witness t (Cycle a b) → ⊥

-- no role is in conflict with itself
abbrev pub NoSelfConflict : Tables → Type 0
NoSelfConflict t = (a : ℕ) → Witness t (SelfConflict a) → ⊥

-- a senior has each static conflict of its juniors
abbrev pub NoUninheritedConflict : Tables → Type 0
NoUninheritedConflict t = (a b c : ℕ) → Witness t (UninheritedConflict a b c) → ⊥

-- no pair is in both static and dynamic conflict
abbrev pub NoBothConflicts : Tables → Type 0
NoBothConflicts t = (a b : ℕ) → Witness t (BothConflicts a b) → ⊥

-- users who conflict for a role conflict for each role senior to it
abbrev pub NoUninheritedUserConflict : Tables → Type 0
NoUninheritedUserConflict t = (a b u v : ℕ) → Witness t (UninheritedUserConflict a b u v) → ⊥

-- of the failures of a number, f has a witness, and none with lower names has one
pub record IsLowest (t : Tables) (number : ℕ) (f : Failure) : Type 0 where
  pub numbered : failure_number f ≡ number
  pub witness : Witness t f
  pub none_lower : (g : Failure) → failure_number g ≡ number
      → Lower (failure_names g) (failure_names f) → Witness t g → ⊥

-- f has a witness, and nothing sooner has one
abbrev pub Soonest : Tables → Failure → Type 0
Soonest t f = Witness t f × ((g : Failure) → Sooner g f → Witness t g → ⊥)

abbrev pub Vetted : Tables → Verdict → Type 0
Vetted t (Ok _) = Passes t
Vetted t (Err f) = Soonest t f
