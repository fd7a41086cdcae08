-- The verdict as it is searched for: a list of questions, asked in their order. Assumes nothing.
--   Question     the number of the failures that a question looks for, and what it finds
--   questions    all of them in their order, by the table of seniority
--   IsAnswered   what a question finds is right; each has a file of laws that says so
--   verdict      the verdict on a policy; that it is the right one is said by `Vetted`
use Rattle.std.specs.Prelude.{◌≡◌, ℕ, Bool, not, ◌&&◌, ◌||◌, List, [], ◌∷◌, Some, None, Option, Ok, Err, if◌then◌else◌, nat_lt}
use Rattle.sets.specs.Aliases.{RoleSet}
use Rattle.sets.specs.First.{first_of}
use Rattle.policy.specs.declared.tables.Tables.{Tables}
use Rattle.policy.specs.declared.verdict.Failure.{Failure}
use Rattle.policy.specs.declared.verdict.Failure.TheVariants.{Cycle, SelfConflict, UninheritedConflict, BothConflicts, UninheritedUserConflict, UninheritedAssignmentConflict}
use Rattle.policy.specs.Entries.{holds, ssd_pair, dsd_pair, users_pair, assignment_pair}
use Rattle.policy.specs.Questions.{Witness, IsLowest}
use Rattle.policy.specs.Seniority.{closure}
use Rattle.policy.specs.Verdicts.{Verdict, failure_number}

pub record Question : Type 0 where
  pub number : ℕ
  pub finding : Option Failure

-- none is found where no failure of the number has a witness, and else the lowest that has one
pub record IsAnswered (t : Tables) (q : Question) : Type 0 where
  pub none : q.finding ≡ None → (f : Failure) → failure_number f ≡ q.number → Witness t f → ⊥
  pub lowest : (f : Failure) → q.finding ≡ Some f → IsLowest t q.number f

-- two roles that are each senior to the other, the lower first
abbrev pub cycle_at : List RoleSet → ℕ → ℕ → Option Failure
cycle_at rows a b =
    if nat_lt a b && (holds rows a b && holds rows b a) then Some (Cycle a b) else None

abbrev pub lowest_cycle : List RoleSet → Tables → Option Failure
lowest_cycle rows t =
    first_of t.sizes.roles (λ a. first_of t.sizes.roles (cycle_at rows a))

abbrev pub cycle_question : List RoleSet → Tables → Question
cycle_question rows t = record { number = 11; finding = lowest_cycle rows t }

-- a role in conflict with itself
abbrev pub self_conflict_at : Tables → ℕ → Option Failure
self_conflict_at t a =
    if ssd_pair t a a || dsd_pair t a a then Some (SelfConflict a) else None

abbrev pub lowest_self_conflict : Tables → Option Failure
lowest_self_conflict t = first_of t.sizes.roles (self_conflict_at t)

abbrev pub self_conflict_question : Tables → Question
self_conflict_question t = record { number = 12; finding = lowest_self_conflict t }

-- a senior role without the static conflict of its junior
abbrev pub is_uninherited_conflict : List RoleSet → Tables → ℕ → ℕ → ℕ → Bool
is_uninherited_conflict rows t a b c = holds rows a b && (ssd_pair t b c && not (ssd_pair t a c))

abbrev pub uninherited_conflict_at : List RoleSet → Tables → ℕ → ℕ → ℕ → Option Failure
uninherited_conflict_at rows t a b c =
    if is_uninherited_conflict rows t a b c then Some (UninheritedConflict a b c) else None

abbrev pub lowest_uninherited_conflict : List RoleSet → Tables → Option Failure
lowest_uninherited_conflict rows t =
    let n : ℕ = t.sizes.roles in
    first_of n (λ a. first_of n (λ b. first_of n (λ c. uninherited_conflict_at rows t a b c)))

abbrev pub uninherited_conflict_question : List RoleSet → Tables → Question
uninherited_conflict_question rows t =
    record { number = 13; finding = lowest_uninherited_conflict rows t }

-- a pair in both kinds of conflict
abbrev pub both_conflicts_at : Tables → ℕ → ℕ → Option Failure
both_conflicts_at t a b =
    if ssd_pair t a b && dsd_pair t a b then Some (BothConflicts a b) else None

abbrev pub lowest_both_conflicts : Tables → Option Failure
lowest_both_conflicts t = first_of t.sizes.roles (λ a. first_of 32 (both_conflicts_at t a))

abbrev pub both_conflicts_question : Tables → Question
both_conflicts_question t = record { number = 14; finding = lowest_both_conflicts t }

-- two users in conflict for a junior role and not for its senior
abbrev pub uninherited_user_conflict_at : Tables → ℕ → ℕ → ℕ → ℕ → Option Failure
uninherited_user_conflict_at t a b u v =
    if users_pair t b u v && not (users_pair t a u v)
    then Some (UninheritedUserConflict a b u v)
    else None

abbrev pub uninherited_users_at : List RoleSet → Tables → ℕ → ℕ → Option Failure
uninherited_users_at rows t a b =
    if holds rows a b
    then first_of t.sizes.users (λ u. first_of 64 (uninherited_user_conflict_at t a b u))
    else None

abbrev pub lowest_uninherited_users : List RoleSet → Tables → Option Failure
lowest_uninherited_users rows t =
    first_of t.sizes.roles (λ a. first_of t.sizes.roles (uninherited_users_at rows t a))

abbrev pub uninherited_users_question : List RoleSet → Tables → Question
uninherited_users_question rows t =
    record { number = 15; finding = lowest_uninherited_users rows t }

-- two users who may not share an assignment of a junior role, and are not listed for its senior
abbrev pub uninherited_assignment_conflict_at : Tables → ℕ → ℕ → ℕ → ℕ → Option Failure
uninherited_assignment_conflict_at t a b u v =
    if assignment_pair t b u v && not (assignment_pair t a u v)
    then Some (UninheritedAssignmentConflict a b u v)
    else None

abbrev pub uninherited_assignments_at : List RoleSet → Tables → ℕ → ℕ → Option Failure
uninherited_assignments_at rows t a b =
    if holds rows a b
    then first_of t.sizes.users (λ u. first_of 64 (uninherited_assignment_conflict_at t a b u))
    else None

abbrev pub lowest_uninherited_assignments : List RoleSet → Tables → Option Failure
lowest_uninherited_assignments rows t =
    first_of t.sizes.roles (λ a. first_of t.sizes.roles (uninherited_assignments_at rows t a))

abbrev pub uninherited_assignments_question : List RoleSet → Tables → Question
uninherited_assignments_question rows t =
    record { number = 16; finding = lowest_uninherited_assignments rows t }

-- all questions, in the order of their numbers
abbrev pub questions : List RoleSet → Tables → List Question
questions rows t =
    cycle_question rows t
    ∷ self_conflict_question t
    ∷ uninherited_conflict_question rows t
    ∷ both_conflicts_question t
    ∷ uninherited_users_question rows t
    ∷ uninherited_assignments_question rows t
    ∷ []

-- the first failure that is found, or the verdict on what comes after
abbrev pub failure_or : Option Failure → Verdict → Verdict
failure_or (Some f) rest = Err f
failure_or None rest = rest

abbrev pub first_failure : List Question → Verdict
first_failure [] = Ok tt
first_failure (q ∷ qs) = failure_or q.finding (first_failure qs)

-- the verdict on a policy
abbrev pub verdict : Tables → Verdict
verdict t = first_failure (questions (closure t.hierarchy.juniors) t)
