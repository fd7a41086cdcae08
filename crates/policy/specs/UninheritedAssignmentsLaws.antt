-- What is found of the pairs of users that are listed for a junior role and not for its senior is
-- right: it is what is found of those in conflict for activation, where the one table stands in the
-- place of the other. Assumes nothing.
use Rattle.std.proofs.Common.{◌≡◌, ℕ, zero, suc, Bool, true, false, cond, not, ◌&&◌, List, Some, None, Option, sym, refl, ap, ◌∙◌, subst, arith}
use Rattle.std.specs.Option.{option_map, option_or}
use Rattle.sets.specs.First.{first_of}
use Rattle.sets.specs.Aliases.{RoleSet}
use Rattle.policy.specs.declared.tables.Tables.{Tables}
use Rattle.policy.specs.declared.verdict.Failure.{Failure}
use Rattle.policy.specs.declared.verdict.Failure.TheVariants.{UninheritedUserConflict, UninheritedAssignmentConflict}
use Rattle.policy.specs.AskingLaws.{mapped_none}
use Rattle.policy.specs.Entries.{holds, assignment_pair}
use Rattle.policy.specs.Questions.{Witness, IsLowest}
use Rattle.policy.specs.Search.{IsAnswered, uninherited_user_conflict_at, uninherited_users_at, lowest_uninherited_users, uninherited_users_question, uninherited_assignment_conflict_at, uninherited_assignments_at, lowest_uninherited_assignments, uninherited_assignments_question}
use Rattle.policy.specs.Seniority.{TellsSeniority}
use Rattle.policy.specs.UninheritedUsersLaws.{uninherited_users_answered}
use Rattle.policy.specs.Verdicts.{Lower, failure_number, failure_names}
use Rattle.policy.specs.WellFormed.{WellFormed}

-- the first of the answers that are handed on is the first answer, handed on

both_mapped : {A B : Type 0} (g : A → B) (o p : Option A)
    → option_or (option_map g o) (option_map g p) ≡ option_map g (option_or o p)
both_mapped g None p = refl
both_mapped g (Some x) p = refl

first_mapped : {A B : Type 0} (k : ℕ) (g : A → B) (f : ℕ → Option A) (h : ℕ → Option B)
    → ((i : ℕ) → h i ≡ option_map g (f i)) → first_of k h ≡ option_map g (first_of k f)
unfolding first_of
first_mapped zero g f h each = refl
first_mapped {A} {B} (suc k) g f h each =
    ap (λ (o : Option B). option_or o (h k)) (first_mapped k g f h each)
    ∙ ap (λ (o : Option B). option_or (option_map g (first_of k f)) o) (each k)
    ∙ both_mapped g (first_of k f) (f k)

if_mapped : {A B : Type 0} (b : Bool) (g : A → B) (o : Option A) (p : Option B)
    → p ≡ option_map g o → cond b p None ≡ option_map g (cond b o None)
if_mapped true g o p e = e
if_mapped false g o p e = refl

-- some answer was handed on
handed_on : {A B : Type 0} (g : A → B) (o : Option A) (v : B) → option_map g o ≡ Some v
    → (x : A) × (o ≡ Some x) × (g x ≡ v)
handed_on g None v e = cc
handed_on g (Some x) v e = (x, refl, cc)

-- the same failure, of the other table
abbrev at_assignment : Failure → Failure
at_assignment (UninheritedUserConflict a b u v) = UninheritedAssignmentConflict a b u v
at_assignment f = f

module _ (t : Tables) (w : WellFormed t) (rows : List RoleSet)
    (tells : TellsSeniority t.hierarchy.juniors rows) where
  abbrev exchanged : Tables
  exchanged = record t { activation_conflicts = t.assignment_conflicts }

  formed : WellFormed exchanged
  formed = record {
    users_sized = w.users_sized;
    roles_sized = w.roles_sized;
    sessions_sized = w.sessions_sized;
    juniors_within = w.juniors_within;
    needs_within = w.needs_within;
    ssd = w.ssd;
    dsd = w.dsd;
    activation_conflicts = w.assignment_conflicts;
    assignment_conflicts = w.assignment_conflicts;
  }

  asked : IsAnswered exchanged (uninherited_users_question rows exchanged)
  asked = uninherited_users_answered exchanged formed rows tells

  found_alike : lowest_uninherited_assignments rows t
      ≡ option_map at_assignment (lowest_uninherited_users rows exchanged)
  found_alike =
      first_mapped n at_assignment _ _ (λ a. first_mapped n at_assignment _ _ (of_roles a))
    where
      n : ℕ
      n = t.sizes.roles

      of_users : (a b u v : ℕ) → uninherited_assignment_conflict_at t a b u v
          ≡ option_map at_assignment (uninherited_user_conflict_at exchanged a b u v)
      of_users a b u v =
          if_mapped (assignment_pair t b u v && not (assignment_pair t a u v)) at_assignment
          (Some (UninheritedUserConflict a b u v)) (Some (UninheritedAssignmentConflict a b u v))
          refl

      of_roles : (a b : ℕ) → uninherited_assignments_at rows t a b
          ≡ option_map at_assignment (uninherited_users_at rows exchanged a b)
      of_roles a b =
          if_mapped (holds rows a b) at_assignment _ _
          (first_mapped t.sizes.users at_assignment _ _
          (λ u. first_mapped 64 at_assignment _ _ (of_users a b u)))

  lowest_alike : (f : Failure) → IsLowest exchanged 15 f → IsLowest t 16 (at_assignment f)
  lowest_alike (UninheritedUserConflict a b u v) l = record {
    numbered = refl;
    witness = l.witness;
    none_lower = none_lower;
  }
    where
      none_lower : (g : Failure) → failure_number g ≡ 16
          → Lower (failure_names g) (failure_names (UninheritedUserConflict a b u v))
          → Witness t g → ⊥
      none_lower (UninheritedAssignmentConflict x y p q) k s z =
          l.none_lower (UninheritedUserConflict x y p q) refl s z
      none_lower g k s z = omega arith
  lowest_alike f l = let k = l.numbered in absurd (omega arith)

  pub uninherited_assignments_answered : IsAnswered t (uninherited_assignments_question rows t)
  uninherited_assignments_answered = record { none = none; lowest = lowest }
    where
      none : lowest_uninherited_assignments rows t ≡ None → (f : Failure) → failure_number f ≡ 16
          → Witness t f → ⊥
      none e (UninheritedAssignmentConflict a b u v) k x =
          asked.none (mapped_none at_assignment _ (sym found_alike ∙ e))
          (UninheritedUserConflict a b u v) refl x
      none e f k x = omega arith

      lowest : (v : Failure) → lowest_uninherited_assignments rows t ≡ Some v → IsLowest t 16 v
      lowest v e =
          let h = handed_on at_assignment _ v (sym found_alike ∙ e) in
          subst (IsLowest t 16) h.2 (lowest_alike h.0 (asked.lowest h.0 h.1))
