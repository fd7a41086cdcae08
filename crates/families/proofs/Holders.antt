-- The lowest user whose holdings stand against an assignment, as `find` gives it.
use Rattle.std.proofs.Common.{◌≡◌, ℕ, ◌<◌, ◌≤◌, Bool, true, false, not, ◌&&◌, Some, None, Option, sym, ap, ◌∙◌, arith}
use mathlib.Core.Path.{fun_ext}
use Rattle.std.specs.Option.{MatchOption}
use Rattle.std.proofs.lemmas.Bool.{both_ways, and_from, and_parts, false_from_ne_true, not_from_false, eqb-true}
use Rattle.sets.specs.Aliases.{RoleSet}
use Rattle.sets.specs.First.{first_below}
use Rattle.sets.specs.FirstLaws.{first_never, first_is, first-same}
use Rattle.sets.specs.Sets.{has}
use Rattle.policy.specs.declared.tables.Tables.{Tables}
use Rattle.policy.specs.Entries.{no_users, assignment_pair}
use Rattle.monitor.specs.declared.states.Cells.{Cells}
use Rattle.monitor.specs.Cells.{is_assigned}
use Rattle.families.specs.AssignmentConflicts.{some_role, stands_against, stands_against_new, lowest_against}
use Rattle.families.specs.AssignmentConflictsLaws.{some_here, some_found, against_new}
use Rattle.families.specs.FamilyLaws.{not_zero}
use Rattle.std.specs.Prelude.{[], ◌==◌, slice_index_or}

-- what a search from 0 up finds is the least number that passes
pub first_of_search : (n : ℕ) (test : ℕ → Bool) (r : Option ℕ)
    → MatchOption r ((k : ℕ) → 0 ≤ k → k < n → test k ≡ false)
    (λ i. (0 ≤ i) × (i < n) × (test i ≡ true) × ((k : ℕ) → 0 ≤ k → k < i → test k ≡ false))
    → r ≡ first_below n test
first_of_search n test None none = sym (first_never n test (λ k l. none k (omega arith) l))
first_of_search n test (Some i) m =
    sym (first_is n test i m.1 m.2 (λ k l. m.3 k (omega arith) l))

-- a user whom the search looks for: what is held stands against one of these roles
abbrev pub stands_against_any : Tables → Cells → ℕ → RoleSet → ℕ → Bool
stands_against_any t c u new v = some_role (λ r. has new.bits r && stands_against t c u r v)

module _ (t : Tables) (c : Cells) (u : ℕ) (roles new : RoleSet)
    (are_new : (r : ℕ) → has new.bits r ≡ (has roles.bits r && not (is_assigned c u r))) where
  -- the search goes by the new roles
  pub among_new : first_below 64 (stands_against_any t c u new) ≡ lowest_against t c u roles
  among_new = first-same 64 (stands_against_any t c u new) (stands_against_new t c u roles) (λ v l.
      ap some_role (fun_ext (λ r. ap (λ b. b && stands_against t c u r v) (are_new r))))

  -- without users listed for one of them there is none
  abbrev is_listed : ℕ → Bool
  is_listed r =
      has new.bits r
      && not ((slice_index_or (slice_index_or t.assignment_conflicts.partners r []) u no_users).bits
      == 0)

  pub unlisted : some_role is_listed ≡ false → None ≡ lowest_against t c u roles
  unlisted none = sym (first_never 64 (stands_against_new t c u roles) (λ v l.
      false_from_ne_true (stands_against_new t c u roles v) (λ h.
      let r = some_found (against_new t c u roles v) h in
      let p = and_parts _ (stands_against t c u r.0 v) r.2 in
      let pair = (and_parts (assignment_pair t r.0 u v) _ p.1).0 in
      both_ways _ none (some_here is_listed r.0 r.1
      (and_from (has new.bits r.0) _ (are_new r.0 ∙ p.0)
      (not_from_false _ (false_from_ne_true _ (λ z. not_zero _ v (eqb-true _ 0 z) pair))))))))
