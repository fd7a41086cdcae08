-- Precedence admits an event exactly where all that it requires stands. It proves, and assumes
-- nothing.
use Rattle.std.proofs.Common.{◌≡◌, ℕ, Bool, true, not, ◌&&◌, ◌↔◌, None, refl, ap, inl, inr}
use Rattle.std.specs.Option.{option_map}
use Rattle.std.proofs.lemmas.Bool.{both_ways, cases_Bool, and_from, not-true, not_from_false}
use Rattle.sets.specs.FirstLaws.{first_none, first_never}
use Rattle.records.specs.declared.event.Event.{Event}
use Rattle.records.specs.declared.event.Event.TheVariants.{Assign, Deassign, Enable, Disable, Open, Close, Activate, Deactivate}
use Rattle.policy.specs.declared.tables.Tables.{Tables}
use Rattle.policy.specs.AskingLaws.{mapped_none, none_first, first_none_of}
use Rattle.monitor.specs.declared.states.Cells.{Cells}
use Rattle.monitor.specs.Cells.{is_active, is_assigned, is_enabled, session_at}
use Rattle.monitor.specs.StandingLaws.{told_assigned, told_active, told_active_for}
use Rattle.monitor.specs.Sessions.{owner}
use Rattle.families.specs.FamilyLaws.{admitted_none, none_admitted, not_both}
use Rattle.families.specs.Precedence.{precedence, required, unmet_requirement, violation_by}
use Rattle.families.specs.Requirements.{EachStands, AllStands, AdmitsWhatStands}
use Rattle.families.specs.declared.precedence.RequirementKind.{RequirementKind}
use Rattle.families.specs.declared.precedence.RequirementKind.TheVariants as kind

-- the question of one kind finds nothing exactly where each required role passes the test

each_stands : (t : Tables) (k : RequirementKind) (r : ℕ) (test : ℕ → Bool)
    → unmet_requirement t k r test ≡ None → EachStands t k r (λ b. test b ≡ true)
each_stands t k r test e b l h =
    let none = first_none 32 (λ j. required t k r j && not (test j)) (mapped_none _ _ e) b l in
    elim (cases_Bool (test b)) [
      | inl p ↦ p
      | inr p ↦
          absurd (both_ways _ none
          (and_from (required t k r b) (not (test b)) h (not_from_false (test b) p)))
    ]

none_unmet : (t : Tables) (k : RequirementKind) (r : ℕ) (test : ℕ → Bool)
    → EachStands t k r (λ b. test b ≡ true) → unmet_requirement t k r test ≡ None
none_unmet t k r test all =
    ap (option_map (λ b. record { kind = k; role = b }))
    (first_never 32 (λ j. required t k r j && not (test j))
    (λ b l. not_both (required t k r b) (not (test b))
    (λ h n. both_ways (test b) (not-true (test b) n) (all b l h))))

-- and so where the test tells what stands

module _ (t : Tables) (k : RequirementKind) (r : ℕ) (test : ℕ → Bool) (Stands : ℕ → Type 0)
    (tells : (b : ℕ) → (test b ≡ true) ↔ Stands b) where
  met_stands : unmet_requirement t k r test ≡ None → EachStands t k r Stands
  met_stands e b l h = (tells b).0 (each_stands t k r test e b l h)

  stands_met : EachStands t k r Stands → unmet_requirement t k r test ≡ None
  stands_met all = none_unmet t k r test (λ b l h. (tells b).1 (all b l h))

itself : (test : ℕ → Bool) (b : ℕ) → (test b ≡ true) ↔ (test b ≡ true)
itself test b = (λ h. h, λ h. h)

-- the questions of each event

violated_none : (t : Tables) (c : Cells) (e : Event) → violation_by t c e ≡ None → AllStands t c e
violated_none t c (Assign u r) e =
    let p = none_first _ _ e in (
      met_stands t kind.AssignedToUser r _ _ (itself (is_assigned c u)) p.0,
      met_stands t kind.AssignedToAny r _ _ (told_assigned c) p.1,
    )
violated_none t c (Deassign u r) e = tt
violated_none t c (Enable r) e = met_stands t kind.Enabled r _ _ (itself (is_enabled c)) e
violated_none t c (Disable r) e = tt
violated_none t c (Open s u) e = tt
violated_none t c (Close s) e = tt
violated_none t c (Activate s r) e =
    let p = none_first _ _ e in
    let q = none_first _ _ p.1 in (
      met_stands t kind.ActiveForAny r _ _ (told_active c) p.0,
      met_stands t kind.ActiveInSession r _ _ (itself (is_active c s)) q.0,
      met_stands t kind.ActiveForOwner r _ _ (told_active_for c (owner (session_at c s))) q.1,
    )
violated_none t c (Deactivate s r) e = tt

none_violated : (t : Tables) (c : Cells) (e : Event) → AllStands t c e → violation_by t c e ≡ None
none_violated t c (Assign u r) all =
    first_none_of _ _ (stands_met t kind.AssignedToUser r _ _ (itself (is_assigned c u)) all.0)
    (stands_met t kind.AssignedToAny r _ _ (told_assigned c) all.1)
none_violated t c (Deassign u r) all = refl
none_violated t c (Enable r) all = stands_met t kind.Enabled r _ _ (itself (is_enabled c)) all
none_violated t c (Disable r) all = refl
none_violated t c (Open s u) all = refl
none_violated t c (Close s) all = refl
none_violated t c (Activate s r) all =
    first_none_of _ _ (stands_met t kind.ActiveForAny r _ _ (told_active c) all.0)
    (first_none_of _ _ (stands_met t kind.ActiveInSession r _ _ (itself (is_active c s)) all.1)
    (stands_met t kind.ActiveForOwner r _ _ (told_active_for c (owner (session_at c s))) all.2))
none_violated t c (Deactivate s r) all = refl

pub precedence_admits_what_stands : AdmitsWhatStands precedence
precedence_admits_what_stands = record {
  admitted_stands = λ t c e yes. violated_none t c e (admitted_none (violation_by t c e) yes);
  standing_is_admitted = λ t c e all.
      none_admitted (violation_by t c e) (none_violated t c e all);
}
