-- The family of users who may not share an assignment judges what others hold. It proves, and
-- assumes nothing.
use Rattle.std.specs.Prelude.{◌≡◌, ℕ, ◌<◌, true, false, not, ◌&&◌, is_some, Some, None, Option, ◌≢◌, refl}
use Rattle.std.proofs.Common.{sym, ap, ◌∙◌, inl, inr, eqb, ltb}
use Rattle.std.specs.Option.{option_map}
use Rattle.std.proofs.lemmas.Bool.{both_ways, and_from, and_parts, false_from_ne_true, not_from_false, not-true, or_cases, or_right, eqb-true, eq-eqb, lt-ltb}
use Rattle.sets.specs.Sets.{has}
use Rattle.sets.specs.Aliases.{RoleSet}
use Rattle.sets.specs.FirstLaws.{first_none, first_never, first_some}
use Rattle.sets.specs.SetLaws.{has-with}
use Rattle.records.specs.declared.event.Event.TheVariants.{Assign}
use Rattle.policy.specs.declared.tables.Tables.{Tables}
use Rattle.policy.specs.AskingLaws.{passed, mapped_none}
use Rattle.policy.specs.Entries.{holds, assignment_pair}
use Rattle.policy.specs.Seniority.{itself, closure}
use Rattle.policy.specs.WellFormed.{WellFormed}
use Rattle.monitor.specs.declared.states.Cells.{Cells}
use Rattle.monitor.specs.Authority.{Fits}
use Rattle.monitor.specs.AuthorityLaws.{relation_stored}
use Rattle.monitor.specs.Cells.{assigned_roles, is_assigned, is_authorised}
use Rattle.monitor.specs.Changes.{with_role}
use Rattle.monitor.specs.Possible.{Possible}
use Rattle.families.specs.AssignmentConflicts.{stands_against, stands_against_new, lowest_against, violation_number, violation_subject, assignment_conflicts}
use Rattle.families.specs.AssignmentConflictsLaws.{held_related, against_new, some_here, some_found, tells, related_up, related_down, low_role, low_user, different, refuses_only_assignments}
use Rattle.families.specs.Family.{detail}
use Rattle.families.specs.FamilyLaws.{admitted_none, none_admitted}
use Rattle.families.specs.Holdings.{StandsAgainst, JudgesHoldings}
use Rattle.families.specs.declared.assignment_conflicts.Violation.TheVariants.{HeldBy}

module _ (t : Tables) (w : WellFormed t) (c : Cells) (fits : Fits t c) (u r : ℕ)
    (can : Possible t c (Assign u r)) where
  abbrev roles : RoleSet
  roles = with_role (assigned_roles c u) r

  -- the one new role is r
  new_is : (k : ℕ) → has roles.bits k ≡ true → not (is_assigned c u k) ≡ true → k ≡ r
  new_is k h n =
      let has_it = sym (has-with 32 (assigned_roles c u).bits r k) ∙ h in
      elim (or_cases (is_assigned c u k) _ has_it) [
        | inl p ↦ absurd (both_ways (is_assigned c u k) (not-true (is_assigned c u k) n) p)
        | inr p ↦ eqb-true k r (and_parts (eqb k r) (ltb k 32) p).0
      ]

  is_new : r < 32 → (has roles.bits r && not (is_assigned c u r)) ≡ true
  is_new l =
      and_from (has roles.bits r) _
      (has-with 32 (assigned_roles c u).bits r r
      ∙ or_right (is_assigned c u r) _ (and_from (eqb r r) _ (eq-eqb r r refl) (lt-ltb r 32 l)))
      (not_from_false _ (false_from_ne_true (is_assigned c u r) (λ h.
      both_ways (is_authorised c u r)
      (not-true (is_authorised c u r)
      (passed (not (is_authorised c u r)) _ _ (passed _ _ _ can).1).0)
      (relation_stored t w c fits u r (r, h, itself)))))

  -- the test is the relation
  against_stands : (v : ℕ) → stands_against_new t c u roles v ≡ true → StandsAgainst t c u r v
  against_stands v h =
      let k = some_found (against_new t c u roles v) h in
      let p = and_parts _ (stands_against t c u k.0 v) k.2 in
      let n = and_parts (has roles.bits k.0) _ p.0 in
      let is = new_is k.0 n.0 n.1 in
      let s = and_parts (assignment_pair t r u v) _
      (ap (λ j. stands_against t c u j v) (sym is) ∙ p.1) in
      let q = some_found (held_related t c u r v) s.1 in
      let f = and_parts (is_assigned c v q.0) _ q.2 in
      let g = and_parts (assignment_pair t q.0 u v) _ f.1 in (
        q.0,
        f.0,
        elim (or_cases (holds (closure t.hierarchy.juniors) r q.0) _ g.1) [
          | inl down ↦ inr ((tells t w).held_senior r q.0 down)
          | inr up ↦ inl ((tells t w).held_senior q.0 r up)
        ],
        g.0,
        s.0,
      )

  stands_against_it : (v : ℕ) → StandsAgainst t c u r v → stands_against_new t c u roles v ≡ true
  stands_against_it v (q, h, p, pq, pr) =
      let lr = low_role t w r u v pr in
      let lq = low_role t w q u v pq in
      some_here (against_new t c u roles v) r lr
      (and_from _ (stands_against t c u r v) (is_new lr)
      (and_from (assignment_pair t r u v) _ pr
      (some_here (held_related t c u r v) q lq
      (and_from (is_assigned c v q) _ h
      (and_from (assignment_pair t q u v) _ pq (elim p [
        | inl up ↦ related_down t w r q lq up
        | inr down ↦ related_up t w r q lr down
      ]))))))

  none_stands : lowest_against t c u roles ≡ None → (v : ℕ) → StandsAgainst t c u r v → ⊥
  none_stands none v s =
      both_ways (stands_against_new t c u roles v)
      (first_none 64 (stands_against_new t c u roles) none v (low_user t w r u v s.4))
      (stands_against_it v s)

  none_found : ((v : ℕ) → StandsAgainst t c u r v → ⊥) → lowest_against t c u roles ≡ None
  none_found none = first_never 64 (stands_against_new t c u roles) (λ v l.
      false_from_ne_true (stands_against_new t c u roles v) (λ h. none v (against_stands v h)))

  -- what is named where somebody is found
  named : (o : Option ℕ) → lowest_against t c u roles ≡ o
      → not (is_some (option_map HeldBy o)) ≡ false
      → (detail violation_number (option_map HeldBy o) ≡ 48)
      × StandsAgainst t c u r (detail violation_subject (option_map HeldBy o))
      × ((v : ℕ) → v < detail violation_subject (option_map HeldBy o)
      → StandsAgainst t c u r v → ⊥)
      × (detail violation_subject (option_map HeldBy o) ≢ u)
  named None e h = absurd (both_ways true h refl)
  named (Some v) e h =
      let f = first_some 64 (stands_against_new t c u roles) v e in
      let s = against_stands v f.passes in (
        refl,
        s,
        (λ x l p. both_ways (stands_against_new t c u roles x) (f.before x l)
            (stands_against_it x p)),
        different t w r u v s.4,
      )

pub judges_holdings : JudgesHoldings assignment_conflicts
judges_holdings = record {
  only_assignments = refuses_only_assignments;
  admitted = λ t c u r law fits can. (
    λ yes. none_stands t law.formed c fits u r can (mapped_none HeldBy _ (admitted_none _ yes)),
    λ none. none_admitted _ (ap (option_map HeldBy) (none_found t law.formed c fits u r can none)),
  );
  named = λ t c u r law fits can denied.
      named t law.formed c fits u r can (lowest_against t c u (roles t law.formed c fits u r can))
      refl denied;
}
