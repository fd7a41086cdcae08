-- The family of users who may not share an assignment keeps the laws of a rule, and is exact. It
-- proves, and assumes nothing.
use Rattle.std.specs.Prelude.{◌≡◌, ℕ, suc, zero, ◌+◌, ◌<◌, ◌≤◌, Bool, true, false, not, ◌&&◌, is_some, Some, None, Option, ◌≢◌, refl}
use Rattle.std.proofs.Common.{sym, ap, ◌∙◌, inl, inr, arith}
use Rattle.std.specs.List.{list_any, range_with_len}
use Rattle.std.specs.Option.{option_map}
use Rattle.std.proofs.lemmas.Bool.{cases_eq, both_ways, false_from_ne_true, and_from, and_parts, or_cases, or_left, or_right, not_from_false, not-true}
use Rattle.sets.specs.Sets.{has}
use Rattle.sets.specs.Aliases.{RoleSet}
use Rattle.sets.specs.FirstLaws.{first_none, first_never, first_some}
use Rattle.records.specs.declared.event.Event.{Event}
use Rattle.policy.specs.declared.tables.Tables.{Tables}
use Rattle.policy.specs.AskingLaws.{mapped_none}
use Rattle.policy.specs.Entries.{inherits, holds, assignment_pair}
use Rattle.policy.specs.Seniority.{Senior, closure, TellsSeniority}
use Rattle.policy.specs.SeniorityLaws.{closure_tells}
use Rattle.policy.specs.SearchLaws.{few}
use Rattle.policy.specs.WellFormed.{WellFormed}
use Rattle.monitor.specs.declared.changes.Change.{Change}
use Rattle.monitor.specs.declared.changes.Change.TheVariants.{Assigned, Enabled, Seated}
use Rattle.monitor.specs.declared.states.Cells.{Cells}
use Rattle.monitor.specs.Authority.{Fits}
use Rattle.monitor.specs.Cells.{is_assigned, blank}
use Rattle.monitor.specs.ChangeLaws.{MayHave, MayChange, possible_may, assigned-own, assigned-other}
use Rattle.monitor.specs.Changes.{change_of, applied, next}
use Rattle.monitor.specs.Meaning.{Law, Lawful}
use Rattle.monitor.specs.Possible.{Possible}
use Rattle.monitor.specs.NewStateLaws.{nobody_assigned}
use Rattle.families.specs.AssignmentConflicts.{Unshared, some_role, is_related, stands_against, stands_against_new, lowest_against, violation_of, violation_number, assignment_conflicts}
use Rattle.families.specs.Family.{Exact}
use Rattle.families.specs.FamilyLaws.{Named, detail_named, admitted_none, none_admitted, not_both}
use Rattle.families.specs.HousePiles.{BelowOwn}
use Rattle.families.specs.declared.assignment_conflicts.Violation.{Violation}
use Rattle.families.specs.declared.assignment_conflicts.Violation.TheVariants.{HeldBy}

-- some role passes a test

some_at : (n a k : ℕ) (test : ℕ → Bool) → a ≤ k → k < a + n → test k ≡ true
    → list_any test (range_with_len a n) ≡ true
some_at zero a k test l m h = absurd (omega arith)
some_at (suc n) a k test l m h = elim (cases_eq k a) [
  | inl e ↦ or_left (test a) _ (ap test (sym e) ∙ h)
  | inr ne ↦ or_right (test a) _ (some_at n (a + 1) k test (omega arith) (omega arith) h)
]

some_in : (n a : ℕ) (test : ℕ → Bool) → list_any test (range_with_len a n) ≡ true
    → (k : ℕ) × (k < a + n) × (test k ≡ true)
some_in zero a test h = absurd (both_ways false refl h)
some_in (suc n) a test h = elim (or_cases (test a) _ h) [
  | inl p ↦ (a, omega arith, p)
  | inr p ↦ let f = some_in n (a + 1) test p in (f.0, omega (arith, f.1), f.2)
]

pub some_here : (test : ℕ → Bool) (k : ℕ) → k < 32 → test k ≡ true → some_role test ≡ true
some_here test k l h = some_at 32 0 k test (omega arith) l h

pub some_found : (test : ℕ → Bool) → some_role test ≡ true
    → (k : ℕ) × (k < 32) × (test k ≡ true)
some_found test h = some_in 32 0 test h

-- the tests of what a user holds, and of another's new roles

abbrev pub held_related : Tables → Cells → ℕ → ℕ → ℕ → ℕ → Bool
held_related t c u r v q = is_assigned c v q && (assignment_pair t q u v && is_related t r q)

abbrev pub against_new : Tables → Cells → ℕ → RoleSet → ℕ → ℕ → Bool
against_new t c u roles v r =
    (has roles.bits r && not (is_assigned c u r)) && stands_against t c u r v

blank_unshared : (t : Tables) → Unshared t blank
blank_unshared t a b u v p hu hv = absurd (both_ways _ (nobody_assigned u a) hu)

module _ (t : Tables) (w : WellFormed t) where
  pub tells : TellsSeniority t.hierarchy.juniors (closure t.hierarchy.juniors)
  tells = closure_tells t.hierarchy.juniors t.sizes.roles w.roles_sized.1 w.juniors_within

  pub related_up : (a b : ℕ) → a < 32 → Senior (inherits t) a b → is_related t a b ≡ true
  related_up a b l p =
      or_left (holds (closure t.hierarchy.juniors) a b) _ (tells.senior_held a b l p)

  pub related_down : (a b : ℕ) → b < 32 → Senior (inherits t) b a → is_related t a b ≡ true
  related_down a b l p =
      or_right (holds (closure t.hierarchy.juniors) a b) _ (tells.senior_held b a l p)

  -- a listed pair is of roles and users of the policy, and of two different users
  pub low_role : (r u v : ℕ) → assignment_pair t r u v ≡ true → r < 32
  low_role r u v h = few t w (w.assignment_conflicts.within (r, u, v) h).0

  pub low_user : (r u v : ℕ) → assignment_pair t r u v ≡ true → v < 64
  low_user r u v h =
      let i = w.assignment_conflicts.within (r, u, v) h in omega (arith, i.2, w.users_sized.1)

  turned : (r u v : ℕ) → assignment_pair t r u v ≡ true → assignment_pair t r v u ≡ true
  turned r u v h = w.assignment_conflicts.symmetric r v u ∙ h

  pub different : (r u v : ℕ) → assignment_pair t r u v ≡ true → v ≢ u
  different r u v h e =
      both_ways (assignment_pair t r u u) (w.assignment_conflicts.apart r u)
      (ap (assignment_pair t r u) (sym e) ∙ h)

  module _ (c : Cells) (fits : Fits t c) (u : ℕ) (roles : RoleSet) (may : MayHave t c u roles) where
    abbrev after : Cells
    after = applied t c (Assigned u roles)

    -- what is held after the change
    own_now : (r : ℕ) → has roles.bits r ≡ true → is_assigned after u r ≡ true
    own_now r h =
        ap (λ (s : RoleSet). has s.bits r) (assigned-own t w c fits u roles may u refl) ∙ h

    own_then : (v r : ℕ) → v ≡ u → is_assigned after v r ≡ true → has roles.bits r ≡ true
    own_then v r e h =
        ap (λ (s : RoleSet). has s.bits r) (sym (assigned-own t w c fits u roles may v e)) ∙ h

    other_now : (v r : ℕ) → v ≢ u → is_assigned after v r ≡ is_assigned c v r
    other_now v r ne =
        ap (λ (s : RoleSet). has s.bits r) (assigned-other t w c fits u roles may v ne)

    -- no other user holds a role related to one of the user's, of those after the change, that is
    -- new and for both of which the two are listed, where the state before is allowed and nobody
    -- is found
    no_related : Unshared t c → lowest_against t c u roles ≡ None → (r q v : ℕ)
        → has roles.bits r ≡ true → is_assigned c v q ≡ true
        → assignment_pair t r u v ≡ true → assignment_pair t q u v ≡ true
        → is_related t r q ≡ true → (is_assigned c u r ≡ true → ⊥) → ⊥
    no_related before none r q v hr hq pr pq related new =
        both_ways (stands_against_new t c u roles v)
        (first_none 64 (stands_against_new t c u roles) none v (low_user r u v pr))
        (some_here (against_new t c u roles v) r (low_role r u v pr)
        (and_from _ (stands_against t c u r v)
        (and_from (has roles.bits r) _ hr
        (not_from_false _ (false_from_ne_true (is_assigned c u r) new)))
        (and_from (assignment_pair t r u v) _ pr
        (some_here (held_related t c u r v) q (low_role q u v pq)
        (and_from (is_assigned c v q) _ hq (and_from (assignment_pair t q u v) _ pq related))))))

    unshared_after : Unshared t c → lowest_against t c u roles ≡ None → Unshared t after
    unshared_after before none a b x y p hx hy =
        not_both (assignment_pair t a x y) (assignment_pair t b x y) (λ pa pb.
        elim (cases_eq x u) [
          | inl e ↦ senior_here e pa pb
          | inr ne ↦ elim (cases_eq y u) [
            | inl e ↦ junior_here ne e pa pb
            | inr nf ↦ both_ways _ (before a b x y p (was x a ne hx) (was y b nf hy))
                (and_from (assignment_pair t a x y) _ pa pb)
          ]
        ])
      where
        was : (v r : ℕ) → v ≢ u → is_assigned after v r ≡ true → is_assigned c v r ≡ true
        was v r ne h = sym (other_now v r ne) ∙ h

        senior_here : x ≡ u → assignment_pair t a x y ≡ true → assignment_pair t b x y ≡ true → ⊥
        senior_here e pa pb =
            let of_user = λ (r : ℕ) (h : assignment_pair t r x y ≡ true).
            ap (λ k. assignment_pair t r k y) (sym e) ∙ h in
            let qa : assignment_pair t a u y ≡ true = of_user a pa in
            let qb : assignment_pair t b u y ≡ true = of_user b pb in
            let hb = was y b (different a u y qa) hy in
            no_related before none a b y (own_then x a e hx) hb qa qb
            (related_up a b (low_role a u y qa) p)
            (λ old. both_ways _ (before a b u y p old hb)
            (and_from (assignment_pair t a u y) _ qa qb))

        junior_here : x ≢ u → y ≡ u → assignment_pair t a x y ≡ true
            → assignment_pair t b x y ≡ true → ⊥
        junior_here ne e pa pb =
            let of_user = λ (r : ℕ) (h : assignment_pair t r x y ≡ true).
            ap (λ k. assignment_pair t r x k) (sym e) ∙ h in
            let qa : assignment_pair t a x u ≡ true = of_user a pa in
            let qb : assignment_pair t b x u ≡ true = of_user b pb in
            let ha = was x a ne hx in
            no_related before none b a x (own_then y b e hy) ha (turned b x u qb) (turned a x u qa)
            (related_down b a (low_role a x u qa) p)
            (λ old. both_ways _ (before a b x u p ha old)
            (and_from (assignment_pair t a x u) _ qa qb))

    -- nobody is found where the state after is allowed
    none_found : Unshared t after → lowest_against t c u roles ≡ None
    none_found unshared = first_never 64 (stands_against_new t c u roles) (λ v l.
        false_from_ne_true (stands_against_new t c u roles v) (λ h.
        let r = some_found (against_new t c u roles v) h in
        let s = and_parts _ (stands_against t c u r.0 v) r.2 in
        let m = and_parts (has roles.bits r.0) _ s.0 in
        let k = and_parts (assignment_pair t r.0 u v) _ s.1 in
        let q = some_found (held_related t c u r.0 v) k.1 in
        let f = and_parts (is_assigned c v q.0) _ q.2 in
        let g = and_parts (assignment_pair t q.0 u v) _ f.1 in
        let hv = other_now v q.0 (different r.0 u v k.0) ∙ f.0 in
        elim (or_cases (holds (closure t.hierarchy.juniors) r.0 q.0) _ g.1) [
          | inl up ↦ both_ways _
              (unshared r.0 q.0 u v (tells.held_senior r.0 q.0 up) (own_now r.0 m.0) hv)
              (and_from (assignment_pair t r.0 u v) _ k.0 g.0)
          | inr down ↦ both_ways _
              (unshared q.0 r.0 v u (tells.held_senior q.0 r.0 down) hv (own_now r.0 m.0))
              (and_from (assignment_pair t q.0 v u) _ (turned q.0 u v g.0) (turned r.0 u v k.0))
        ]))

  module _ (c : Cells) (fits : Fits t c) where
    allowed_after : (d : Change) → MayChange t c d → Unshared t c → violation_of t c d ≡ None
        → Unshared t (applied t c d)
    allowed_after (Assigned u roles) may before e =
        unshared_after c fits u roles may before (mapped_none HeldBy _ e)
    allowed_after (Enabled roles) may before e = before
    allowed_after (Seated s y) may before e = before

    no_violation : (d : Change) → MayChange t c d → Unshared t (applied t c d)
        → violation_of t c d ≡ None
    no_violation (Assigned u roles) may unshared =
        ap (option_map HeldBy) (none_found c fits u roles may unshared)
    no_violation (Enabled roles) may unshared = refl
    no_violation (Seated s y) may unshared = refl

    -- where the question is failed, a user is assigned a role anew
    assigned_anew : (d : Change) → MayChange t c d → not (is_some (violation_of t c d)) ≡ false
        → (u : ℕ) × (r : ℕ) × (is_assigned c u r ≡ false) × (is_assigned (applied t c d) u r ≡ true)
    assigned_anew (Assigned u roles) may denied = found (lowest_against t c u roles) refl denied
      where
        found : (o : Option ℕ) → lowest_against t c u roles ≡ o
            → not (is_some (option_map HeldBy o)) ≡ false
            → (v : ℕ) × (r : ℕ) × (is_assigned c v r ≡ false)
            × (is_assigned (applied t c (Assigned u roles)) v r ≡ true)
        found None e h = absurd (both_ways true h refl)
        found (Some v) e h =
            let first = first_some 64 (stands_against_new t c u roles) v e in
            let r = some_found (against_new t c u roles v) first.passes in
            let is = and_parts _ (stands_against t c u r.0 v) r.2 in
            let new = and_parts (has roles.bits r.0) _ is.0 in (
              u,
              r.0,
              not-true (is_assigned c u r.0) new.1,
              own_now c fits u roles may r.0 new.0,
            )
    assigned_anew (Enabled roles) may denied = absurd (both_ways true denied refl)
    assigned_anew (Seated s y) may denied = absurd (both_ways true denied refl)

named : (v : Violation) → Named (violation_number v)
named (HeldBy v) = (omega arith, omega arith)

pub assignment_conflicts_law : Law assignment_conflicts
assignment_conflicts_law = record {
  fresh = λ t law. blank_unshared t;
  keeps = λ t c e law fits can before yes.
      allowed_after t law.formed c fits (change_of c e) (possible_may t law.formed c fits e can)
      before (admitted_none _ yes);
  named = λ t c e law fits can ok denied.
      let n = detail_named violation_number named (violation_of t c (change_of c e)) denied in
      (n.0, omega (arith, n.1));
}

pub assignment_conflicts_exact : Exact assignment_conflicts
assignment_conflicts_exact = record {
  admitted_leads_on = assignment_conflicts_law.keeps;
  allowed_is_admitted = λ t c e law fits can before after.
      none_admitted _ (no_violation t law.formed c fits (change_of c e)
      (possible_may t law.formed c fits e can) after);
}

pub refuses_only_assignments : (t : Tables) (c : Cells) (e : Event) → Lawful t → Fits t c
    → Possible t c e → assignment_conflicts.admits t c e ≡ false
    → (u : ℕ) × (r : ℕ) × (is_assigned c u r ≡ false) × (is_assigned (next t c e) u r ≡ true)
refuses_only_assignments t c e law fits can denied =
    assigned_anew t law.formed c fits (change_of c e) (possible_may t law.formed c fits e can)
    denied

pub assignment_conflicts_below_own : BelowOwn assignment_conflicts
assignment_conflicts_below_own t c e law fits can ok denied =
    (detail_named violation_number named (violation_of t c (change_of c e)) denied).1
