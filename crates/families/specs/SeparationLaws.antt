-- Separation keeps the laws of a rule, and is exact. It proves, and assumes nothing.
-- Of a checked policy it uses that a senior has each static conflict of its juniors.
use Rattle.std.specs.Prelude.{◌≡◌, ℕ, zero, suc, ◌<◌, Bool, true, false, not, ◌&&◌, ◌⊎◌, None, ◌≢◌, refl}
use Rattle.std.proofs.Common.{sym, ap, ◌∙◌, inl, inr, arith}
use Rattle.std.specs.Option.{option_map}
use Rattle.std.proofs.lemmas.Bool.{cases_Bool, cases_eq, both_ways, false_from_ne_true, and_from, and_parts, or_cases, or_left, or_right, not_from_false}
use Rattle.sets.specs.Sets.{has}
use Rattle.sets.specs.Aliases.{RoleSet}
use Rattle.sets.specs.FirstLaws.{first_none, first_never}
use Rattle.sets.specs.SetLaws.{has-difference_low}
use Rattle.policy.specs.declared.tables.Tables.{Tables}
use Rattle.policy.specs.declared.verdict.Failure.TheVariants.{UninheritedConflict}
use Rattle.policy.specs.AskingLaws.{mapped_none, none_first, first_none_of}
use Rattle.policy.specs.Entries.{inherits, ssd_pair, dsd_pair, users_pair}
use Rattle.policy.specs.Questions.{NoUninheritedConflict}
use Rattle.policy.specs.SearchLaws.{few}
use Rattle.policy.specs.Seniority.{Senior, itself, rows_union}
use Rattle.policy.specs.SeniorityLaws.{rows_union_in, rows_union_out}
use Rattle.policy.specs.WellFormed.{WellFormed}
use Rattle.monitor.specs.declared.changes.Change.{Change}
use Rattle.monitor.specs.declared.changes.Change.TheVariants.{Assigned, Enabled, Seated}
use Rattle.monitor.specs.declared.sessions.Session.{Session}
use Rattle.monitor.specs.declared.sessions.Whose.TheVariants.{User}
use Rattle.monitor.specs.declared.states.Cells.{Cells}
use Rattle.monitor.specs.Apart.{StaticallyApart}
use Rattle.monitor.specs.Authority.{Authorised, authority_of, Fits}
use Rattle.monitor.specs.AuthorityLaws.{authority_of_senior, senior_authority_of}
use Rattle.monitor.specs.Cells.{assigned_roles, is_assigned, is_active_for, blank}
use Rattle.monitor.specs.ChangeLaws.{MayHave, MayStand, MayChange, possible_may, active_since, gained_active, assigned-own, authorised_since}
use Rattle.monitor.specs.Changes.{change_of, applied, gained}
use Rattle.monitor.specs.Meaning.{Law}
use Rattle.monitor.specs.NewStateLaws.{none_active, nobody_assigned}
use Rattle.monitor.specs.Sessions.{owner}
use Rattle.families.specs.Family.{Exact}
use Rattle.families.specs.Separation.{Separated, newly_assigned, static_conflict, dynamic_conflict, some_below, is_rival, user_conflict, violation_of, violation_number, separation}
use Rattle.families.specs.declared.separation.Violation.{Violation}
use Rattle.families.specs.declared.separation.Violation.TheVariants.{StaticRole, DynamicRole, ConflictingUser}
use Rattle.families.specs.FamilyLaws.{Named, detail_named, admitted_none, none_admitted, not_both, none_if, asked_if, not_zero}
use Rattle.families.specs.HousePiles.{BelowOwn}

-- some number below another passes a test
pub some_at : (n : ℕ) (test : ℕ → Bool) (k : ℕ) → k < n → test k ≡ true → some_below n test ≡ true
unfolding some_below
some_at zero test k l h = absurd (omega arith)
some_at (suc n) test k l h = elim (cases_eq k n) [
  | inl e ↦ or_right (some_below n test) (test n) (ap test (sym e) ∙ h)
  | inr ne ↦ or_left (some_below n test) (test n) (some_at n test k (omega arith) h)
]

pub some_found : (n : ℕ) (test : ℕ → Bool) → some_below n test ≡ true
    → (k : ℕ) × (test k ≡ true) × (k < n)
unfolding some_below
some_found zero test h = absurd (both_ways false refl h)
some_found (suc n) test h = elim (or_cases (some_below n test) (test n) h) [
  | inl p ↦ let f = some_found n test p in (f.0, f.1, omega (arith, f.2))
  | inr p ↦ (n, p, omega arith)
]

-- of two tests that are never both passed, where one is
excluded : (a b : Bool) → (a && b) ≡ false → a ≡ true → b ≡ true → ⊥
excluded a b e h g = both_ways (a && b) e (and_from a b h g)

blank-separated : (t : Tables) → Separated t blank
blank-separated t = record {
  statically = λ u a b ha hb. absurd (both_ways _ (nobody_assigned u ha.0) ha.1);
  dynamically = λ u a b ha hb. absurd (both_ways _ (none_active (User u) a) ha);
  by_users = λ r u v hu hv. absurd (both_ways _ (none_active (User u) r) hu);
}

module _ (t : Tables) (w : WellFormed t) (c : Cells) (fits : Fits t c) where
  -- a user with other roles assigned

  module _ (u : ℕ) (roles : RoleSet) (may : MayHave t c u roles) where
    abbrev after : Cells
    after = applied t c (Assigned u roles)

    new-has : (r : ℕ) → has (newly_assigned c u roles).bits r
        ≡ (has roles.bits r && not (is_assigned c u r))
    new-has r =
        has-difference_low 32 roles.bits (assigned_roles c u).bits r
        (λ j h. few t w (may.inside j h)) (λ j h. few t w (fits.ranged u j h).1)

    -- of two of the roles in conflict, neither is new where the question is passed
    module _ (none : static_conflict t c u roles ≡ None) where
      not_new : (x y : ℕ) → has roles.bits x ≡ true → has roles.bits y ≡ true
          → ssd_pair t x y ≡ true → is_assigned c u x ≡ true
      not_new x y hx hy h = elim (cases_Bool (is_assigned c u x)) [
        | inl p ↦ p
        | inr p ↦
            let ly = few t w (may.inside y hy) in
            let partner = rows_union_in t.ssd.partners (newly_assigned c u roles) 32 x y
            (few t w (may.inside x hx))
            (new-has x ∙ and_from (has roles.bits x) _ hx (not_from_false _ p)) h in
            absurd (excluded (has (authority_of t roles).bits y) _
            (first_none 32 (λ a. has (authority_of t roles).bits a
            && has (rows_union t.ssd.partners (newly_assigned c u roles) 32) a) none y ly)
            (senior_authority_of t w roles y y ly hy itself) partner)
      ]

    assigned_apart : NoUninheritedConflict t → StaticallyApart t c
        → static_conflict t c u roles ≡ None → StaticallyApart t after
    assigned_apart inherited apart none v a b ha hb =
        false_from_ne_true (ssd_pair t a b) (λ h. go h
        (authorised_since t w c fits u roles may v a ha)
        (authorised_since t w c fits u roles may v b hb))
      where
        turned : (a b : ℕ) → ssd_pair t a b ≡ true → ssd_pair t b a ≡ true
        turned a b h = w.ssd.symmetric b a ∙ h

        goes_up : (a b c : ℕ) → Senior (inherits t) a b → ssd_pair t b c ≡ true
            → ssd_pair t a c ≡ true
        goes_up a b c p h = elim (cases_Bool (ssd_pair t a c)) [
          | inl q ↦ q
          | inr q ↦ absurd (inherited a b c (p, h, q))
        ]

        go : ssd_pair t a b ≡ true
            → ((v ≢ u) × Authorised t c v a)
            ⊎ ((v ≡ u) × ((x : ℕ) × (has roles.bits x ≡ true) × Senior (inherits t) x a))
            → ((v ≢ u) × Authorised t c v b)
            ⊎ ((v ≡ u) × ((x : ℕ) × (has roles.bits x ≡ true) × Senior (inherits t) x b)) → ⊥
        go h (inl x) (inl y) = both_ways (ssd_pair t a b) (apart v a b x.1 y.1) h
        go h (inl x) (inr y) = x.0 y.0
        go h (inr x) (inl y) = y.0 x.0
        go h (inr (e, (x, hx, px))) (inr (f, (y, hy, py))) =
            let conflict : ssd_pair t x y ≡ true =
            turned y x (goes_up y b x py (turned x b (goes_up x a b px h))) in
            both_ways (ssd_pair t a b)
            (apart u a b (x, not_new none x y hx hy conflict, px)
            (y, not_new none y x hy hx (turned x y conflict), py)) h

    apart_asks_none : StaticallyApart t after → static_conflict t c u roles ≡ None
    apart_asks_none apart =
        first_never 32 _ (λ a l. not_both (has (authority_of t roles).bits a) _ (λ h g.
        let x = rows_union_out t.ssd.partners (newly_assigned c u roles) 32 a g in
        let s = authority_of_senior t w roles a h in
        let has_x = (and_parts (has roles.bits x.0) _ (sym (new-has x.0) ∙ x.1)).0 in
        both_ways (ssd_pair t x.0 a)
        (apart u x.0 a (x.0, now x.0 has_x, itself) (s.0, now s.0 s.1, s.2)) x.2))
      where
        now : (r : ℕ) → has roles.bits r ≡ true → is_assigned after u r ≡ true
        now r h =
            ap (λ (s : RoleSet). has s.bits r) (assigned-own t w c fits u roles may u refl) ∙ h

  -- another session in the place of one

  module _ (s : ℕ) (y : Session) (l : s < t.sizes.sessions) (may : MayStand c y) where
    abbrev seated : Cells
    seated = applied t c (Seated s y)

    abbrev more : RoleSet
    more = record { bits = gained c (Seated s y) }

    since : (u k : ℕ) → is_active_for seated (User u) k ≡ true
        → (is_active_for c (User u) k ≡ true) ⊎ ((u ≡ owner y) × (has more.bits k ≡ true))
    since = active_since t w c fits s y l may

    -- no role in conflict with one that is gained is active for the owner, where the question is
    -- passed
    module _ (none : dynamic_conflict t seated (owner y) more ≡ None) where
      no_partner : (u a b : ℕ) → u ≡ owner y → has more.bits a ≡ true
          → is_active_for seated (User u) b ≡ true → dsd_pair t a b ≡ true → ⊥
      no_partner u a b e g hb h =
          let i = w.dsd.within a b h in
          excluded (is_active_for seated (User (owner y)) b) _
          (first_none 32 (λ k. is_active_for seated (User (owner y)) k
          && has (rows_union t.dsd.partners more 32) k) none b (few t w i.1))
          (ap (λ k. is_active_for seated (User k) b) (sym e) ∙ hb)
          (rows_union_in t.dsd.partners more 32 a b (few t w i.0) g h)

    -- nor has a user in conflict for it the role active
    module _ (none : user_conflict t seated (owner y) more ≡ None) where
      no_rival : (r u v : ℕ) → u ≡ owner y → has more.bits r ≡ true
          → is_active_for seated (User v) r ≡ true → users_pair t r u v ≡ true → ⊥
      no_rival r u v e g hv h =
          let i = w.activation_conflicts.within (r, u, v) h in
          let pair = and_from (users_pair t r (owner y) v) _
          (ap (λ k. users_pair t r k v) (sym e) ∙ h) hv in
          let test = some_at 32 (λ k. has more.bits k
          && (users_pair t k (owner y) v && is_active_for seated (User v) k)) r (few t w i.0)
          (and_from (has more.bits r) _ g pair) in
          let low : v < 64 = omega (arith, i.2, w.users_sized.1) in
          both_ways (is_rival t seated (owner y) more v)
          (first_none 64 (is_rival t seated (owner y) more) none v low) test

    seated_apart : Separated t c → dynamic_conflict t seated (owner y) more ≡ None
        → user_conflict t seated (owner y) more ≡ None → Separated t seated
    seated_apart sep none-d none-u = record {
      statically = sep.statically;
      dynamically = λ u a b ha hb. false_from_ne_true (dsd_pair t a b)
          (λ h. no_pair u a b h ha hb (since u a ha) (since u b hb));
      by_users = λ r u v hu hv. false_from_ne_true (users_pair t r u v)
          (λ h. no_users r u v h hu hv (since u r hu) (since v r hv));
    }
      where
        no_pair : (u a b : ℕ) → dsd_pair t a b ≡ true
            → is_active_for seated (User u) a ≡ true → is_active_for seated (User u) b ≡ true
            → (is_active_for c (User u) a ≡ true) ⊎ ((u ≡ owner y) × (has more.bits a ≡ true))
            → (is_active_for c (User u) b ≡ true) ⊎ ((u ≡ owner y) × (has more.bits b ≡ true)) → ⊥
        no_pair u a b h ha hb (inl p) (inl q) =
            both_ways (dsd_pair t a b) (sep.dynamically u a b p q) h
        no_pair u a b h ha hb (inl p) (inr q) =
            no_partner none-d u b a q.0 q.1 ha (w.dsd.symmetric b a ∙ h)
        no_pair u a b h ha hb (inr p) q = no_partner none-d u a b p.0 p.1 hb h

        no_users : (r u v : ℕ) → users_pair t r u v ≡ true
            → is_active_for seated (User u) r ≡ true → is_active_for seated (User v) r ≡ true
            → (is_active_for c (User u) r ≡ true) ⊎ ((u ≡ owner y) × (has more.bits r ≡ true))
            → (is_active_for c (User v) r ≡ true) ⊎ ((v ≡ owner y) × (has more.bits r ≡ true)) → ⊥
        no_users r u v h hu hv (inl p) (inl q) =
            both_ways (users_pair t r u v) (sep.by_users r u v p q) h
        no_users r u v h hu hv (inl p) (inr q) =
            no_rival none-u r v u q.0 q.1 hu (w.activation_conflicts.symmetric r v u ∙ h)
        no_users r u v h hu hv (inr p) q = no_rival none-u r u v p.0 p.1 hv h

    apart_finds_none : Separated t seated → (dynamic_conflict t seated (owner y) more ≡ None)
        × (user_conflict t seated (owner y) more ≡ None)
    apart_finds_none sep = (
      first_never 32 _ (λ a k. not_both (is_active_for seated (User (owner y)) a) _ (λ h g.
          let x = rows_union_out t.dsd.partners more 32 a g in
          both_ways (dsd_pair t x.0 a) (sep.dynamically (owner y) x.0 a
          (gained_active t w c fits s y l may x.0 x.1) h) x.2)),
      first_never 64 _ (λ v k. false_from_ne_true (is_rival t seated (owner y) more v) (λ h.
          let r = some_found 32 (λ k. has more.bits k
          && (users_pair t k (owner y) v && is_active_for seated (User v) k)) h in
          let p = and_parts (has more.bits r.0) _ r.1 in
          let q = and_parts (users_pair t r.0 (owner y) v) _ p.1 in
          both_ways (users_pair t r.0 (owner y) v) (sep.by_users r.0 (owner y) v
          (gained_active t w c fits s y l may r.0 p.0) q.1) q.0)),
    )

  -- of nothing new there is nothing in conflict

  static_asked : (u : ℕ) (roles : RoleSet) → violation_of t c (Assigned u roles) ≡ None
      → static_conflict t c u roles ≡ None
  static_asked u roles e = elim (asked_if (newly_assigned c u roles).bits _ e) [
    | inr q ↦ mapped_none StaticRole _ q
    | inl z ↦ first_never 32 _ (λ a l. not_both (has (authority_of t roles).bits a) _ (λ h g.
        let x = rows_union_out t.ssd.partners (newly_assigned c u roles) 32 a g in
        not_zero (newly_assigned c u roles).bits x.0 z x.1))
  ]

  active_asked : (s : ℕ) (y : Session) → violation_of t c (Seated s y) ≡ None
      → (dynamic_conflict t (applied t c (Seated s y)) (owner y)
      (record { bits = gained c (Seated s y) }) ≡ None)
      × (user_conflict t (applied t c (Seated s y)) (owner y)
      (record { bits = gained c (Seated s y) }) ≡ None)
  active_asked s y e = elim (asked_if new.bits _ e) [
    | inr q ↦
        let n = none_first _ _ q in
        (mapped_none DynamicRole _ n.0, mapped_none ConflictingUser _ n.1)
    | inl z ↦ (
      first_never 32 _ (λ a l. not_both (is_active_for after (User (owner y)) a) _ (λ h g.
          let x = rows_union_out t.dsd.partners new 32 a g in not_zero new.bits x.0 z x.1)),
      first_never 64 _ (λ v l. false_from_ne_true (is_rival t after (owner y) new v) (λ h.
          let r = some_found 32 (λ k. has new.bits k
          && (users_pair t k (owner y) v && is_active_for after (User v) k)) h in
          not_zero new.bits r.0 z (and_parts (has new.bits r.0) _ r.1).0)),
    )
  ]
    where
      new : RoleSet
      new = record { bits = gained c (Seated s y) }

      after : Cells
      after = applied t c (Seated s y)

  separated_after : (d : Change) → NoUninheritedConflict t → MayChange t c d → Separated t c
      → violation_of t c d ≡ None → Separated t (applied t c d)
  separated_after (Assigned u roles) inherited may sep e = record {
    statically = assigned_apart u roles may inherited sep.statically (static_asked u roles e);
    dynamically = sep.dynamically;
    by_users = sep.by_users;
  }
  separated_after (Enabled roles) inherited may sep e = record {
    statically = sep.statically;
    dynamically = sep.dynamically;
    by_users = sep.by_users;
  }
  separated_after (Seated s y) inherited may sep e =
      let n = active_asked s y e in seated_apart s y may.0 may.1 sep n.0 n.1

  no_violation : (d : Change) → MayChange t c d → Separated t (applied t c d)
      → violation_of t c d ≡ None
  no_violation (Assigned u roles) may sep =
      none_if (newly_assigned c u roles).bits _
      (ap (option_map StaticRole) (apart_asks_none u roles may sep.statically))
  no_violation (Enabled roles) may sep = refl
  no_violation (Seated s y) may sep =
      let n = apart_finds_none s y may.0 may.1 sep in
      none_if (gained c (Seated s y)) _
      (first_none_of _ _ (ap (option_map DynamicRole) n.0) (ap (option_map ConflictingUser) n.1))

named : (v : Violation) → Named (violation_number v)
named (StaticRole a) = (omega arith, omega arith)
named (DynamicRole a) = (omega arith, omega arith)
named (ConflictingUser v) = (omega arith, omega arith)

pub separation_law : Law separation
separation_law = record {
  fresh = λ t law. blank-separated t;
  keeps = λ t c e law fits can sep yes.
      separated_after t law.formed c fits (change_of c e)
      (λ a b d. law.passes (UninheritedConflict a b d))
      (possible_may t law.formed c fits e can) sep (admitted_none _ yes);
  named = λ t c e law fits can ok denied.
      let n = detail_named violation_number named (violation_of t c (change_of c e)) denied in
      (n.0, omega (arith, n.1));
}

pub separation_exact : Exact separation
separation_exact = record {
  admitted_leads_on = separation_law.keeps;
  allowed_is_admitted = λ t c e law fits can sep after.
      none_admitted _ (no_violation t law.formed c fits (change_of c e)
      (possible_may t law.formed c fits e can) after);
}

pub separation_below_own : BelowOwn separation
separation_below_own t c e law fits can ok denied =
    (detail_named violation_number named (violation_of t c (change_of c e)) denied).1
