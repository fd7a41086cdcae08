-- Cardinality keeps the laws of a rule, and is exact. It proves, and assumes nothing.
use Rattle.std.specs.Prelude.{◌≡◌, ℕ, ◌≤◌, ◌<◌, Bool, true, false, not, ◌&&◌, ◌⊎◌, Some, None, Option, refl}
use Rattle.std.proofs.Common.{sym, ap, ◌∙◌, inl, inr, arith}
use Rattle.std.proofs.lemmas.Bool.{both_ways, cases_Bool, cases_eq, and_from, and_parts, and_right, leb-true, le-leb, not_from_true, not_from_false}
use Rattle.std.specs.Option.{option_map}
use Rattle.sets.specs.Sets.{has}
use Rattle.sets.specs.Aliases.{RoleSet}
use Rattle.sets.specs.CountLaws.{count_more, count_none}
use Rattle.sets.specs.FirstLaws.{first_never, first_none}
use Rattle.sets.specs.SetLaws.{has-difference_low}
use Rattle.policy.specs.declared.tables.Tables.{Tables}
use Rattle.policy.specs.AskingLaws.{passed, passes, mapped_none, none_first, first_none_of}
use Rattle.policy.specs.Limits.{limit_of_users, limit_of_roles, limit_of_active, limit_of_sessions, within}
use Rattle.policy.specs.WellFormed.{WellFormed}
use Rattle.monitor.specs.declared.changes.Change.{Change}
use Rattle.monitor.specs.declared.changes.Change.TheVariants.{Assigned, Enabled, Seated}
use Rattle.monitor.specs.declared.sessions.Session.{Session}
use Rattle.monitor.specs.declared.sessions.Whose.TheVariants.{User}
use Rattle.monitor.specs.declared.states.Cells.{Cells}
use Rattle.monitor.specs.Authority.{authority_of, Fits}
use Rattle.monitor.specs.AuthorityLaws.{authority_of-below, authorised-below}
use Rattle.monitor.specs.Cells.{authorised_roles, is_authorised, session_at, seats, using, blank}
use Rattle.monitor.specs.ChangeLaws.{MayHave, MayStand, MayChange, possible_may, gained-has, low_after, in_place, where_since, authorised-own, authorised-other}
use Rattle.monitor.specs.Changes.{change_of, applied, gained}
use Rattle.monitor.specs.CountLaws.{using_change}
use Rattle.monitor.specs.Meaning.{Law}
use Rattle.monitor.specs.NewStateLaws.{no_seats_taken, none_using, nobody_authorised}
use Rattle.monitor.specs.SessionLaws.{seats_in_set}
use Rattle.monitor.specs.Sessions.{active, active_where, is_open, owner, tally}
use Rattle.monitor.specs.StandingLaws.{told_seats}
use Rattle.families.specs.declared.cardinality.Violation.{Violation}
use Rattle.families.specs.declared.cardinality.Violation.TheVariants.{UsersOfRole, RolesOfUser, SeatsOfUser, SessionsOfRole}
use Rattle.families.specs.Cardinality.{users_of, roles_of, WithinLimits, SeatsWithin, newly_authorised, is_over_users, is_over_sessions, violation_of, violation_number, cardinality}
use Rattle.families.specs.Family.{Exact}
use Rattle.families.specs.FamilyLaws.{Named, detail_named, admitted_none, none_admitted, none_if, asked_if, not_zero}
use Rattle.families.specs.HousePiles.{BelowOwn}

-- counts and limits

less_within : (l : Option ℕ) (m n : ℕ) → m ≤ n → within l n ≡ true → within l m ≡ true
less_within None m n h e = refl
less_within (Some k) m n h e = le-leb m k (omega (arith, leb-true n k e))

none_within : (l : Option ℕ) (n : ℕ) → n ≡ 0 → within l n ≡ true
none_within None n e = refl
none_within (Some k) n e = le-leb n k (omega arith)

-- of one that is asked about, that it is not over its limit
holds_else : (a b : Bool) → (a && not b) ≡ false → a ≡ true → b ≡ true
holds_else true true f g = refl
holds_else true false f g = absurd (both_ways true f refl)
holds_else false b f g = absurd (both_ways false refl g)

-- of one that is within its limit, that it is not over it
never : (a b : Bool) → b ≡ true → (a && not b) ≡ false
never a b e = and_right a (not b) (not_from_true b e)

blank-within : (t : Tables) → WithinLimits t blank
blank-within t = record {
  users = λ r. none_within (limit_of_users t.limits r) _
      (count_none 64 (λ u. is_authorised blank u r) (λ u l. nobody_authorised u r));
  roles = λ u. none_within (limit_of_roles t.limits u) _
      (count_none 32 (is_authorised blank u) (λ r l. nobody_authorised u r));
  seats = λ u. none_within (limit_of_active t.limits u) _ (no_seats_taken u);
  sessions = λ r. none_within (limit_of_sessions t.limits r) _ (none_using r);
}

module _ (t : Tables) (w : WellFormed t) (c : Cells) (fits : Fits t c) (ok : WithinLimits t c) where
  -- a user with other roles assigned

  module _ (u : ℕ) (roles : RoleSet) (may : MayHave t c u roles) where
    abbrev after : Cells
    after = applied t c (Assigned u roles)

    abbrev new : ℕ
    new = newly_authorised t c u roles

    low : (r : ℕ) → has (authority_of t roles).bits r ≡ true → r < 32
    low r h = omega (arith, authority_of-below t w roles may.inside r h, w.roles_sized.1)

    new-has : (r : ℕ) → has new r ≡ (has (authority_of t roles).bits r && not (is_authorised c u r))
    new-has r =
        has-difference_low 32 (authority_of t roles).bits (authorised_roles c u).bits r low
        (λ j h. omega (arith, authorised-below t w c fits u j h, w.roles_sized.1))

    -- who is authorised then was so before, or is the user and newly so
    since : (v r : ℕ) → is_authorised after v r ≡ true
        → (is_authorised c v r ≡ true) ⊎ ((v ≡ u) × (has new r ≡ true))
    since v r h = elim (cases_eq v u) [
      | inr ne ↦
          let same = authorised-other t w c fits u roles may v ne in
          inl (ap (λ (s : RoleSet). has s.bits r) (sym same) ∙ h)
      | inl e ↦
          let held : has (authority_of t roles).bits r ≡ true =
          ap (λ (s : RoleSet). has s.bits r) (sym (authorised-own t w c fits u roles may))
          ∙ ap (λ k. is_authorised after k r) (sym e) ∙ h in
          elim (cases_Bool (is_authorised c u r)) [
            | inl p ↦ inl (ap (λ k. is_authorised c k r) e ∙ p)
            | inr p ↦
                inr (
                  e,
                  new-has r ∙ and_from (has (authority_of t roles).bits r) _ held
                      (not_from_false (is_authorised c u r) p),
                )
          ]
    ]

    fewer_users : (r : ℕ) → has new r ≡ false
        → users_of after.authorised r ≤ users_of c.authorised r
    fewer_users r none =
        count_more 64 (λ v. is_authorised after v r) (λ v. is_authorised c v r)
        (λ v l h. elim (since v r h) [
          | inl p ↦ p
          | inr p ↦ absurd (both_ways (has new r) none p.1)
        ])

    -- of the user where nothing is new, and of anyone else
    fewer_roles : (v : ℕ) → ((r : ℕ) → v ≡ u → has new r ≡ true → ⊥)
        → roles_of after.authorised v ≤ roles_of c.authorised v
    fewer_roles v none =
        count_more 32 (is_authorised after v) (is_authorised c v)
        (λ r l h. elim (since v r h) [ inl p ↦ p | inr p ↦ absurd (none r p.0 p.1) ])

    assigned_within : violation_of t c (Assigned u roles) ≡ None → WithinLimits t after
    assigned_within e = record {
      users = users;
      roles = each;
      seats = ok.seats;
      sessions = ok.sessions;
    }
      where
        users : (r : ℕ) → within (limit_of_users t.limits r) (users_of after.authorised r) ≡ true
        users r = elim (cases_Bool (has new r)) [
          | inr h ↦ less_within (limit_of_users t.limits r) _ _ (fewer_users r h) (ok.users r)
          | inl h ↦ elim (asked_if new _ e) [
            | inl z ↦ not_zero new r z h
            | inr q ↦
                let none = mapped_none UsersOfRole _ (none_first _ _ q).0 in
                let test = first_none 32 (is_over_users t after.authorised new) none r
                (low r (and_parts _ _ (sym (new-has r) ∙ h)).0) in
                holds_else (has new r)
                (within (limit_of_users t.limits r) (users_of after.authorised r)) test h
          ]
        ]

        each : (v : ℕ) → within (limit_of_roles t.limits v) (roles_of after.authorised v) ≡ true
        each v = elim (asked_if new _ e) [
          | inl z ↦
              less_within (limit_of_roles t.limits v) _ _
              (fewer_roles v (λ r is h. not_zero new r z h)) (ok.roles v)
          | inr q ↦ elim (cases_eq v u) [
            | inl is ↦
                let of : ℕ → Bool =
                λ k. within (limit_of_roles t.limits k) (roles_of after.authorised k) in
                ap of is ∙ (passed _ _ _ (none_first _ _ q).1).0
            | inr ne ↦
                less_within (limit_of_roles t.limits v) _ _
                (fewer_roles v (λ r is h. ne is)) (ok.roles v)
          ]
        ]

  -- another session in the place of one

  module _ (s : ℕ) (y : Session) (l : s < t.sizes.sessions) (may : MayStand c y)
      (user : is_open y ≡ true → owner y < t.sizes.users) where
    abbrev seated : Cells
    seated = applied t c (Seated s y)

    abbrev more : ℕ
    more = gained c (Seated s y)

    fewer_seats : (v : ℕ) → ((r : ℕ) → v ≡ owner y → has more r ≡ true → ⊥)
        → seats seated v ≤ seats c v
    fewer_seats v none =
        let here =
        count_more 32 (has (active_where (User v) y)) (has (active_where (User v) (session_at c s)))
        (λ r k h. elim (where_since t w c fits s y l may v r h) [
          | inl p ↦ p
          | inr p ↦ absurd (none r p.0 p.1)
        ]) in
        omega (arith, seats_in_set (User v) c.sessions s y (in_place t w c fits s y l may))

    fewer_using : (r : ℕ) → has more r ≡ false → using seated r ≤ using c r
    fewer_using r none =
        omega (arith, using_change t w c fits r (Seated s y) (l, may, user), ap tally none)

    seated_within : violation_of t c (Seated s y) ≡ None → WithinLimits t seated
    seated_within e = record {
      users = ok.users;
      roles = ok.roles;
      seats = each;
      sessions = sessions;
    }
      where
        each : (v : ℕ) → within (limit_of_active t.limits v) (seats seated v) ≡ true
        each v = elim (asked_if more _ e) [
          | inl z ↦
              less_within (limit_of_active t.limits v) _ _
              (fewer_seats v (λ r is h. not_zero more r z h)) (ok.seats v)
          | inr q ↦ elim (cases_eq v (owner y)) [
            | inl is ↦
                let of : ℕ → Bool = λ k. within (limit_of_active t.limits k) (seats seated k) in
                ap of is ∙ (passed _ _ _ q).0
            | inr ne ↦
                less_within (limit_of_active t.limits v) _ _
                (fewer_seats v (λ r is h. ne is)) (ok.seats v)
          ]
        ]

        sessions : (r : ℕ) → within (limit_of_sessions t.limits r) (using seated r) ≡ true
        sessions r = elim (cases_Bool (has more r)) [
          | inr h ↦ less_within (limit_of_sessions t.limits r) _ _ (fewer_using r h) (ok.sessions r)
          | inl h ↦ elim (asked_if more _ e) [
            | inl z ↦ not_zero more r z h
            | inr q ↦
                let none = mapped_none SessionsOfRole _ (passed _ _ _ q).1 in
                let test = first_none 32 (is_over_sessions t seated more) none r
                (low_after t w c fits s y l may r
                (and_parts (has (active y) r) _ (sym (gained-has t w c fits s y l may r) ∙ h)).0) in
                holds_else (has more r)
                (within (limit_of_sessions t.limits r) (using seated r)) test h
          ]
        ]

  within_after : (d : Change) → MayChange t c d → violation_of t c d ≡ None
      → WithinLimits t (applied t c d)
  within_after (Assigned u roles) may e = assigned_within u roles may e
  within_after (Enabled roles) may e = record {
    users = ok.users;
    roles = ok.roles;
    seats = ok.seats;
    sessions = ok.sessions;
  }
  within_after (Seated s y) may e = seated_within s y may.0 may.1 may.2 e

-- where the state after is within the limits no question fails
no_violation : (t : Tables) (c : Cells) (d : Change) → WithinLimits t (applied t c d)
    → violation_of t c d ≡ None
no_violation t c (Assigned u roles) ok =
    let after = (applied t c (Assigned u roles)).authorised in
    let new = newly_authorised t c u roles in
    none_if new _ (first_none_of _ _
    (ap (option_map UsersOfRole)
    (first_never 32 (is_over_users t after new) (λ r l. never (has new r) _ (ok.users r))))
    (passes _ _ _ (ok.roles u) refl))
no_violation t c (Enabled roles) ok = refl
no_violation t c (Seated s y) ok =
    let after = applied t c (Seated s y) in
    let new = gained c (Seated s y) in
    none_if new _ (passes _ _ _ (ok.seats (owner y))
    (ap (option_map SessionsOfRole)
    (first_never 32 (is_over_sessions t after new) (λ r l. never (has new r) _ (ok.sessions r)))))

named : (x : Violation) → Named (violation_number x)
named (UsersOfRole r) = (omega arith, omega arith)
named (RolesOfUser u) = (omega arith, omega arith)
named (SeatsOfUser u) = (omega arith, omega arith)
named (SessionsOfRole r) = (omega arith, omega arith)

pub cardinality_law : Law cardinality
cardinality_law = record {
  fresh = λ t law. blank-within t;
  keeps = λ t c e law fits can ok yes.
      within_after t law.formed c fits ok (change_of c e)
      (possible_may t law.formed c fits e can) (admitted_none _ yes);
  named = λ t c e law fits can ok denied.
      let n = detail_named violation_number named (violation_of t c (change_of c e)) denied in
      (n.0, omega (arith, n.1));
}

pub cardinality_exact : Exact cardinality
cardinality_exact = record {
  admitted_leads_on = cardinality_law.keeps;
  allowed_is_admitted = λ t c e law fits can ok after.
      none_admitted _ (no_violation t c (change_of c e) after);
}

pub cardinality_below_own : BelowOwn cardinality
cardinality_below_own t c e law fits can ok denied =
    (detail_named violation_number named (violation_of t c (change_of c e)) denied).1

-- the limit of a user bounds the pairs of a session and a role that are seats of the user's
pub seats_within : (t : Tables) (c : Cells) → Fits t c → WithinLimits t c → SeatsWithin t c
seats_within t c fits ok u most e =
    let kept : within (Some most) (seats c u) ≡ true =
    ap (λ (l : Option ℕ). within l (seats c u)) (sym e) ∙ ok.seats u in
    omega (arith, leb-true (seats c u) most kept, told_seats t c fits u)
