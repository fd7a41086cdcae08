-- A change that may be made leads from a state that fits the policy to one that fits it, and so
-- does every possible event; and what a user gains by it. It proves, for the crates above, and
-- assumes nothing.
use Rattle.std.proofs.Common.{◌≡◌, ℕ, ◌<◌, true, false, not, ◌&&◌, eqb, ltb, ◌⊎◌, length, get_or, set, None, sym, refl, ap, ◌∙◌, inl, inr, arith}
use Rattle.std.proofs.lemmas.List.{length-set, get_or-set_same, get_or-set_other}
use Rattle.std.proofs.lemmas.Bool.{both_ways, cases_Bool, cases_eq, eqb-true, eq-eqb, ne_eqb, ltb-true, lt-ltb, and_parts, and_from, or_cases, or_left, or_right, not-true, not_from_false}
use Rattle.std.specs.Prelude.{◌≢◌}
use Rattle.sets.specs.Sets.{has}
use Rattle.sets.specs.Aliases.{RoleSet}
use Rattle.sets.specs.FirstLaws.{first_none}
use Rattle.sets.specs.SetLaws.{has-zero, has-with, has_without_low, has-without_member, has-difference_low}
use Rattle.records.specs.declared.event.Event.{Event}
use Rattle.records.specs.declared.event.Event.TheVariants.{Assign, Deassign, Enable, Disable, Open, Close, Activate, Deactivate}
use Rattle.policy.specs.declared.tables.Tables.{Tables}
use Rattle.policy.specs.AskingLaws.{passed, mapped_none}
use Rattle.policy.specs.Entries.{no_roles, inherits, holds}
use Rattle.policy.specs.Seniority.{Senior}
use Rattle.policy.specs.WellFormed.{WellFormed}
use Rattle.policy.specs.RowLaws.{set_each}
use Rattle.monitor.specs.declared.answers.Impossibility.TheVariants.{StillActive}
use Rattle.monitor.specs.declared.changes.Change.{Change}
use Rattle.monitor.specs.declared.changes.Change.TheVariants.{Assigned, Enabled, Seated}
use Rattle.monitor.specs.declared.sessions.Session.{Session}
use Rattle.monitor.specs.declared.sessions.Session.TheVariants as session
use Rattle.monitor.specs.declared.sessions.Whose.TheVariants.{Anyone, User}
use Rattle.monitor.specs.declared.states.Cells.{Cells}
use Rattle.monitor.specs.Authority.{Authorised, authority_of, Stored, Fits}
use Rattle.monitor.specs.Cells.{assigned_roles, authorised_roles, session_at, is_assigned, is_authorised, is_enabled, is_active, is_active_for, Wide}
use Rattle.monitor.specs.Changes.{with_role, without_role, change_of, applied, next, gained, lost}
use Rattle.monitor.specs.Possible.{lost_authority, session_question, Possible}
use Rattle.monitor.specs.AuthorityLaws.{authority_of_more, active-below}
use Rattle.monitor.specs.SessionLaws.{active-counted, active-set, active_put, owner_is_meant, meant_is_owner, where_parts, where_from}
use Rattle.monitor.specs.Sessions.{is_open, active, owner, is_meant, active_where, with_active}

-- two numbers in range
pub both_below : (a m b n : ℕ) → (ltb a m && ltb b n) ≡ true → (a < m) × (b < n)
both_below a m b n e =
    let p = and_parts (ltb a m) (ltb b n) e in (ltb-true a m p.0, ltb-true b n p.1)

-- a role put into a set is there, and so are the others
pub has_own : (s : RoleSet) (r : ℕ) → r < 32 → has (with_role s r).bits r ≡ true
has_own s r l =
    has-with 32 s.bits r r
    ∙ or_right (has s.bits r) _ (and_from (eqb r r) (ltb r 32) (eq-eqb r r refl) (lt-ltb r 32 l))

pub has_still : (s : RoleSet) (r k : ℕ) → has s.bits k ≡ true → has (with_role s r).bits k ≡ true
has_still s r k h = has-with 32 s.bits r k ∙ or_left (has s.bits k) _ h

pub has_either : (s : RoleSet) (r k : ℕ) → has (with_role s r).bits k ≡ true
    → (has s.bits k ≡ true) ⊎ (k ≡ r)
has_either s r k h =
    elim (or_cases (has s.bits k) _ (sym (has-with 32 s.bits r k) ∙ h)) [
      | inl p ↦ inl p
      | inr p ↦ inr (eqb-true k r (and_parts (eqb k r) (ltb k 32) p).0)
    ]

-- the empty set has no member
pub none_has : {X : Type 0} (r : ℕ) → has 0 r ≡ true → X
none_has r h = absurd (both_ways (has 0 r) (has-zero r) h)

-- a session that may stand in a state: its roles are enabled and its owner authorised for them
pub record MayStand (c : Cells) (x : Session) : Type 0 where
  pub owned : owner x < 64
  pub live : (r : ℕ) → has (active x) r ≡ true → is_enabled c r ≡ true
  pub entitled : (r : ℕ) → has (active x) r ≡ true → is_authorised c (owner x) r ≡ true

-- roles that a user may have assigned: they authorise for all that is active for the user
pub record MayHave (t : Tables) (c : Cells) (u : ℕ) (roles : RoleSet) : Type 0 where
  pub below : u < t.sizes.users
  pub inside : (r : ℕ) → has roles.bits r ≡ true → r < t.sizes.roles
  pub kept : (s r : ℕ) → owner (session_at c s) ≡ u → is_active c s r ≡ true
      → has (authority_of t roles).bits r ≡ true

-- a change that may be made
abbrev pub MayChange : Tables → Cells → Change → Type 0
MayChange t c (Assigned u roles) = MayHave t c u roles
MayChange t c (Enabled roles) =
    ((s r : ℕ) → is_active c s r ≡ true → has roles.bits r ≡ true)
    × ((r : ℕ) → has roles.bits r ≡ true → r < t.sizes.roles)
MayChange t c (Seated s x) =
    (s < t.sizes.sessions) × MayStand c x × (is_open x ≡ true → owner x < t.sizes.users)

module _ (t : Tables) (w : WellFormed t) (c : Cells) (fits : Fits t c) where
  stands : (s : ℕ) → MayStand c (session_at c s)
  stands s = record {
    owned = fits.sound.owned s;
    live = fits.sound.live s;
    entitled = fits.sound.entitled s;
  }

  wide : Wide c
  wide = fits.sound.wide

  -- the three changes

  seated_fits : (s : ℕ) (x : Session) → s < t.sizes.sessions → MayStand c x
      → (is_open x ≡ true → owner x < t.sizes.users) → Fits t (applied t c (Seated s x))
  seated_fits s x l may user = record {
    sound = record {
      wide = (wide.0, wide.1, length-set c.sessions s x ∙ wide.2);
      owned =
          set_each (λ i y. owner y < 64) c.sessions s x session.Closed fits.sound.owned may.owned;
      live =
          set_each (λ i y. (r : ℕ) → has (active y) r ≡ true → is_enabled c r ≡ true) c.sessions s x
          session.Closed fits.sound.live may.live;
      entitled =
          set_each (λ i y. (r : ℕ) → has (active y) r ≡ true → is_authorised c (owner y) r ≡ true)
          c.sessions s x session.Closed fits.sound.entitled may.entitled;
    };
    stored = fits.stored;
    ranged = fits.ranged;
    enabled_within = fits.enabled_within;
    open_within =
        set_each (λ i y. is_open y ≡ true → (i < t.sizes.sessions) × (owner y < t.sizes.users))
        c.sessions s x session.Closed fits.open_within (λ h. (l, user h));
  }

  enabled_fits : (roles : RoleSet) → ((s r : ℕ) → is_active c s r ≡ true → has roles.bits r ≡ true)
      → ((r : ℕ) → has roles.bits r ≡ true → r < t.sizes.roles)
      → Fits t (applied t c (Enabled roles))
  enabled_fits roles live inside = record {
    sound = record {
      wide = fits.sound.wide;
      owned = fits.sound.owned;
      live = live;
      entitled = fits.sound.entitled;
    };
    stored = fits.stored;
    ranged = fits.ranged;
    enabled_within = inside;
    open_within = fits.open_within;
  }

  assigned_fits : (u : ℕ) (roles : RoleSet) → MayHave t c u roles
      → Fits t (applied t c (Assigned u roles))
  assigned_fits u roles may = record {
    sound = record {
      wide = (
        length-set c.assigned u roles ∙ wide.0,
        length-set c.authorised u (authority_of t roles) ∙ wide.1,
        wide.2,
      );
      owned = fits.sound.owned;
      live = fits.sound.live;
      entitled =
          λ s r h. set_each
          (λ v row. (k : ℕ) → owner (session_at c k) ≡ v → is_active c k r ≡ true
          → has row.bits r ≡ true)
          c.authorised u (authority_of t roles) no_roles
          (λ v k e a. ap (λ o. holds c.authorised o r) (sym e) ∙ fits.sound.entitled k r a)
          (λ k e a. may.kept k r e a) (owner (session_at c s)) s refl h;
    };
    stored = stored;
    ranged =
        set_each (λ v row. (r : ℕ) → has row.bits r ≡ true
        → (v < t.sizes.users) × (r < t.sizes.roles)) c.assigned u roles no_roles
        fits.ranged (λ r h. (may.below, may.inside r h));
    enabled_within = fits.enabled_within;
    open_within = fits.open_within;
  }
    where
      stored : Stored t (applied t c (Assigned u roles))
      stored v = elim (cases_eq v u) [
        | inl e ↦
            let a : get_or (set c.authorised u (authority_of t roles)) v no_roles
            ≡ authority_of t roles =
            ap (λ k. get_or (set c.authorised u (authority_of t roles)) k no_roles) e
            ∙ get_or-set_same c.authorised u (authority_of t roles) no_roles
            (omega (arith, wide.1, may.below, w.users_sized.1)) in
            let b : get_or (set c.assigned u roles) v no_roles ≡ roles =
            ap (λ k. get_or (set c.assigned u roles) k no_roles) e
            ∙ get_or-set_same c.assigned u roles no_roles
            (omega (arith, wide.0, may.below, w.users_sized.1)) in
            ap (λ (s : RoleSet). s.bits) a ∙ ap (λ (s : RoleSet). (authority_of t s).bits) (sym b)
        | inr ne ↦
            ap (λ (s : RoleSet). s.bits)
            (get_or-set_other c.authorised u v (authority_of t roles) no_roles ne)
            ∙ fits.stored v
            ∙ ap (λ (s : RoleSet). (authority_of t s).bits)
            (sym (get_or-set_other c.assigned u v roles no_roles ne))
      ]

  pub change_fits : (d : Change) → MayChange t c d → Fits t (applied t c d)
  change_fits (Assigned u roles) may = assigned_fits u roles may
  change_fits (Enabled roles) may = enabled_fits roles may.0 may.1
  change_fits (Seated s x) may = seated_fits s x may.0 may.1 may.2

  -- the change of a possible event may be made: each event in turn

  few : {r : ℕ} → r < t.sizes.roles → r < 32
  few l = omega (arith, w.roles_sized.1)

  -- a role active in a user's session is active for the user
  active_for_owner : (s k u : ℕ) → owner (session_at c s) ≡ u → is_active c s k ≡ true
      → is_active_for c (User u) k ≡ true
  active_for_owner s k u e h =
      active-counted (User u) c.sessions s k
      (ap (λ o. is_meant (User o) (session_at c s)) (sym e) ∙ owner_is_meant (session_at c s) k h) h

  may_assign : (u r : ℕ) → Possible t c (Assign u r)
      → MayHave t c u (with_role (assigned_roles c u) r)
  may_assign u r can =
      let l = both_below u t.sizes.users r t.sizes.roles (passed _ _ _ can).0 in
      let old = assigned_roles c u in
      record {
        below = l.0;
        inside =
            λ k h. elim (has_either old r k h) [
              | inl p ↦ (fits.ranged u k p).1
              | inr e ↦ omega (arith, l.1)
            ];
        kept =
            λ s k e h. authority_of_more t w old (with_role old r) k (λ a la p. has_still old r a p)
            (sym (ap (λ n. has n k) (fits.stored u)) ∙ ap (λ o. is_authorised c o k) (sym e)
            ∙ fits.sound.entitled s k h);
      }

  may_deassign : (u r : ℕ) → Possible t c (Deassign u r)
      → MayHave t c u (without_role (assigned_roles c u) r)
  may_deassign u r can =
      let q = passed _ _ _ can in
      let l = both_below u t.sizes.users r t.sizes.roles q.0 in
      let old = assigned_roles c u in
      let left = (authority_of t (without_role old r)).bits in
      let none = first_none 32 (λ k. is_active_for c (User u) k && not (has left k))
      (mapped_none StillActive (lost_authority t c u r)
      (passed (is_assigned c u r) _ _ q.1).1) in
      record {
        below = l.0;
        inside = λ k h. (fits.ranged u k (has-without_member 32 old.bits r k h)).1;
        kept =
            λ s k e h. stays k left (none k (few (active-below t w c fits s k h)))
            (active_for_owner s k u e h);
      }
    where
      stays : (k left : ℕ) → (is_active_for c (User u) k && not (has left k)) ≡ false
          → is_active_for c (User u) k ≡ true → has left k ≡ true
      stays k left f h = elim (cases_Bool (has left k)) [
        | inl p ↦ p
        | inr p ↦
            absurd (both_ways _ f
            (and_from (is_active_for c (User u) k) (not (has left k)) h
            (not_from_false (has left k) p)))
      ]

  may_disable : (r : ℕ) → Possible t c (Disable r) → (s k : ℕ) → is_active c s k ≡ true
      → has (without_role c.enabled r).bits k ≡ true
  may_disable r can s k h =
      let q = passed _ _ _ (passed _ _ _ can).1 in
      let free = not-true _ (passed (not (is_active_for c Anyone r)) _ _ q.1).0 in
      has_without_low 32 c.enabled.bits r k (few (active-below t w c fits s k h))
      ∙ and_from (is_enabled c k) (not (eqb k r)) (fits.sound.live s k h)
      (not_from_false (eqb k r) (ne_eqb k r (λ e. both_ways (is_active_for c Anyone r) free
      (active-counted Anyone c.sessions s r refl (ap (λ j. is_active c s j) (sym e) ∙ h)))))

  -- a session with a role more, where the questions of an activation are passed, and with a role
  -- less
  may_activate : (s r : ℕ) (x : Session) → MayStand c x → session_question c x (Activate s r) ≡ None
      → MayStand c (with_active x (with_role (record { bits = active x }) r))
  may_activate s r session.Closed old can = cc
  may_activate s r (session.Open o a) old can =
      let p = passed (is_enabled c r) _ _ can in
      let q = passed (is_authorised c o r) _ _ p.1 in
      record {
        owned = old.owned;
        live =
            λ k h. elim (has_either a r k h) [
              | inl j ↦ old.live k j
              | inr e ↦ ap (is_enabled c) e ∙ p.0
            ];
        entitled =
            λ k h. elim (has_either a r k h) [
              | inl j ↦ old.entitled k j
              | inr e ↦ ap (is_authorised c o) e ∙ q.0
            ];
      }

  may_deactivate : (r : ℕ) (x : Session) → MayStand c x
      → MayStand c (with_active x (without_role (record { bits = active x }) r))
  may_deactivate r session.Closed old = old
  may_deactivate r (session.Open o a) old = record {
    owned = old.owned;
    live = λ k h. old.live k (has-without_member 32 a.bits r k h);
    entitled = λ k h. old.entitled k (has-without_member 32 a.bits r k h);
  }

  -- a session with other roles active has the owner that it had
  same_user : {n : ℕ} (x : Session) (roles : RoleSet)
      → (is_open x ≡ true → (n < t.sizes.sessions) × (owner x < t.sizes.users))
      → is_open (with_active x roles) ≡ true → owner (with_active x roles) < t.sizes.users
  same_user session.Closed roles within h = absurd (both_ways false refl h)
  same_user (session.Open o a) roles within h = (within refl).1

  pub possible_may : (e : Event) → Possible t c e → MayChange t c (change_of c e)
  possible_may (Assign u r) can = may_assign u r can
  possible_may (Deassign u r) can = may_deassign u r can
  possible_may (Enable r) can = (
    λ s k h. has_still c.enabled r k (fits.sound.live s k h),
    λ k h. elim (has_either c.enabled r k h) [
      | inl p ↦ fits.enabled_within k p
      | inr e ↦ let l = ltb-true r t.sizes.roles (passed _ _ _ can).0 in omega arith
    ],
  )
  possible_may (Disable r) can =
      (may_disable r can, λ k h. fits.enabled_within k (has-without_member 32 c.enabled.bits r k h))
  possible_may (Open s u) can =
      let l = both_below s t.sizes.sessions u t.sizes.users (passed _ _ _ can).0 in (
        l.0,
        record {
          owned = omega (arith, l.1, w.users_sized.1);
          live = λ r h. none_has r h;
          entitled = λ r h. none_has r h;
        },
        λ h. l.1,
      )
  possible_may (Close s) can = (
    ltb-true s t.sizes.sessions (passed _ _ _ can).0,
    record { owned = omega arith; live = λ r h. none_has r h; entitled = λ r h. none_has r h },
    λ h. absurd (both_ways false refl h),
  )
  possible_may (Activate s r) can =
      let q = passed _ _ _ can in (
        (both_below s t.sizes.sessions r t.sizes.roles q.0).0,
        may_activate s r (session_at c s) (stands s) q.1,
        same_user (session_at c s) _ (fits.open_within s),
      )
  possible_may (Deactivate s r) can = (
    (both_below s t.sizes.sessions r t.sizes.roles (passed _ _ _ can).0).0,
    may_deactivate r (session_at c s) (stands s),
    same_user (session_at c s) _ (fits.open_within s),
  )

  pub next_fits : (e : Event) → Possible t c e → Fits t (next t c e)
  next_fits e can = change_fits (change_of c e) (possible_may e can)

  -- what a session that is put in the place of another gains

  module _ (s : ℕ) (y : Session) (l : s < t.sizes.sessions) (may : MayStand c y) where
    abbrev pub seated : Cells
    seated = applied t c (Seated s y)

    pub in_place : s < length c.sessions
    in_place = omega (arith, l, w.sessions_sized.1, wide.2)

    pub seated-there : session_at seated s ≡ y
    seated-there = get_or-set_same c.sessions s y session.Closed in_place

    -- only roles of the policy are active in it, and in the one before
    pub low_after : (k : ℕ) → has (active y) k ≡ true → k < 32
    low_after k h = few (fits.enabled_within k (may.live k h))

    pub low_before : (k : ℕ) → has (active (session_at c s)) k ≡ true → k < 32
    low_before k h = few (active-below t w c fits s k h)

    pub gained-has : (k : ℕ)
        → has (gained c (Seated s y)) k
        ≡ (has (active y) k && not (has (active_where (User (owner y)) (session_at c s)) k))
    gained-has k =
        has-difference_low 32 (active y) (active_where (User (owner y)) (session_at c s)) k
        low_after
        (λ j h. low_before j (where_parts (User (owner y)) (session_at c s) j h).1)

    pub lost-has : (k : ℕ) → has (lost c (Seated s y)) k
        ≡ (has (active (session_at c s)) k
        && not (has (active_where (User (owner (session_at c s))) y) k))
    lost-has k =
        has-difference_low 32 (active (session_at c s))
        (active_where (User (owner (session_at c s))) y) k low_before
        (λ j h. low_after j (where_parts (User (owner (session_at c s))) y j h).1)

    -- what is active in it for a user was so in the one before, or gained by the user, its owner
    pub where_since : (u k : ℕ) → has (active_where (User u) y) k ≡ true
        → (has (active_where (User u) (session_at c s)) k ≡ true)
        ⊎ ((u ≡ owner y) × (has (gained c (Seated s y)) k ≡ true))
    where_since u k h =
        let p = where_parts (User u) y k h in
        let e : u ≡ owner y = meant_is_owner u y p.0 in
        elim (cases_Bool (has (active_where (User (owner y)) (session_at c s)) k)) [
          | inl b ↦ inl (ap (λ o. has (active_where (User o) (session_at c s)) k) e ∙ b)
          | inr b ↦ inr (e, gained-has k ∙ and_from (has (active y) k) _ p.1 (not_from_false _ b))
        ]

    -- what is active then for a user was so before, or the user is the owner and gained it
    pub active_since : (u k : ℕ) → is_active_for seated (User u) k ≡ true
        → (is_active_for c (User u) k ≡ true)
        ⊎ ((u ≡ owner y) × (has (gained c (Seated s y)) k ≡ true))
    active_since u k h = elim (active-set (User u) c.sessions s k y h) [
      | inl q ↦ inl q
      | inr q ↦ elim (where_since u k (where_from (User u) y k q.0 q.1)) [
        | inl b ↦
            let p = where_parts (User u) (session_at c s) k b in
            inl (active-counted (User u) c.sessions s k p.0 p.1)
        | inr g ↦ inr g
      ]
    ]

    -- and what is gained is active then for the owner
    pub gained_active : (k : ℕ) → has (gained c (Seated s y)) k ≡ true
        → is_active_for seated (User (owner y)) k ≡ true
    gained_active k h =
        let a = (and_parts (has (active y) k) _ (sym (gained-has k) ∙ h)).0 in
        active_put (User (owner y)) c.sessions s k y in_place (owner_is_meant y k a) a

  -- what a user with other roles assigned is authorised for

  module _ (u : ℕ) (roles : RoleSet) (may : MayHave t c u roles) where
    abbrev pub reassigned : Cells
    reassigned = applied t c (Assigned u roles)

    is_user : u < 64
    is_user = omega (arith, may.below, w.users_sized.1)

    pub assigned-own : (v : ℕ) → v ≡ u → assigned_roles reassigned v ≡ roles
    assigned-own v e =
        ap (λ k. get_or (set c.assigned u roles) k no_roles) e
        ∙ get_or-set_same c.assigned u roles no_roles (omega (arith, is_user, wide.0))

    pub authorised-own : authorised_roles reassigned u ≡ authority_of t roles
    authorised-own =
        get_or-set_same c.authorised u (authority_of t roles) no_roles
        (omega (arith, is_user, wide.1))

    pub assigned-other : (v : ℕ) → v ≢ u → assigned_roles reassigned v ≡ assigned_roles c v
    assigned-other v ne = get_or-set_other c.assigned u v roles no_roles ne

    pub authorised-other : (v : ℕ) → v ≢ u → authorised_roles reassigned v ≡ authorised_roles c v
    authorised-other v ne = get_or-set_other c.authorised u v (authority_of t roles) no_roles ne

    -- who is authorised then was so before, or is the user, by one of the roles
    pub authorised_since : (v a : ℕ) → Authorised t reassigned v a
        → ((v ≢ u) × Authorised t c v a)
        ⊎ ((v ≡ u) × ((x : ℕ) × (has roles.bits x ≡ true) × Senior (inherits t) x a))
    authorised_since v a (x, h, p) = elim (cases_eq v u) [
      | inl e ↦ inr (e, (x, ap (λ (s : RoleSet). has s.bits x) (sym (assigned-own v e)) ∙ h, p))
      | inr ne ↦
          inl (ne, (x, ap (λ (s : RoleSet). has s.bits x) (sym (assigned-other v ne)) ∙ h, p))
    ]
