-- After one more record the tables say exactly what the records say. Assumes nothing.
use Rattle.std.proofs.Common.{◌≡◌, ℕ, zero, suc, ◌-◌, ◌<◌, ◌≤◌, true, false, not, ◌&&◌, ltb, leb, List, [], ◌∷◌, length, get_or, set, replicate, is_some, Some, None, Option, sym, refl, ap, ◌∙◌, subst, inl, inr, arith}
use Rattle.std.proofs.lemmas.List.{length-set, length-replicate, get_or-replicate, get_or-set_same, get_or-set_other}
use Rattle.std.proofs.lemmas.Bool.{cases_eq, and_parts, ltb-true, leb-true}
use Rattle.records.specs.Kinds.{between}
use Rattle.records.specs.declared.entry.Entry.{Entry}
use Rattle.records.specs.declared.entry.Entry.TheVariants.{Sizes, Inherits, StaticPair, DynamicPair, ConflictingUsers, LimitOfRoleUsers, LimitOfUserRoles, LimitOfUserActive, LimitOfRoleSessions, Required, Dependency, AssignmentConflict}
use Rattle.sets.specs.Aliases.{RoleSet, UserSet}
use Rattle.policy.specs.declared.tables.Sizes.{Sizes as Counts}
use Rattle.policy.specs.declared.tables.Tables.{Tables}
use Rattle.policy.specs.Entries.{no_roles, no_users, holds, inherits, ssd_pair, dsd_pair, users_pair, assignment_pair, requires_role, depends}
use Rattle.policy.specs.Limits.{limit_of_users, limit_of_roles, limit_of_active, limit_of_sessions}
use Rattle.policy.specs.Reading.{is_sizes, in_range, is_unlimited, with_entry}
use Rattle.policy.specs.Recorded.{Says, SaysEitherWay, SaysLimit, TablesSay}
use Rattle.policy.specs.RowLaws.{no_member, replicate_each, set_each}
use Rattle.policy.specs.Updates.{only, with_role}
use Rattle.policy.specs.WellFormed.{UserPairs, WellFormed}
use Rattle.policy.specs.SaysLaws.{says_still, either_still, limit_still, says_more, either_more, users_more, limit_more, says_nothing, either_nothing, limit_nothing}

-- every table that well formed tables do not speak of has an entry for each number
abbrev pub Long : Tables → Type 0
Long t =
    (length t.hierarchy.juniors ≡ 32)
    × (length t.dependencies.needs ≡ 32)
    × (length t.requirements.sets ≡ 6)
    × ((i : ℕ) → i < 6 → length (get_or t.requirements.sets i []) ≡ 32)
    × (length t.limits.users ≡ 32)
    × (length t.limits.roles ≡ 64)
    × (length t.limits.active ≡ 64)
    × (length t.limits.sessions ≡ 32)

-- numbers in range are within the tables
few : (a b n most : ℕ) → n ≤ most → (ltb a n && ltb b n) ≡ true → (a < most) × (b < most)
few a b n most l e =
    let p = and_parts (ltb a n) (ltb b n) e in
    let x = ltb-true a n p.0 in
    let y = ltb-true b n p.1 in (omega arith, omega arith)

-- a pair of users in range has its place in a table of such pairs
listed : {s : Counts} {rows : List (List UserSet)} → s.roles ≤ 32 → s.users ≤ 64
    → UserPairs s rows → (r u v : ℕ) → (ltb r s.roles && (ltb u s.users && ltb v s.users)) ≡ true
    → (r < length rows) × (length (get_or rows r []) ≡ 64) × (u < 64) × (v < 64)
listed {s} {rows} lr lu pairs r u v e =
    let p = and_parts (ltb r s.roles) (ltb u s.users && ltb v s.users) e in
    let a = ltb-true r s.roles p.0 in
    let low : r < 32 = omega arith in
    let wide = pairs.wide.0 in
    let f = few u v s.users 64 lu p.1 in (omega arith, pairs.wide.1 r low, f.0, f.1)

unset : (o : Option ℕ) → not (is_some o) ≡ true → o ≡ None
unset None e = refl
unset (Some n) e = cc

-- the tables after one more record, which is not a sizes record
module _ (t : Tables) (w : WellFormed t) (l : Long t) (xs : List Entry) (h : TablesSay xs t) where
  juniors_after : (x : Entry) → is_sizes x ≡ false → in_range t.sizes x ≡ true
      → Says (inherits (with_entry t x)) (x ∷ xs) Inherits
  juniors_after (Sizes u r n) z i = cc
  juniors_after (Inherits a b) z i =
      let f = few a b t.sizes.roles 32 w.roles_sized.1 i in
      says_more 32 t.hierarchy.juniors a b xs Inherits (λ x y e. (cc, cc))
      (omega (arith, l.0, f)) f.1 h.juniors
  juniors_after x z i = says_still x xs Inherits (λ a b e. cc) (inherits t) h.juniors

  needs_after : (x : Entry) → is_sizes x ≡ false → in_range t.sizes x ≡ true
      → Says (depends (with_entry t x)) (x ∷ xs) Dependency
  needs_after (Sizes u r n) z i = cc
  needs_after (Dependency a b) z i =
      let f = few a b t.sizes.roles 32 w.roles_sized.1 i in
      says_more 32 t.dependencies.needs a b xs Dependency (λ x y e. (cc, cc))
      (omega (arith, l.1, f)) f.1 h.needs
  needs_after x z i = says_still x xs Dependency (λ a b e. cc) (depends t) h.needs

  statics_after : (x : Entry) → is_sizes x ≡ false → in_range t.sizes x ≡ true
      → SaysEitherWay (ssd_pair (with_entry t x)) (x ∷ xs) StaticPair
  statics_after (Sizes u r n) z i = cc
  statics_after (StaticPair a b) z i =
      let f = few a b t.sizes.roles 32 w.roles_sized.1 i in
      let wide = w.ssd.wide in
      either_more 32 t.ssd.partners a b xs StaticPair (λ x y e. (cc, cc)) (omega (arith, wide, f))
      (omega (arith, wide, f)) f.0 f.1 h.statics
  statics_after x z i = either_still x xs StaticPair (λ a b e. cc) (ssd_pair t) h.statics

  dynamics_after : (x : Entry) → is_sizes x ≡ false → in_range t.sizes x ≡ true
      → SaysEitherWay (dsd_pair (with_entry t x)) (x ∷ xs) DynamicPair
  dynamics_after (Sizes u r n) z i = cc
  dynamics_after (DynamicPair a b) z i =
      let f = few a b t.sizes.roles 32 w.roles_sized.1 i in
      let wide = w.dsd.wide in
      either_more 32 t.dsd.partners a b xs DynamicPair (λ x y e. (cc, cc)) (omega (arith, wide, f))
      (omega (arith, wide, f)) f.0 f.1 h.dynamics
  dynamics_after x z i = either_still x xs DynamicPair (λ a b e. cc) (dsd_pair t) h.dynamics

  users_after : (x : Entry) → is_sizes x ≡ false → in_range t.sizes x ≡ true → (q : ℕ)
      → SaysEitherWay (users_pair (with_entry t x) q) (x ∷ xs) (ConflictingUsers q)
  users_after (Sizes u r n) z i q = cc
  users_after (ConflictingUsers r u v) z i q =
      let f = listed w.roles_sized.1 w.users_sized.1 w.activation_conflicts r u v i in
      users_more t.activation_conflicts.partners r u v xs ConflictingUsers
      (λ q a b e. (cc, (cc, cc))) f.0 f.1 f.2 f.3 h.users q
  users_after x z i q =
      either_still x xs (ConflictingUsers q) (λ a b e. cc) (users_pair t q) (h.users q)

  assignments_after : (x : Entry) → is_sizes x ≡ false → in_range t.sizes x ≡ true → (q : ℕ)
      → SaysEitherWay (assignment_pair (with_entry t x) q) (x ∷ xs) (AssignmentConflict q)
  assignments_after (Sizes u r n) z i q = cc
  assignments_after (AssignmentConflict r u v) z i q =
      let f = listed w.roles_sized.1 w.users_sized.1 w.assignment_conflicts r u v i in
      users_more t.assignment_conflicts.partners r u v xs AssignmentConflict
      (λ q a b e. (cc, (cc, cc))) f.0 f.1 f.2 f.3 h.assignments q
  assignments_after x z i q =
      either_still x xs (AssignmentConflict q) (λ a b e. cc) (assignment_pair t q) (h.assignments q)

  required_after : (x : Entry) → is_sizes x ≡ false → in_range t.sizes x ≡ true → (q : ℕ)
      → Says (requires_role (with_entry t x) q) (x ∷ xs) (Required q)
  required_after (Sizes u r n) z i q = cc
  required_after (Required k a b) z i q = by_condition q
    where
      x : Entry
      x = Required k a b

      sets : List (List RoleSet)
      sets = t.requirements.sets

      p : (between 1 6 k ≡ true) × ((ltb a t.sizes.roles && ltb b t.sizes.roles) ≡ true)
      p = and_parts (between 1 6 k) (ltb a t.sizes.roles && ltb b t.sizes.roles) i

      c : (1 ≤ k) × (k ≤ 6)
      c = let d = and_parts (leb 1 k) (leb k 6) p.0 in (leb-true 1 k d.0, leb-true k 6 d.1)

      f : (a < 32) × (b < 32)
      f = few a b t.sizes.roles 32 w.roles_sized.1 p.1

      low : k - 1 < 6
      low = omega (arith, c)

      there : k - 1 < length sets
      there = let long = l.2 in omega (arith, low)

      row : List RoleSet
      row = get_or sets (k - 1) []

      new : List RoleSet
      new = with_role row a b

      here : Says (holds new) (x ∷ xs) (Required k)
      here =
          let long = l.3 (k - 1) low in
          let k_is : suc (k - 1) ≡ k = omega (arith, c) in
          says_more 32 row a b xs (Required k) (λ a b e. (cc, cc)) (omega (arith, f)) f.1
          (subst (λ j. Says (requires_role t (suc (k - 1))) xs (Required j)) k_is
          (h.required (suc (k - 1))))

      by_condition : (q : ℕ) → Says (requires_role (with_entry t x) q) (x ∷ xs) (Required q)
      by_condition zero =
          says_still x xs (Required zero)
          (λ a b e. let z : k ≡ 0 = cc in omega (arith, c)) (requires_role t zero) (h.required zero)
      by_condition (suc j) = elim (cases_eq j (k - 1)) [
        | inl e ↦
            let k_is : k ≡ suc j = omega (arith, c) in
            subst (λ r. Says (holds r) (x ∷ xs) (Required (suc j)))
            (sym (ap (λ m. get_or (set sets (k - 1) new) m []) e
            ∙ get_or-set_same sets (k - 1) new [] there))
            (subst (λ m. Says (holds new) (x ∷ xs) (Required m)) k_is here)
        | inr ne ↦ subst (λ r. Says (holds r) (x ∷ xs) (Required (suc j)))
            (sym (get_or-set_other sets (k - 1) j new [] ne))
            (says_still x xs (Required (suc j))
            (λ a b e. let m : k ≡ suc j = cc in ne (omega arith)) (requires_role t (suc j))
            (h.required (suc j)))
      ]
  required_after x z i q =
      says_still x xs (Required q) (λ a b e. cc) (requires_role t q) (h.required q)

  role_users_after : (x : Entry) → is_sizes x ≡ false → in_range t.sizes x ≡ true
      → is_unlimited t.limits x ≡ true
      → SaysLimit (limit_of_users (with_entry t x).limits) (x ∷ xs) LimitOfRoleUsers
  role_users_after (Sizes u r n) z i o = cc
  role_users_after (LimitOfRoleUsers r n) z i o =
      let a = ltb-true r t.sizes.roles i in
      let b = w.roles_sized.1 in
      let long = l.4 in
      limit_more t.limits.users r n xs LimitOfRoleUsers (λ x y e. (cc, cc)) (omega arith)
      (unset (limit_of_users t.limits r) o) h.role_users
  role_users_after x z i o =
      limit_still x xs LimitOfRoleUsers (λ a b e. cc) (limit_of_users t.limits) h.role_users

  user_roles_after : (x : Entry) → is_sizes x ≡ false → in_range t.sizes x ≡ true
      → is_unlimited t.limits x ≡ true
      → SaysLimit (limit_of_roles (with_entry t x).limits) (x ∷ xs) LimitOfUserRoles
  user_roles_after (Sizes u r n) z i o = cc
  user_roles_after (LimitOfUserRoles u n) z i o =
      let a = ltb-true u t.sizes.users i in
      let b = w.users_sized.1 in
      let long = l.5 in
      limit_more t.limits.roles u n xs LimitOfUserRoles (λ x y e. (cc, cc)) (omega arith)
      (unset (limit_of_roles t.limits u) o) h.user_roles
  user_roles_after x z i o =
      limit_still x xs LimitOfUserRoles (λ a b e. cc) (limit_of_roles t.limits) h.user_roles

  user_active_after : (x : Entry) → is_sizes x ≡ false → in_range t.sizes x ≡ true
      → is_unlimited t.limits x ≡ true
      → SaysLimit (limit_of_active (with_entry t x).limits) (x ∷ xs) LimitOfUserActive
  user_active_after (Sizes u r n) z i o = cc
  user_active_after (LimitOfUserActive u n) z i o =
      let a = ltb-true u t.sizes.users i in
      let b = w.users_sized.1 in
      let long = l.6 in
      limit_more t.limits.active u n xs LimitOfUserActive (λ x y e. (cc, cc)) (omega arith)
      (unset (limit_of_active t.limits u) o) h.user_active
  user_active_after x z i o =
      limit_still x xs LimitOfUserActive (λ a b e. cc) (limit_of_active t.limits) h.user_active

  role_sessions_after : (x : Entry) → is_sizes x ≡ false → in_range t.sizes x ≡ true
      → is_unlimited t.limits x ≡ true
      → SaysLimit (limit_of_sessions (with_entry t x).limits) (x ∷ xs) LimitOfRoleSessions
  role_sessions_after (Sizes u r n) z i o = cc
  role_sessions_after (LimitOfRoleSessions r n) z i o =
      let a = ltb-true r t.sizes.roles i in
      let b = w.roles_sized.1 in
      let long = l.7 in
      limit_more t.limits.sessions r n xs LimitOfRoleSessions (λ x y e. (cc, cc)) (omega arith)
      (unset (limit_of_sessions t.limits r) o) h.role_sessions
  role_sessions_after x z i o =
      limit_still x xs LimitOfRoleSessions (λ a b e. cc) (limit_of_sessions t.limits)
      h.role_sessions

  pub tables_say_after : (x : Entry) → is_sizes x ≡ false → in_range t.sizes x ≡ true
      → is_unlimited t.limits x ≡ true → TablesSay (x ∷ xs) (with_entry t x)
  tables_say_after x z i o = record {
    juniors = juniors_after x z i;
    statics = statics_after x z i;
    dynamics = dynamics_after x z i;
    users = users_after x z i;
    assignments = assignments_after x z i;
    role_users = role_users_after x z i o;
    user_roles = user_roles_after x z i o;
    user_active = user_active_after x z i o;
    role_sessions = role_sessions_after x z i o;
    required = required_after x z i;
    needs = needs_after x z i;
  }

-- the tables with nothing in them, and the sizes record alone

no_users_pair : (s : Counts) (r u v : ℕ)
    → (users_pair (only s) r u v ≡ false) × (assignment_pair (only s) r u v ≡ false)
unfolding only
no_users_pair s r u v =
    let none = replicate_each (λ row. holds row u v ≡ false) 32 (replicate 64 no_users) []
    (no_member 64 u v) (no_member 0 u v) r in (none, none)

none_required : (s : Counts) (k a b : ℕ) → requires_role (only s) k a b ≡ false
unfolding only
none_required s zero a b = refl
none_required s (suc k) a b =
    replicate_each (λ row. holds row a b ≡ false) 6 (replicate 32 no_roles) []
    (no_member 32 a b) (no_member 0 a b) k

abbrev no_limit : Option ℕ
no_limit = None

no_limit_at : (n s : ℕ) → get_or (replicate n no_limit) s no_limit ≡ no_limit
no_limit_at n s = replicate_each (λ (o : Option ℕ). o ≡ no_limit) n no_limit no_limit refl refl s

pub tables_say_nothing : (s : Counts) → TablesSay [] (only s)
unfolding only
tables_say_nothing s = record {
  juniors = says_nothing (inherits (only s)) Inherits (no_member 32);
  statics = either_nothing (ssd_pair (only s)) StaticPair (no_member 32);
  dynamics = either_nothing (dsd_pair (only s)) DynamicPair (no_member 32);
  users = λ r. either_nothing (users_pair (only s) r) (ConflictingUsers r)
      (λ u v. (no_users_pair s r u v).0);
  assignments = λ r. either_nothing (assignment_pair (only s) r) (AssignmentConflict r)
      (λ u v. (no_users_pair s r u v).1);
  role_users = limit_nothing (limit_of_users (only s).limits) LimitOfRoleUsers (no_limit_at 32);
  user_roles = limit_nothing (limit_of_roles (only s).limits) LimitOfUserRoles (no_limit_at 64);
  user_active = limit_nothing (limit_of_active (only s).limits) LimitOfUserActive (no_limit_at 64);
  role_sessions =
      limit_nothing (limit_of_sessions (only s).limits) LimitOfRoleSessions (no_limit_at 32);
  required = λ k. says_nothing (requires_role (only s) k) (Required k) (none_required s k);
  needs = says_nothing (depends (only s)) Dependency (no_member 32);
}

pub tables_say_sizes : (u r n : ℕ)
    → TablesSay (Sizes u r n ∷ []) (only (record { users = u; roles = r; sessions = n }))
tables_say_sizes u r n =
    let s : Counts = record { users = u; roles = r; sessions = n } in
    let x : Entry = Sizes u r n in
    let t : Tables = only s in
    let h = tables_say_nothing s in record {
      juniors = says_still x [] Inherits (λ a b e. cc) (inherits t) h.juniors;
      statics = either_still x [] StaticPair (λ a b e. cc) (ssd_pair t) h.statics;
      dynamics = either_still x [] DynamicPair (λ a b e. cc) (dsd_pair t) h.dynamics;
      users = λ q.
          either_still x [] (ConflictingUsers q) (λ a b e. cc) (users_pair t q) (h.users q);
      assignments = λ q. either_still x [] (AssignmentConflict q) (λ a b e. cc)
          (assignment_pair t q) (h.assignments q);
      role_users =
          limit_still x [] LimitOfRoleUsers (λ a b e. cc) (limit_of_users t.limits) h.role_users;
      user_roles =
          limit_still x [] LimitOfUserRoles (λ a b e. cc) (limit_of_roles t.limits) h.user_roles;
      user_active =
          limit_still x [] LimitOfUserActive (λ a b e. cc) (limit_of_active t.limits) h.user_active;
      role_sessions =
          limit_still x [] LimitOfRoleSessions (λ a b e. cc) (limit_of_sessions t.limits)
          h.role_sessions;
      required = λ k. says_still x [] (Required k) (λ a b e. cc) (requires_role t k) (h.required k);
      needs = says_still x [] Dependency (λ a b e. cc) (depends t) h.needs;
    }

-- the tables keep their lengths

pub long_only : (s : Counts) → Long (only s)
unfolding only
long_only s = (
  length-replicate 32 no_roles,
  length-replicate 32 no_roles,
  length-replicate 6 (replicate 32 no_roles),
  (λ i l. ap length (get_or-replicate 6 i (replicate 32 no_roles) [] l)
      ∙ length-replicate 32 no_roles),
  length-replicate 32 no_limit,
  length-replicate 64 no_limit,
  length-replicate 64 no_limit,
  length-replicate 32 no_limit,
)

pub long_after : (t : Tables) (x : Entry) → Long t → Long (with_entry t x)
long_after t (Sizes u r n) l = long_only (record { users = u; roles = r; sessions = n })
long_after t (Inherits a b) l =
    let h = l.0 in (simp length-set h, l.1, l.2, l.3, l.4, l.5, l.6, l.7)
long_after t (Dependency a b) l =
    let h = l.1 in (l.0, simp length-set h, l.2, l.3, l.4, l.5, l.6, l.7)
long_after t (Required k a b) l =
    let h = l.2 in
    let sets : List (List RoleSet) = t.requirements.sets in
    let row : List RoleSet = get_or sets (k - 1) [] in (
      l.0,
      l.1,
      simp length-set h,
      set_each (λ i each. i < 6 → length each ≡ 32) sets (k - 1) (with_role row a b) [] l.3
          (λ low. let old = l.3 (k - 1) low in simp length-set old),
      l.4,
      l.5,
      l.6,
      l.7,
    )
long_after t (LimitOfRoleUsers r n) l =
    let h = l.4 in (l.0, l.1, l.2, l.3, simp length-set h, l.5, l.6, l.7)
long_after t (LimitOfUserRoles u n) l =
    let h = l.5 in (l.0, l.1, l.2, l.3, l.4, simp length-set h, l.6, l.7)
long_after t (LimitOfUserActive u n) l =
    let h = l.6 in (l.0, l.1, l.2, l.3, l.4, l.5, simp length-set h, l.7)
long_after t (LimitOfRoleSessions r n) l =
    let h = l.7 in (l.0, l.1, l.2, l.3, l.4, l.5, l.6, simp length-set h)
long_after t x l = l
