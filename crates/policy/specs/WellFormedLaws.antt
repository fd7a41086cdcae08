-- The tables that a draft begins with, and after each entry, are well formed. Assumes nothing.
use Rattle.std.proofs.Common.{◌≡◌, ℕ, ◌<◌, ◌≤◌, Bool, true, false, cond, not, ◌&&◌, eqb, ltb, leb, Ok, Err, Result, refl, subst, arith}
use Rattle.std.proofs.lemmas.Bool.{ltb-true, leb-true, eqb-false, not-true, and_parts}
use Rattle.records.specs.Kinds.{between}
use Rattle.records.specs.declared.entry.Entry.{Entry}
use Rattle.records.specs.declared.entry.Entry.TheVariants.{Sizes, Inherits, StaticPair, DynamicPair, ConflictingUsers, LimitOfRoleUsers, LimitOfUserRoles, LimitOfUserActive, LimitOfRoleSessions, Required, Dependency, End, AssignmentConflict}
use Rattle.records.specs.declared.fault.Fault.{Fault}
use Rattle.records.specs.declared.fault.Fault.TheVariants.{MisplacedSizes, OutOfRange, EqualPair, RepeatedLimit}
use Rattle.policy.specs.declared.tables.Sizes.{Sizes as Counts}
use Rattle.policy.specs.declared.tables.Tables.{Tables}
use Rattle.policy.specs.WellFormed.{Sized, WellFormed}
use Rattle.policy.specs.Updates.{only, bare}
use Rattle.policy.specs.Reading.{same, is_sizes, in_range, has_distinct_pair, is_unlimited, with_entry, after_entry}
use Rattle.policy.specs.PairLaws.{within-no_roles, within-with_role, no_role_pairs, role_pairs-with_pair, no_user_pairs, user_pairs-with_users}

-- numbers of an entry in range
below : (a b n : ℕ) → (ltb a n && ltb b n) ≡ true → (a < n) × (b < n)
below a b n e = let p = and_parts (ltb a n) (ltb b n) e in (ltb-true a n p.0, ltb-true b n p.1)

amid : (low high n : ℕ) → between low high n ≡ true → (low ≤ n) × (n ≤ high)
amid low high n e =
    let p = and_parts (leb low n) (leb n high) e in (leb-true low n p.0, leb-true n high p.1)

pub only_well_formed : (s : Counts) → Sized 64 s.users → Sized 32 s.roles → Sized 64 s.sessions
    → WellFormed (only s)
unfolding only
only_well_formed s users roles sessions =
    search (within-no_roles s.roles, no_role_pairs s.roles, no_user_pairs s)

-- each entry keeps what its own table keeps, and every other table stays
pub with_entry_well_formed : (t : Tables) (e : Entry) → WellFormed t → in_range t.sizes e ≡ true
    → has_distinct_pair e ≡ true
    → WellFormed (with_entry t e)
with_entry_well_formed t (Sizes u r n) w i d =
    let p = and_parts (between 1 64 u) (between 1 32 r && between 1 64 n) i in
    let q = and_parts (between 1 32 r) (between 1 64 n) p.1 in
    only_well_formed (record { users = u; roles = r; sessions = n }) (amid 1 64 u p.0)
    (amid 1 32 r q.0) (amid 1 64 n q.1)
with_entry_well_formed t (Inherits a b) w i d =
    search (within-with_role t.sizes.roles t.hierarchy.juniors a b
    (below a b t.sizes.roles i) w.juniors_within)
with_entry_well_formed t (StaticPair a b) w i d =
    search (role_pairs-with_pair t.sizes.roles t.ssd.partners a b w.roles_sized.1
    (below a b t.sizes.roles i) w.ssd)
with_entry_well_formed t (DynamicPair a b) w i d =
    search (role_pairs-with_pair t.sizes.roles t.dsd.partners a b w.roles_sized.1
    (below a b t.sizes.roles i) w.dsd)
with_entry_well_formed t (ConflictingUsers r u v) w i d =
    let s : Counts = t.sizes in
    let p = and_parts (ltb r s.roles) (ltb u s.users && ltb v s.users) i in
    search (user_pairs-with_users s t.activation_conflicts.partners r u v
    w.roles_sized.1 w.users_sized.1 (ltb-true r s.roles p.0) (below u v s.users p.1)
    (eqb-false u v (not-true (eqb u v) d)) w.activation_conflicts)
with_entry_well_formed t (AssignmentConflict r u v) w i d =
    let s : Counts = t.sizes in
    let p = and_parts (ltb r s.roles) (ltb u s.users && ltb v s.users) i in
    search (user_pairs-with_users s t.assignment_conflicts.partners r u v
    w.roles_sized.1 w.users_sized.1 (ltb-true r s.roles p.0) (below u v s.users p.1)
    (eqb-false u v (not-true (eqb u v) d)) w.assignment_conflicts)
with_entry_well_formed t (LimitOfRoleUsers r n) w i d = search w
with_entry_well_formed t (LimitOfUserRoles u n) w i d = search w
with_entry_well_formed t (LimitOfUserActive u n) w i d = search w
with_entry_well_formed t (LimitOfRoleSessions r n) w i d = search w
with_entry_well_formed t (Required k a b) w i d = search w
with_entry_well_formed t (Dependency a b) w i d =
    search (within-with_role t.sizes.roles t.dependencies.needs a b
    (below a b t.sizes.roles i) w.needs_within)
with_entry_well_formed t End w i d = w

-- the tables after a record, from the answers to its four questions
abbrev answer_to : Bool → Bool → Bool → Bool → ℕ → Tables → Result Tables Fault
answer_to a i d l at t =
    cond (not a) (Err (MisplacedSizes at)) (cond (not i) (Err (OutOfRange at))
    (cond (not d) (Err (EqualPair at)) (cond (not l) (Err (RepeatedLimit at)) (Ok t))))

-- a record that passed the questions keeps the tables well formed
pub after_entry_well_formed : (t u : Tables) (e : Entry) (at : ℕ)
    → WellFormed t → after_entry t e at ≡ Ok u → WellFormed u
after_entry_well_formed t u e at w h =
    go (same (is_sizes e) (eqb at 0)) (in_range t.sizes e) (has_distinct_pair e)
    (is_unlimited t.limits e) refl refl h
  where
    go : (a i d l : Bool) → in_range t.sizes e ≡ i → has_distinct_pair e ≡ d
        → answer_to a i d l at (with_entry t e) ≡ Ok u → WellFormed u
    go true true true true i d q =
        subst WellFormed (let z : with_entry t e ≡ u = cc in z) (with_entry_well_formed t e w i d)
    go true true true false i d q = absurd (let z : ◌≡◌ {A = ℕ} 0 1 = cc in omega arith)
    go true true false l i d q = absurd (let z : ◌≡◌ {A = ℕ} 0 1 = cc in omega arith)
    go true false b l i d q = absurd (let z : ◌≡◌ {A = ℕ} 0 1 = cc in omega arith)
    go false a b l i d q = absurd (let z : ◌≡◌ {A = ℕ} 0 1 = cc in omega arith)

pub bare_well_formed : WellFormed bare
bare_well_formed =
    only_well_formed (record { users = 1; roles = 1; sessions = 1 }) (omega arith, omega arith)
    (omega arith, omega arith) (omega arith, omega arith)
