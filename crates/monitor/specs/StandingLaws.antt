-- The computed sets and counts say what stands for users and in sessions. It proves, for the crates
-- above, and assumes nothing.
use Rattle.std.proofs.Common.{◌≡◌, ℕ, zero, suc, ◌+◌, ◌≤◌, Bool, true, false, ◌&&◌, ◌||◌, eqb, ◌↔◌, List, [], ◌∷◌, get_or, take, sym, refl, ap, ◌∙◌, inl, inr, arith}
use mathlib.Core.Path.{fun_ext}
use Rattle.std.proofs.lemmas.Bool.{and_right, both_ways, cases_Bool, cond-true, cond-false, or_cases, or_left, or_right}
use Rattle.std.proofs.lemmas.List.Sums.{sum_by-cons}
use Rattle.sets.specs.Aliases.{RoleSet}
use Rattle.sets.specs.Sets.{has, union, count_below}
use Rattle.sets.specs.SetLaws.{has-zero, has-union}
use Rattle.sets.specs.CountLaws.{count_start, count_none}
use Rattle.policy.specs.declared.tables.Tables.{Tables}
use Rattle.policy.specs.Entries.{holds}
use Rattle.monitor.specs.declared.sessions.Session.{Session}
use Rattle.monitor.specs.declared.sessions.Session.TheVariants.{Closed, Open}
use Rattle.monitor.specs.declared.sessions.Whose.{Whose}
use Rattle.monitor.specs.declared.sessions.Whose.TheVariants.{Anyone, User}
use Rattle.monitor.specs.declared.states.Cells.{Cells}
use Rattle.monitor.specs.Authority.{Fits}
use Rattle.monitor.specs.AuthorityLaws.{unused}
use Rattle.monitor.specs.Cells.{assigned_in, is_active, is_active_for, session_at, seats, using}
use Rattle.monitor.specs.SessionLaws.{active-counted, active_found, meant_is_owner, owner_is_meant, seats_in-take, using-take}
use Rattle.monitor.specs.Sessions.{active, owner, is_meant, active_where, active_in, seats_where, seats_in, sessions_using, tally}
use Rattle.monitor.specs.Standing.{AssignedToAny, ActiveFor, ActiveForAny, is_seat, pairs_below}

-- assigned to some user

pub some-assigned_in : (rows : List RoleSet) (u r : ℕ) → holds rows u r ≡ true
    → has (assigned_in rows) r ≡ true
some-assigned_in [] u r h = absurd (both_ways (has 0 r) (has-zero r) h)
some-assigned_in (x ∷ xs) zero r h =
    has-union x.bits (assigned_in xs) r ∙ or_left (has x.bits r) _ h
some-assigned_in (x ∷ xs) (suc u) r h =
    has-union x.bits (assigned_in xs) r
    ∙ or_right (has x.bits r) _ (some-assigned_in xs u r h)

pub assigned_in-some : (rows : List RoleSet) (r : ℕ) → has (assigned_in rows) r ≡ true
    → (u : ℕ) × (holds rows u r ≡ true)
assigned_in-some [] r h = absurd (both_ways (has 0 r) (has-zero r) h)
assigned_in-some (x ∷ xs) r h =
    elim (or_cases (has x.bits r) _ (sym (has-union x.bits (assigned_in xs) r) ∙ h)) [
      | inl p ↦ (zero, p)
      | inr p ↦ let f = assigned_in-some xs r p in (suc f.0, f.1)
    ]

module _ (c : Cells) where
  pub told_assigned : (r : ℕ) → (has (assigned_in c.assigned) r ≡ true) ↔ AssignedToAny c r
  told_assigned r =
      (assigned_in-some c.assigned r, λ (u, h). some-assigned_in c.assigned u r h)

  pub told_active_for : (u r : ℕ) → (is_active_for c (User u) r ≡ true) ↔ ActiveFor c u r
  told_active_for u r = (
    λ h. let f = active_found (User u) c.sessions r h in
        (f.0, sym (meant_is_owner u (session_at c f.0) f.2), f.3),
    λ (s, o, h). active-counted (User u) c.sessions s r
        (ap (λ v. is_meant (User v) (session_at c s)) (sym o) ∙ owner_is_meant (session_at c s) r h)
        h,
  )

  pub told_active : (r : ℕ) → (is_active_for c Anyone r ≡ true) ↔ ActiveForAny c r
  told_active r = (
    λ h. let f = active_found Anyone c.sessions r h in (f.0, f.3),
    λ (s, h). active-counted Anyone c.sessions s r refl h,
  )

-- how many sessions of a list have the role active

count_front : (n : ℕ) (f : ℕ → Bool)
    → count_below (suc n) f ≡ tally (f zero) + count_below n (λ k. f (suc k))
unfolding count_below
count_front zero f = refl
count_front (suc n) f = let ih = count_front n f in omega arith

counted : (n : ℕ) (xs : List Session) (r : ℕ)
    → sessions_using (take n xs) r ≡ count_below n (λ s. has (active (get_or xs s Closed)) r)
counted zero xs r = sym (count_start (λ s. has (active (get_or xs s Closed)) r))
counted (suc n) [] r =
    sym (count_none (suc n) (λ s. has (active (get_or [] s Closed)) r) (λ i l. has-zero r))
counted (suc n) (x ∷ xs) r =
    ap (λ k. tally (has (active x) r) + k) (counted n xs r)
    ∙ sym (count_front n (λ s. has (active (get_or (x ∷ xs) s Closed)) r))

using_some : (xs : List Session) (r : ℕ) → 1 ≤ sessions_using xs r
    → (s : ℕ) × (has (active (get_or xs s Closed)) r ≡ true)
using_some [] r l = absurd (omega arith)
using_some (x ∷ xs) r l = elim (cases_Bool (has (active x) r)) [
  | inl h ↦ (zero, h)
  | inr h ↦
      let e : tally (has (active x) r) ≡ 0 = ap tally h in
      let f = using_some xs r (omega arith) in
      (suc f.0, f.1)
]

some_using : (xs : List Session) (s r : ℕ) → has (active (get_or xs s Closed)) r ≡ true
    → 1 ≤ sessions_using xs r
some_using [] s r h = absurd (both_ways (has 0 r) (has-zero r) h)
some_using (x ∷ xs) zero r h =
    let e : tally (has (active x) r) ≡ 1 = ap tally h in omega arith
some_using (x ∷ xs) (suc s) r h = let ih = some_using xs s r h in omega arith

pub told_using : (t : Tables) (c : Cells) → Fits t c → (r : ℕ)
    → using c r ≡ count_below t.sizes.sessions (λ s. is_active c s r)
told_using t c fits r =
    sym (using-take t.sizes.sessions c.sessions r (unused t c fits))
    ∙ counted t.sizes.sessions c.sessions r

pub told_some : (c : Cells) (r : ℕ) → (1 ≤ using c r) ↔ ActiveForAny c r
told_some c r = (using_some c.sessions r, λ (s, h). some_using c.sessions s r h)

-- how many pairs of a session and a role are a user's seats

seat_has : (u : ℕ) (x : Session) (r : ℕ)
    → has (active_where (User u) x) r ≡ (eqb (owner x) u && has (active x) r)
seat_has u Closed r = has-zero r ∙ sym (and_right (eqb 0 u) (has 0 r) (has-zero r))
seat_has u (Open o a) r = elim (cases_Bool (eqb o u)) [
  | inl h ↦
      ap (λ n. has n r) (cond-true (eqb o u) a.bits 0 h) ∙ sym (ap (λ b. b && has a.bits r) h)
  | inr h ↦
      ap (λ n. has n r) (cond-false (eqb o u) a.bits 0 h) ∙ has-zero r
      ∙ sym (ap (λ b. b && has a.bits r) h)
]

pairs_front : (m n : ℕ) (f : ℕ → ℕ → Bool)
    → pairs_below (suc m) n f ≡ count_below n (f zero) + pairs_below m n (λ k. f (suc k))
unfolding pairs_below
pairs_front zero n f = refl
pairs_front (suc m) n f = let ih = pairs_front m n f in omega arith

abbrev is_seat_in : List Session → ℕ → ℕ → ℕ → Bool
is_seat_in xs u s r = eqb (owner (get_or xs s Closed)) u && has (active (get_or xs s Closed)) r

none_paired : (n u : ℕ) → pairs_below n 32 (is_seat_in [] u) ≡ 0
unfolding pairs_below
none_paired zero u = refl
none_paired (suc n) u =
    let none : count_below 32 (is_seat_in [] u n) ≡ 0 =
    count_none 32 _ (λ r l. sym (seat_has u Closed r) ∙ has-zero r) in
    let rest = none_paired n u in
    omega arith

paired : (n : ℕ) (xs : List Session) (u : ℕ)
    → seats_in (User u) (take n xs) ≡ pairs_below n 32 (is_seat_in xs u)
unfolding pairs_below
paired zero xs u = refl
paired (suc n) [] u = sym (none_paired (suc n) u)
paired (suc n) (x ∷ xs) u =
    let here : seats_where (User u) x ≡ count_below 32 (is_seat_in (x ∷ xs) u zero) =
    ap (count_below 32) (fun_ext (seat_has u x)) in
    let rest = paired n xs u in
    omega (
      arith,
      sum_by-cons (seats_where (User u)) x (take n xs),
      pairs_front n 32 (is_seat_in (x ∷ xs) u),
    )

pub told_seats : (t : Tables) (c : Cells) → Fits t c → (u : ℕ)
    → seats c u ≡ pairs_below t.sizes.sessions 32 (is_seat c u)
told_seats t c fits u =
    sym (seats_in-take (User u) t.sizes.sessions c.sessions (unused t c fits))
    ∙ paired t.sizes.sessions c.sessions u

-- there are no more different roles than seats

count_either : (k a b : ℕ)
    → count_below k (has (union a b)) ≤ count_below k (has a) + count_below k (has b)
unfolding count_below
count_either zero a b = omega arith
count_either (suc k) a b =
    let rest = count_either k a b in
    let both = ap tally (has-union a b k) in
    let here = either (has a k) (has b k) in
    omega arith
  where
    either : (x y : Bool) → tally (x || y) ≤ tally x + tally y
    either true y = omega arith
    either false y = omega arith

different_in : (w : Whose) (xs : List Session)
    → count_below 32 (has (active_in w xs)) ≤ seats_in w xs
different_in w [] = let none = count_none 32 (has 0) (λ r l. has-zero r) in omega arith
different_in w (x ∷ xs) =
    let rest = different_in w xs in
    omega (
      arith,
      count_either 32 (active_where w x) (active_in w xs),
      sum_by-cons (seats_where w) x xs,
    )

pub told_different : (c : Cells) (u : ℕ) → count_below 32 (is_active_for c (User u)) ≤ seats c u
told_different c u = different_in (User u) c.sessions
