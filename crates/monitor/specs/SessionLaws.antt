-- What is active in a list of sessions, one session more or another in the place of one. It proves,
-- for the crates above, and assumes nothing.
use Rattle.std.proofs.Common.{◌≡◌, ℕ, zero, suc, ◌+◌, ◌-◌, ◌*◌, ◌<◌, ◌≤◌, true, false, ◌⊎◌, List, [], ◌∷◌, ◌++◌, length, get_or, take, drop, set, sym, refl, ap, ◌∙◌, inl, inr, arith}
use Rattle.std.proofs.lemmas.List.{get_or-set_same, get_or-set_other, set_past, set_split, take_all, length-drop}
use Rattle.std.proofs.lemmas.List.Sums.{sum_by-cons, sum_by-le, sum_by-set, get_or-le-sum_by}
use Rattle.std.proofs.lemmas.Bool.{both_ways, eqb-true, eq-eqb, cases_Bool, cases_eq, cases_lt, cond-true, cond-false, or_cases, or_left, or_right}
use Rattle.sets.specs.CountLaws.{count_most, count_none}
use Rattle.sets.specs.SetLaws.{has-zero, has-union}
use Rattle.sets.specs.Sets.{has, union}
use Rattle.monitor.specs.declared.sessions.Session.{Session}
use Rattle.monitor.specs.declared.sessions.Session.TheVariants.{Closed, Open}
use Rattle.monitor.specs.declared.sessions.Whose.{Whose}
use Rattle.monitor.specs.declared.sessions.Whose.TheVariants.{User}
use Rattle.monitor.specs.FoldLaws.{none_with, union_assoc}
use Rattle.monitor.specs.Sessions.{active, owner, is_meant, active_where, seats_where, active_in, seats_in, sessions_using, tally}

-- a role active in a session that counts is among those active
pub active-counted : (w : Whose) (xs : List Session) (s r : ℕ)
    → is_meant w (get_or xs s Closed) ≡ true → has (active (get_or xs s Closed)) r ≡ true
    → has (active_in w xs) r ≡ true
active-counted w [] s r k h = absurd (both_ways (has 0 r) (has-zero r) h)
active-counted w (x ∷ xs) zero r k h =
    has-union (active_where w x) (active_in w xs) r
    ∙ or_left (has (active_where w x) r) _
    (ap (λ (n : ℕ). has n r) (cond-true (is_meant w x) (active x) 0 k) ∙ h)
active-counted w (x ∷ xs) (suc s) r k h =
    has-union (active_where w x) (active_in w xs) r
    ∙ or_right (has (active_where w x) r) _ (active-counted w xs s r k h)

-- and each of those is active in such a session
pub active_found : (w : Whose) (xs : List Session) (r : ℕ) → has (active_in w xs) r ≡ true
    → (s : ℕ) × (s < length xs) × (is_meant w (get_or xs s Closed) ≡ true)
    × (has (active (get_or xs s Closed)) r ≡ true)
active_found w [] r h = absurd (both_ways (has 0 r) (has-zero r) h)
active_found w (x ∷ xs) r h =
    elim (or_cases (has (active_where w x) r) _
    (sym (has-union (active_where w x) (active_in w xs) r) ∙ h)) [
      | inl q ↦ elim (cases_Bool (is_meant w x)) [
        | inl k ↦ (
          zero,
          omega arith,
          k,
          sym (ap (λ (n : ℕ). has n r) (cond-true (is_meant w x) (active x) 0 k)) ∙ q,
        )
        | inr k ↦
            absurd (both_ways (has 0 r) (has-zero r)
            (sym (ap (λ (n : ℕ). has n r) (cond-false (is_meant w x) (active x) 0 k)) ∙ q))
      ]
      | inr q ↦ let f = active_found w xs r q in (suc f.0, omega (arith, f.1), f.2, f.3)
    ]

-- no session has the role active
pub using_none : (xs : List Session) (r : ℕ)
    → ((s : ℕ) → has (active (get_or xs s Closed)) r ≡ false) → sessions_using xs r ≡ 0
using_none [] r h = refl
using_none (x ∷ xs) r h =
    let ih = using_none xs r (λ s. h (suc s)) in
    let here : tally (has (active x) r) ≡ 0 = ap tally (h zero) in
    omega arith

-- another session in the place of one

pub using_set : (xs : List Session) (s r : ℕ) (x : Session) → s < length xs
    → sessions_using (set xs s x) r + tally (has (active (get_or xs s Closed)) r)
    ≡ sessions_using xs r + tally (has (active x) r)
using_set [] s r x l = absurd (omega arith)
using_set (y ∷ xs) zero r x l = omega arith
using_set (y ∷ xs) (suc s) r x l = let ih = using_set xs s r x (omega arith) in omega arith

-- what is active then was active before, or in the session that was put
pub active-set : (w : Whose) (xs : List Session) (s k : ℕ) (x : Session)
    → has (active_in w (set xs s x)) k ≡ true
    → (has (active_in w xs) k ≡ true) ⊎ ((is_meant w x ≡ true) × (has (active x) k ≡ true))
active-set w xs s k x h =
    let f = active_found w (set xs s x) k h in
    go f.0 f.2 f.3 (cases_eq f.0 s) (cases_lt s (length xs))
  where
    go : (i : ℕ) → is_meant w (get_or (set xs s x) i Closed) ≡ true
        → has (active (get_or (set xs s x) i Closed)) k ≡ true → (i ≡ s) ⊎ (i ≡ s → ⊥)
        → (s < length xs) ⊎ (length xs ≤ s)
        → (has (active_in w xs) k ≡ true) ⊎ ((is_meant w x ≡ true) × (has (active x) k ≡ true))
    go i a b (inr ne) l =
        let e = get_or-set_other xs s i x Closed ne in
        inl (active-counted w xs i k (ap (is_meant w) (sym e) ∙ a)
        (ap (λ y. has (active y) k) (sym e) ∙ b))
    go i a b (inl e) (inl l) =
        let p = ap (λ j. get_or (set xs s x) j Closed) e ∙ get_or-set_same xs s x Closed l in
        inr (ap (is_meant w) (sym p) ∙ a, ap (λ y. has (active y) k) (sym p) ∙ b)
    go i a b (inl e) (inr l) =
        let p = ap (λ ys. get_or ys i Closed) (set_past xs s x l) in
        inl (active-counted w xs i k (ap (is_meant w) (sym p) ∙ a)
        (ap (λ y. has (active y) k) (sym p) ∙ b))

-- what was active stays active, where the session that was put keeps its part of it
pub active_stays : (w : Whose) (xs : List Session) (s k : ℕ) (x : Session)
    → (is_meant w (get_or xs s Closed) ≡ true → has (active (get_or xs s Closed)) k ≡ true
    → (is_meant w x ≡ true) × (has (active x) k ≡ true))
    → has (active_in w xs) k ≡ true → has (active_in w (set xs s x)) k ≡ true
active_stays w xs s k x keeps h =
    let f = active_found w xs k h in go f.0 f.1 f.2 f.3 (cases_eq f.0 s)
  where
    go : (i : ℕ) → i < length xs → is_meant w (get_or xs i Closed) ≡ true
        → has (active (get_or xs i Closed)) k ≡ true → (i ≡ s) ⊎ (i ≡ s → ⊥)
        → has (active_in w (set xs s x)) k ≡ true
    go i l a b (inr ne) =
        let e = get_or-set_other xs s i x Closed ne in
        active-counted w (set xs s x) i k (ap (is_meant w) e ∙ a) (ap (λ y. has (active y) k) e ∙ b)
    go i l a b (inl e) =
        let p = ap (λ j. get_or (set xs s x) j Closed) e
        ∙ get_or-set_same xs s x Closed (omega arith) in
        let q = keeps (ap (λ j. is_meant w (get_or xs j Closed)) (sym e) ∙ a)
        (ap (λ j. has (active (get_or xs j Closed)) k) (sym e) ∙ b) in
        active-counted w (set xs s x) i k (ap (is_meant w) p ∙ q.0)
        (ap (λ y. has (active y) k) p ∙ q.1)

-- the session that was put is active as it stands
pub active_put : (w : Whose) (xs : List Session) (s k : ℕ) (x : Session) → s < length xs
    → is_meant w x ≡ true → has (active x) k ≡ true
    → has (active_in w (set xs s x)) k ≡ true
active_put w xs s k x l a b =
    let p = get_or-set_same xs s x Closed l in
    active-counted w (set xs s x) s k (ap (is_meant w) p ∙ a) (ap (λ y. has (active y) k) p ∙ b)

-- one list of sessions after another

active_in-append : (w : Whose) (xs ys : List Session)
    → active_in w (xs ++ ys) ≡ union (active_in w xs) (active_in w ys)
active_in-append w [] ys = sym (none_with (active_in w ys))
active_in-append w (x ∷ xs) ys =
    ap (union (active_where w x)) (active_in-append w xs ys)
    ∙ sym (union_assoc (active_where w x) (active_in w xs) (active_in w ys))

pub active_in-set : (w : Whose) (xs : List Session) (s : ℕ) (x : Session) → s < length xs
    → active_in w (set xs s x)
    ≡ union (union (active_in w (take s xs)) (active_where w x)) (active_in w (drop (suc s) xs))
active_in-set w xs s x l =
    ap (active_in w) (set_split xs s x l) ∙ active_in-append w (take s xs) (x ∷ drop (suc s) xs)
    ∙ sym (union_assoc (active_in w (take s xs)) (active_where w x) (active_in w (drop (suc s) xs)))

using-append : (xs ys : List Session) (r : ℕ)
    → sessions_using (xs ++ ys) r ≡ sessions_using xs r + sessions_using ys r
using-append [] ys r = omega arith
using-append (x ∷ xs) ys r = let ih = using-append xs ys r in omega arith

pub using-set : (xs : List Session) (s r : ℕ) (x : Session) → s < length xs
    → sessions_using (set xs s x) r
    ≡ sessions_using (take s xs) r + tally (has (active x) r) + sessions_using (drop (suc s) xs) r
using-set xs s r x l =
    let parts = ap (λ ys. sessions_using ys r) (set_split xs s x l)
    ∙ using-append (take s xs) (x ∷ drop (suc s) xs) r in
    omega arith

-- the owner of a session

pub owner_is_meant : (x : Session) (r : ℕ) → has (active x) r ≡ true
    → is_meant (User (owner x)) x ≡ true
owner_is_meant Closed r h = absurd (both_ways (has 0 r) (has-zero r) h)
owner_is_meant (Open u a) r h = eq-eqb u u refl

pub meant_is_owner : (u : ℕ) (x : Session) → is_meant (User u) x ≡ true → u ≡ owner x
meant_is_owner u Closed h = absurd (both_ways false refl h)
meant_is_owner u (Open v a) h = sym (eqb-true v u h)

-- what is active in a session that is meant
pub where_parts : (w : Whose) (x : Session) (r : ℕ) → has (active_where w x) r ≡ true
    → (is_meant w x ≡ true) × (has (active x) r ≡ true)
where_parts w x r h = elim (cases_Bool (is_meant w x)) [
  | inl k ↦ (k, sym (ap (λ (n : ℕ). has n r) (cond-true (is_meant w x) (active x) 0 k)) ∙ h)
  | inr k ↦
      absurd (both_ways (has 0 r) (has-zero r)
      (sym (ap (λ (n : ℕ). has n r) (cond-false (is_meant w x) (active x) 0 k)) ∙ h))
]

pub where_from : (w : Whose) (x : Session) (r : ℕ) → is_meant w x ≡ true → has (active x) r ≡ true
    → has (active_where w x) r ≡ true
where_from w x r k h = ap (λ (n : ℕ). has n r) (cond-true (is_meant w x) (active x) 0 k) ∙ h

-- the rest of a list from a place on, as a slice of it is seen
pub rest_from : {A : Type 0} (n : ℕ) (xs : List A) → take (length xs - n) (drop n xs) ≡ drop n xs
rest_from n xs = take_all (length xs - n) (drop n xs) (omega (arith, length-drop n xs))

-- of sessions of which none is active from a place on, those before it tell all

none_where : (w : Whose) (x : Session) → active x ≡ 0 → active_where w x ≡ 0
none_where w x e = elim (cases_Bool (is_meant w x)) [
  | inl k ↦ cond-true (is_meant w x) (active x) 0 k ∙ e
  | inr k ↦ cond-false (is_meant w x) (active x) 0 k
]

none_active_in : (w : Whose) (xs : List Session)
    → ((s : ℕ) → active (get_or xs s Closed) ≡ 0) → active_in w xs ≡ 0
none_active_in w [] h = refl
none_active_in w (x ∷ xs) h =
    ap (λ n. union n (active_in w xs)) (none_where w x (h zero)) ∙ none_with (active_in w xs)
    ∙ none_active_in w xs (λ s. h (suc s))

pub active_in-take : (w : Whose) (n : ℕ) (xs : List Session)
    → ((s : ℕ) → n ≤ s → active (get_or xs s Closed) ≡ 0) → active_in w (take n xs) ≡ active_in w xs
active_in-take w zero xs h = sym (none_active_in w xs (λ s. h s (omega arith)))
active_in-take w (suc n) [] h = refl
active_in-take w (suc n) (x ∷ xs) h =
    ap (union (active_where w x)) (active_in-take w n xs (λ s l. h (suc s) (omega arith)))

pub using-take : (n : ℕ) (xs : List Session) (r : ℕ)
    → ((s : ℕ) → n ≤ s → active (get_or xs s Closed) ≡ 0)
    → sessions_using (take n xs) r ≡ sessions_using xs r
using-take zero xs r h =
    sym (using_none xs r (λ s. ap (λ k. has k r) (h s (omega arith)) ∙ has-zero r))
using-take (suc n) [] r h = refl
using-take (suc n) (x ∷ xs) r h =
    ap (λ k. tally (has (active x) r) + k) (using-take n xs r (λ s l. h (suc s) (omega arith)))

-- the seats in a list of sessions

pub seats_most : (w : Whose) (x : Session) → seats_where w x ≤ 32
seats_most w x = count_most 32 (has (active_where w x))

pub seats_in_most : (w : Whose) (xs : List Session) → seats_in w xs ≤ length xs * 32
seats_in_most w xs = sum_by-le (seats_where w) 32 xs (λ k d l. seats_most w (get_or xs k d))

pub seats_in_each : (w : Whose) (xs : List Session) (s : ℕ) → s < length xs
    → seats_where w (get_or xs s Closed) ≤ seats_in w xs
seats_in_each w xs s l = get_or-le-sum_by (seats_where w) xs s Closed l

pub seats_in_set : (w : Whose) (xs : List Session) (s : ℕ) (x : Session) → s < length xs
    → seats_in w (set xs s x) + seats_where w (get_or xs s Closed)
    ≡ seats_in w xs + seats_where w x
seats_in_set w xs s x l = sum_by-set (seats_where w) xs s x Closed l

no_seats : (w : Whose) (x : Session) → active x ≡ 0 → seats_where w x ≡ 0
no_seats w x e =
    count_none 32 (has (active_where w x))
    (λ r l. ap (λ n. has n r) (none_where w x e) ∙ has-zero r)

pub seats_in_none : (w : Whose) (xs : List Session)
    → ((s : ℕ) → active (get_or xs s Closed) ≡ 0) → seats_in w xs ≡ 0
seats_in_none w [] h = refl
seats_in_none w (x ∷ xs) h =
    let here = no_seats w x (h zero) in
    let rest = seats_in_none w xs (λ s. h (suc s)) in
    omega (arith, sum_by-cons (seats_where w) x xs)

pub seats_in-take : (w : Whose) (n : ℕ) (xs : List Session)
    → ((s : ℕ) → n ≤ s → active (get_or xs s Closed) ≡ 0) → seats_in w (take n xs) ≡ seats_in w xs
seats_in-take w zero xs h = sym (seats_in_none w xs (λ s. h s (omega arith)))
seats_in-take w (suc n) [] h = refl
seats_in-take w (suc n) (x ∷ xs) h =
    let rest = seats_in-take w n xs (λ s l. h (suc s) (omega arith)) in
    omega (arith, sum_by-cons (seats_where w) x (take n xs), sum_by-cons (seats_where w) x xs)
