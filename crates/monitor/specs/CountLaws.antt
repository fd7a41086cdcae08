-- The sessions with a role active after a change, and those that lost it, are those before and
-- those that gained it. It proves, for the crates above, and assumes nothing.
use Rattle.std.proofs.Common.{◌≡◌, ℕ, ◌+◌, ◌<◌, Bool, true, false, not, ◌&&◌, ◌||◌, eqb, ltb, None, sym, refl, ap, ◌∙◌, inl, inr, arith}
use Rattle.std.proofs.lemmas.Bool.{both_ways, cases_Bool, cases_eq, cond-true, eqb-true, eq-eqb, ne_eqb, lt-ltb, not-true}
use Rattle.sets.specs.SetLaws.{has-zero, has-with, has_without_low, has-without_member}
use Rattle.sets.specs.Sets.{has, without_member}
use Rattle.sets.specs.Aliases.{RoleSet}
use Rattle.records.specs.declared.event.Event.{Event}
use Rattle.records.specs.declared.event.Event.TheVariants.{Assign, Deassign, Enable, Disable, Open, Close, Activate, Deactivate}
use Rattle.policy.specs.declared.tables.Tables.{Tables}
use Rattle.policy.specs.AskingLaws.{passed}
use Rattle.policy.specs.Entries.{no_roles}
use Rattle.policy.specs.WellFormed.{WellFormed}
use Rattle.monitor.specs.declared.changes.Change.{Change}
use Rattle.monitor.specs.declared.changes.Change.TheVariants.{Assigned, Enabled, Seated}
use Rattle.monitor.specs.declared.sessions.Session.{Session}
use Rattle.monitor.specs.declared.sessions.Session.TheVariants as session
use Rattle.monitor.specs.declared.sessions.Whose.TheVariants.{User}
use Rattle.monitor.specs.declared.states.Cells.{Cells}
use Rattle.monitor.specs.Authority.{Fits}
use Rattle.monitor.specs.Cells.{session_at, is_enabled, is_authorised, using}
use Rattle.monitor.specs.ChangeLaws.{MayChange, possible_may, both_below, has_still, gained-has, lost-has, low_before}
use Rattle.monitor.specs.Changes.{with_role, without_role, change_of, applied, next, gained, lost, listed}
use Rattle.monitor.specs.Counts.{activates, deactivates, closes}
use Rattle.monitor.specs.Possible.{session_question, Possible}
use Rattle.monitor.specs.SessionLaws.{using_set, owner_is_meant, meant_is_owner, where_parts, where_from}
use Rattle.monitor.specs.Sessions.{active, owner, is_meant, active_where, with_active, tally}

-- of the sessions before and after, and of what is active in each for the owner of the other
swapped : (x y wx wy : Bool) → (wx ≡ true → x ≡ true) → (wy ≡ true → y ≡ true)
    → (x ≡ true → y ≡ true → wx ≡ wy)
    → tally x + tally (y && not wx) ≡ tally y + tally (x && not wy)
swapped true true wx wy f g h = ap (λ (b : Bool). tally true + tally (not b)) (h refl refl)
swapped true false wx true f g h = absurd (both_ways false refl (g refl))
swapped true false wx false f g h = refl
swapped false true true wy f g h = absurd (both_ways false refl (f refl))
swapped false true false wy f g h = refl
swapped false false wx wy f g h = refl

same_tests : (a b : Bool) → (a ≡ true → b ≡ true) → (b ≡ true → a ≡ true) → a ≡ b
same_tests true true f g = refl
same_tests true false f g = absurd (both_ways false refl (f refl))
same_tests false true f g = absurd (both_ways false refl (g refl))
same_tests false false f g = refl

never_both : (b : Bool) → (b && not b) ≡ false
never_both true = refl
never_both false = refl

no_tally : (b : Bool) → b ≡ false → tally b ≡ 0
no_tally b e = ap tally e

plus_zero : (n : ℕ) → n ≡ n + 0
plus_zero n = omega arith

-- a role put where it was not, and one taken from where it was
put_in : (before own : Bool) → (own ≡ true → before ≡ false) → ((before || own) && not before) ≡ own
put_in true true f = absurd (both_ways true (f refl) refl)
put_in true false f = refl
put_in false true f = refl
put_in false false f = refl

taken_out : (before own : Bool) → (own ≡ true → before ≡ true)
    → (before && not (before && not own)) ≡ own
taken_out true true f = refl
taken_out true false f = refl
taken_out false true f = absurd (both_ways false refl (f refl))
taken_out false false f = refl

-- the role of that number, as the sets have it
own_bit : (q r : ℕ) → r < 32 → (eqb q r && ltb q 32) ≡ eqb q r
own_bit q r l = elim (cases_eq q r) [
  | inl e ↦ ap (λ b. eqb q r && b) (lt-ltb q 32 (omega arith)) ∙ and_true (eqb q r)
  | inr ne ↦ ap (λ b. b && ltb q 32) (ne_eqb q r ne) ∙ sym (ne_eqb q r ne)
]
  where
    and_true : (b : Bool) → (b && true) ≡ b
    and_true true = refl
    and_true false = refl

-- less an other role, of a set whose members lie below 32
without-has : (a q r : ℕ) → (has a q ≡ true → q < 32)
    → has (without_member 32 a r) q ≡ (has a q && not (eqb q r))
without-has a q r low = elim (cases_Bool (has a q)) [
  | inl h ↦ has_without_low 32 a r q (low h)
  | inr h ↦ elim (cases_Bool (has (without_member 32 a r) q)) [
    | inl k ↦ absurd (both_ways (has a q) h (has-without_member 32 a r q k))
    | inr k ↦ k ∙ sym (ap (λ b. b && not (eqb q r)) h)
  ]
]

-- what is active in an open session for its owner
own_where : (o : ℕ) (a : RoleSet) (q : ℕ)
    → has (active_where (User o) (session.Open o a)) q ≡ has a.bits q
own_where o a q = ap (λ (n : ℕ). has n q) (cond-true (eqb o o) a.bits 0 (eq-eqb o o refl))

module _ (t : Tables) (w : WellFormed t) (c : Cells) (fits : Fits t c) (q : ℕ) where
  -- the counting, of the three changes
  pub using_change : (d : Change) → MayChange t c d
      → using (applied t c d) q + tally (has (lost c d) q) ≡ using c q + tally (has (gained c d) q)
  using_change (Assigned u roles) may = refl
  using_change (Enabled roles) may = refl
  using_change (Seated s y) may = omega (
    arith,
    using_set c.sessions s q y (omega (arith, may.0, w.sessions_sized.1, fits.sound.wide.2)),
    ap tally (gained-has t w c fits s y may.0 may.1 q),
    ap tally (lost-has t w c fits s y may.0 may.1 q),
    swapped (has (active x) q) (has (active y) q) (has (active_where (User (owner y)) x) q)
        (has (active_where (User (owner x)) y) q)
        (λ h. (where_parts (User (owner y)) x q h).1) (λ h. (where_parts (User (owner x)) y q h).1)
        (λ hx hy. same_tests _ _ (crossed x y hy) (crossed y x hx)),
  )
    where
      x : Session
      x = session_at c s

      crossed : (x y : Session) → has (active y) q ≡ true
          → has (active_where (User (owner y)) x) q ≡ true
          → has (active_where (User (owner x)) y) q ≡ true
      crossed x y hy h =
          let e = meant_is_owner (owner y) x (where_parts (User (owner y)) x q h).0 in
          where_from (User (owner x)) y q
          (ap (λ o. is_meant (User o) y) (sym e) ∙ owner_is_meant y q hy) hy

  few : {k : ℕ} → k < t.sizes.roles → k < 32
  few l = omega (arith, l, w.roles_sized.1)

  -- of each event, by what its questions say of the session: an activation gains its role, a
  -- deactivation loses it

  closed_before : (s u : ℕ) (x : Session) → session_question c x (Open s u) ≡ None
      → has (active x) q ≡ false
  closed_before s u session.Closed e = has-zero q
  closed_before s u (session.Open o a) e = cc

  begun : (s r : ℕ) (x : Session) → r < 32 → session_question c x (Activate s r) ≡ None
      → let y = with_active x (with_role (record { bits = active x }) r) in
      (tally (has (active y) q && not (has (active_where (User (owner y)) x) q)) ≡ tally (eqb q r))
      × (tally (has (active x) q && not (has (active_where (User (owner x)) y) q)) ≡ 0)
  begun s r session.Closed l e = cc
  begun s r (session.Open o a) l e =
      let p = passed (is_enabled c r) _ _ e in
      let n = passed (is_authorised c o r) _ _ p.1 in
      let free = not-true _ (passed (not (has a.bits r)) _ _ n.1).0 in
      let b = with_role a r in (
        ap (λ k. tally (has b.bits q && not k)) (own_where o a q)
            ∙ ap (λ k. tally (k && not (has a.bits q)))
            (has-with 32 a.bits r q ∙ ap (λ k. has a.bits q || k) (own_bit q r l))
            ∙ ap tally (put_in (has a.bits q) (eqb q r)
            (λ k. ap (has a.bits) (eqb-true q r k) ∙ free)),
        ap (λ k. tally (has a.bits q && not k)) (own_where o b q) ∙ no_tally _ (kept b),
      )
    where
      kept : (b : RoleSet) → (has a.bits q && not (has (with_role a r).bits q)) ≡ false
      kept b = elim (cases_Bool (has a.bits q)) [
        | inl h ↦ ap (λ k. k && not (has (with_role a r).bits q)) h ∙ ap not (has_still a r q h)
        | inr h ↦ ap (λ k. k && not (has (with_role a r).bits q)) h
      ]

  ended : (s r : ℕ) (x : Session) → (has (active x) q ≡ true → q < 32)
      → session_question c x (Deactivate s r) ≡ None
      → let y = with_active x (without_role (record { bits = active x }) r) in
      (tally (has (active y) q && not (has (active_where (User (owner y)) x) q)) ≡ 0)
      × (tally (has (active x) q && not (has (active_where (User (owner x)) y) q))
      ≡ tally (eqb q r))
  ended s r session.Closed low e = cc
  ended s r (session.Open o a) low e =
      let held = (passed (has a.bits r) _ _ e).0 in
      let b = without_role a r in
      let left = without-has a.bits q r low in (
        ap (λ k. tally (has b.bits q && not k)) (own_where o a q) ∙ no_tally _ (less b left),
        ap (λ k. tally (has a.bits q && not k)) (own_where o b q ∙ left)
            ∙ ap tally (taken_out (has a.bits q) (eqb q r)
            (λ k. ap (has a.bits) (eqb-true q r k) ∙ held)),
      )
    where
      less : (b : RoleSet) → has b.bits q ≡ (has a.bits q && not (eqb q r))
          → (has b.bits q && not (has a.bits q)) ≡ false
      less b is = elim (cases_Bool (has a.bits q)) [
        | inl h ↦ ap (λ k. has b.bits q && not k) h ∙ and_false (has b.bits q)
        | inr h ↦ ap (λ k. k && not (has a.bits q)) (is ∙ ap (λ k. k && not (eqb q r)) h)
      ]
        where
          and_false : (k : Bool) → (k && false) ≡ false
          and_false true = refl
          and_false false = refl

  -- what a possible event gains and loses
  moves : (e : Event) → Possible t c e
      → (tally (has (gained c (change_of c e)) q) ≡ tally (activates e q))
      × (tally (has (lost c (change_of c e)) q)
      ≡ tally (deactivates e q) + tally (closes e && has (listed c e) q))
  moves (Assign u r) can = (ap tally (has-zero q), ap tally (has-zero q))
  moves (Deassign u r) can = (ap tally (has-zero q), ap tally (has-zero q))
  moves (Enable r) can = (ap tally (has-zero q), ap tally (has-zero q))
  moves (Disable r) can = (ap tally (has-zero q), ap tally (has-zero q))
  moves (Open s u) can =
      let may = possible_may t w c fits (Open s u) can in
      let y = session.Open u no_roles in (
        ap tally (gained-has t w c fits s y may.0 may.1 q
            ∙ ap (λ k. k && not (has (active_where (User u) (session_at c s)) q)) (has-zero q)),
        ap tally (lost-has t w c fits s y may.0 may.1 q
            ∙ ap (λ k. k && not (has (active_where (User (owner (session_at c s))) y) q))
            (closed_before s u (session_at c s) (passed _ _ _ can).1)),
      )
  moves (Close s) can =
      let may = possible_may t w c fits (Close s) can in (
        ap tally (gained-has t w c fits s session.Closed may.0 may.1 q
            ∙ ap (λ k. k && not (has (active_where (User 0) (session_at c s)) q)) (has-zero q)),
        omega arith,
      )
  moves (Activate s r) can =
      let p = passed _ _ _ can in
      let l = both_below s _ r _ p.0 in
      let may = possible_may t w c fits (Activate s r) can in
      let y = with_active (session_at c s)
      (with_role (record { bits = active (session_at c s) }) r) in
      let is = begun s r (session_at c s) (few l.1) p.1 in (
        ap tally (gained-has t w c fits s y may.0 may.1 q) ∙ is.0,
        ap tally (lost-has t w c fits s y may.0 may.1 q) ∙ is.1,
      )
  moves (Deactivate s r) can =
      let p = passed _ _ _ can in
      let may = possible_may t w c fits (Deactivate s r) can in
      let y = with_active (session_at c s)
      (without_role (record { bits = active (session_at c s) }) r) in
      let is = ended s r (session_at c s) (low_before t w c fits s y may.0 may.1 q) p.1 in (
        ap tally (gained-has t w c fits s y may.0 may.1 q) ∙ is.0,
        ap tally (lost-has t w c fits s y may.0 may.1 q) ∙ is.1 ∙ plus_zero (tally (eqb q r)),
      )

  pub using_next : (e : Event) → Possible t c e
      → using (next t c e) q + (tally (deactivates e q) + tally (closes e && has (listed c e) q))
      ≡ using c q + tally (activates e q)
  using_next e can =
      let m = moves e can in
      omega (arith, using_change (change_of c e) (possible_may t w c fits e can), m.0, m.1)
