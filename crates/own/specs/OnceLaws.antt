-- The rule `once_per_user` keeps the laws of a rule. It proves, for the law of the rule, and
-- assumes nothing.
-- A change keeps what the rule allows unless it makes the role active for a user who has it active
-- already, and that one the rule does not admit.
use Rattle.std.proofs.Common.{◌≡◌, ℕ, true, false, not, ◌&&◌, sym, refl, ap, ◌∙◌, subst, inl, inr, arith}
use Rattle.std.proofs.lemmas.Bool.{both_ways, cases_Bool, and_from, not-true, not_from_false}
use Rattle.sets.specs.Sets.{has}
use Rattle.records.specs.declared.event.Event.{Event}
use Rattle.policy.specs.declared.tables.Tables.{Tables}
use Rattle.policy.specs.RowLaws.{set_each}
use Rattle.policy.specs.WellFormed.{WellFormed}
use Rattle.monitor.specs.declared.changes.Change.{Change}
use Rattle.monitor.specs.declared.changes.Change.TheVariants.{Assigned, Enabled, Seated}
use Rattle.monitor.specs.declared.sessions.Session.{Session}
use Rattle.monitor.specs.declared.sessions.Session.TheVariants as session
use Rattle.monitor.specs.declared.sessions.Whose.TheVariants.{User}
use Rattle.monitor.specs.declared.states.Cells.{Cells}
use Rattle.monitor.specs.Authority.{Fits}
use Rattle.monitor.specs.Cells.{session_at, is_active, is_active_for, blank}
use Rattle.monitor.specs.ChangeLaws.{MayChange, gained-has, none_has, possible_may}
use Rattle.monitor.specs.Changes.{applied, change_of, gained, next}
use Rattle.monitor.specs.Meaning.{Law}
use Rattle.monitor.specs.NewStateLaws.{all_closed}
use Rattle.monitor.specs.Possible.{Possible}
use Rattle.monitor.specs.SessionLaws.{active-counted, meant_is_owner, owner_is_meant, where_parts}
use Rattle.monitor.specs.Sessions.{active, active_where, is_meant, owner}
use Rattle.own.specs.Once.{Once, gainer, admitted, once_per_user}

-- in a new state no role is active
pub blank_once : (q : ℕ) → Once q blank
blank_once q s k h = none_has q (sym (ap (λ x. has (active x) q) (all_closed s)) ∙ h)

-- where the change makes the role active for a user, the user has it active in no session
abbrev pub Spares : ℕ → Cells → Change → Type 0
Spares q c d = has (gained c d) q ≡ true → is_active_for c (User (gainer d)) q ≡ false

module _ (t : Tables) (w : WellFormed t) (c : Cells) (fits : Fits t c) (q : ℕ) where
  -- the changes

  -- the session may stand at s: its owner has the role active in no other
  abbrev Lone : ℕ → Session → Type 0
  Lone s y = (k : ℕ) → has (active y) q ≡ true → is_active c k q ≡ true
      → owner y ≡ owner (session_at c k) → s ≡ k

  lone : (s : ℕ) (y : Session) → MayChange t c (Seated s y) → Spares q c (Seated s y) → Once q c
      → Lone s y
  lone s y may spares once k h g same =
      elim (cases_Bool (has (active_where (User (owner y)) x) q)) [
        | inl before ↦
            let p = where_parts (User (owner y)) x q before in
            once s k p.1 g (sym (meant_is_owner (owner y) x p.0) ∙ same)
        | inr fresh ↦
            let z = session_at c k in
            let meant = ap (λ o. is_meant (User o) z) same ∙ owner_is_meant z q g in
            absurd (both_ways (is_active_for c (User (owner y)) q) (spares (is_gained fresh))
            (active-counted (User (owner y)) c.sessions k q meant g))
      ]
    where
      x : Session
      x = session_at c s

      is_gained : has (active_where (User (owner y)) x) q ≡ false
          → has (gained c (Seated s y)) q ≡ true
      is_gained fresh =
          gained-has t w c fits s y may.0 may.1 q
          ∙ and_from (has (active y) q) _ h (not_from_false _ fresh)

  put_once : (s : ℕ) (y : Session) → Lone s y → Once q c → Once q (applied t c (Seated s y))
  put_once s y alone once i k =
      set_each (λ a x. has (active x) q ≡ true → is_active after k q ≡ true
      → owner x ≡ owner (session_at after k) → a ≡ k) c.sessions s y session.Closed
      (λ a. set_each (λ b z. is_active c a q ≡ true → has (active z) q ≡ true
      → owner (session_at c a) ≡ owner z → a ≡ b) c.sessions s y session.Closed
      (once a) (λ h g e. sym (alone a g h (sym e))) k)
      (set_each (λ b z. has (active y) q ≡ true → has (active z) q ≡ true
      → owner y ≡ owner z → s ≡ b) c.sessions s y session.Closed
      alone (λ h g e. refl) k)
      i
    where
      after : Cells
      after = applied t c (Seated s y)

  pub change_once : (d : Change) → MayChange t c d → Spares q c d → Once q c
      → Once q (applied t c d)
  change_once (Assigned u roles) may spares once = once
  change_once (Enabled roles) may spares once = once
  change_once (Seated s y) may spares once = put_once s y (lone s y may spares once) once

  -- the session may be put there: the role is not gained, or its owner has it active nowhere
  abbrev pub Free : ℕ → Session → Type 0
  Free s y = not (has (gained c (Seated s y)) q && is_active_for c (User (owner y)) q) ≡ true

  spared : (d : Change) → ((s : ℕ) (y : Session) → d ≡ Seated s y → Free s y) → Spares q c d
  spared (Assigned u roles) free h = none_has q h
  spared (Enabled roles) free h = none_has q h
  spared (Seated s y) free h =
      ap (λ b. b && is_active_for c (User (owner y)) q) (sym h) ∙ not-true _ (free s y refl)

  pub next_once : (e : Event) → Possible t c e → Once q c
      → ((s : ℕ) (y : Session) → change_of c e ≡ Seated s y → Free s y) → Once q (next t c e)
  next_once e can once free =
      let d = change_of c e in
      change_once d (possible_may t w c fits e can) (spared d free) once

pub once_law : (q : ℕ) → Law (once_per_user q)
once_law q = record {
  fresh = λ t law. blank_once q;
  keeps = λ t c e law fits can once admits.
      next_once t law.formed c fits q e can once
      (λ s y is. subst (λ d. admitted q c d ≡ true) is admits);
  named = λ t c e law fits can once no. (omega arith, omega arith);
}
