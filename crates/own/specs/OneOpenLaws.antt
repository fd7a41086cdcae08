-- The rule `one_open_session` keeps the laws of a rule. It proves, for the law of the rule, and
-- assumes nothing.
-- A change keeps what the rule allows unless it puts an open session beside another open one of the
-- policy, and that one the rule does not admit; past the policy's sessions none is open.
use Rattle.std.proofs.Common.{◌≡◌, ℕ, true, false, not, ◌&&◌, eqb, is_some, Some, None, Option, sym, refl, ap, ◌∙◌, inl, inr, arith}
use Rattle.std.proofs.lemmas.Bool.{both_ways, cases_Bool, and_from, cond-true, eqb-true, not_from_false}
use Rattle.sets.specs.FirstLaws.{first_none}
use Rattle.policy.specs.declared.tables.Tables.{Tables}
use Rattle.policy.specs.RowLaws.{set_each}
use Rattle.monitor.specs.declared.changes.Change.{Change}
use Rattle.monitor.specs.declared.changes.Change.TheVariants.{Assigned, Enabled, Seated}
use Rattle.monitor.specs.declared.sessions.Session.{Session}
use Rattle.monitor.specs.declared.sessions.Session.TheVariants as session
use Rattle.monitor.specs.declared.states.Cells.{Cells}
use Rattle.monitor.specs.Authority.{Fits}
use Rattle.monitor.specs.Cells.{session_at, blank}
use Rattle.monitor.specs.Changes.{applied, change_of}
use Rattle.monitor.specs.Meaning.{Law}
use Rattle.monitor.specs.NewStateLaws.{all_closed}
use Rattle.monitor.specs.Sessions.{is_open}
use Rattle.own.specs.OneOpen.{OneOpen, other_open, open_besides, one_open_session}

-- in a new state no session is open
blank_one_open : OneOpen blank
blank_one_open s k h = absurd (both_ways _ (ap is_open (all_closed s)) h)

none_besides : (o : Option ℕ) → not (is_some o) ≡ true → o ≡ None
none_besides None e = refl
none_besides (Some x) e = absurd (both_ways false refl e)

module _ (t : Tables) (c : Cells) (fits : Fits t c) where
  -- where no other session of the policy is open, an open one is this
  alone : (s k : ℕ) → other_open t c s ≡ None → is_open (session_at c k) ≡ true → s ≡ k
  alone s k none h =
      elim (cases_Bool (eqb k s)) [
        | inl e ↦ sym (eqb-true k s e)
        | inr other ↦
            absurd (both_ways _
            (first_none t.sizes.sessions (λ j. not (eqb j s) && is_open (session_at c j)) none k
            (fits.open_within k h).0)
            (and_from (not (eqb k s)) _ (not_from_false _ other) h))
      ]

  put_one_open : (s : ℕ) (y : Session)
      → ((k : ℕ) → is_open y ≡ true → is_open (session_at c k) ≡ true → s ≡ k)
      → OneOpen c → OneOpen (applied t c (Seated s y))
  put_one_open s y lone one i k =
      set_each (λ a x. is_open x ≡ true → is_open (session_at after k) ≡ true → a ≡ k)
      c.sessions s y session.Closed
      (λ a. set_each (λ b z. is_open (session_at c a) ≡ true → is_open z ≡ true → a ≡ b)
      c.sessions s y session.Closed (one a) (λ h g. sym (lone a g h)) k)
      (set_each (λ b z. is_open y ≡ true → is_open z ≡ true → s ≡ b)
      c.sessions s y session.Closed lone (λ h g. refl) k)
      i
    where
      after : Cells
      after = applied t c (Seated s y)

  change_one_open : (d : Change) → open_besides t c d ≡ None → OneOpen c → OneOpen (applied t c d)
  change_one_open (Assigned u roles) none one = one
  change_one_open (Enabled roles) none one = one
  change_one_open (Seated s y) none one =
      put_one_open s y
      (λ k h g. alone s k (sym (cond-true (is_open y) (other_open t c s) None h) ∙ none) g) one

pub one_open_law : Law one_open_session
one_open_law = record {
  fresh = λ t law. blank_one_open;
  keeps = λ t c e law fits can one yes.
      change_one_open t c fits (change_of c e) (none_besides _ yes) one;
  named = λ t c e law fits can one no. (omega arith, omega arith);
}
