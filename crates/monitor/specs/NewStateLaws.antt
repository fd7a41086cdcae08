-- A new state fits every policy. It proves, for the crates above, and assumes nothing.
use Rattle.std.proofs.Common.{◌≡◌, ℕ, true, false, get_or, sym, refl, ap, ◌∙◌, arith}
use Rattle.std.proofs.lemmas.Bool.{both_ways, false_from_ne_true}
use Rattle.sets.specs.Sets.{has}
use Rattle.sets.specs.Aliases.{RoleSet}
use Rattle.sets.specs.SetLaws.{has-zero}
use Rattle.policy.specs.declared.tables.Tables.{Tables}
use Rattle.policy.specs.Entries.{no_roles}
use Rattle.policy.specs.RowsUnionLaws.{rows_union_none}
use Rattle.policy.specs.RowLaws.{replicate_each}
use Rattle.monitor.specs.declared.sessions.Session.TheVariants.{Closed}
use Rattle.monitor.specs.declared.sessions.Whose.TheVariants.{User}
use Rattle.monitor.specs.Authority.{authority_of, Fits}
use Rattle.monitor.specs.declared.sessions.Whose.{Whose}
use Rattle.monitor.specs.Cells.{session_at, blank, is_active_for, is_assigned, is_authorised, seats, using}
use Rattle.monitor.specs.SessionLaws.{active_found, seats_in_none, using_none}
use Rattle.monitor.specs.Sessions.{is_open, active, owner}

-- every session of a new state is closed, and nobody has a role
pub all_closed : (s : ℕ) → session_at blank s ≡ Closed
unfolding blank
all_closed s = replicate_each (λ x. x ≡ Closed) 64 Closed Closed refl refl s

pub none_assigned : (u : ℕ) → get_or blank.assigned u no_roles ≡ no_roles
unfolding blank
none_assigned u = replicate_each (λ x. x ≡ no_roles) 64 no_roles no_roles refl refl u

pub none_authorised : (u : ℕ) → get_or blank.authorised u no_roles ≡ no_roles
unfolding blank
none_authorised u = replicate_each (λ x. x ≡ no_roles) 64 no_roles no_roles refl refl u

none : {X : Type 0} (r n : ℕ) → n ≡ 0 → has n r ≡ true → X
none r n e h = absurd (both_ways (has n r) (ap (λ m. has m r) e ∙ has-zero r) h)

pub blank-fits : (t : Tables) → Fits t blank
unfolding blank
blank-fits t = record {
  sound = record {
    wide = (refl, refl, refl);
    owned = λ s. let e : owner (session_at blank s) ≡ 0 = ap owner (all_closed s) in omega arith;
    live = λ s r h. none r _ (ap active (all_closed s)) h;
    entitled = λ s r h. none r _ (ap active (all_closed s)) h;
  };
  stored = λ u. ap (λ (s : RoleSet). s.bits) (none_authorised u)
      ∙ sym (ap (λ (s : RoleSet). (authority_of t s).bits) (none_assigned u)
      ∙ rows_union_none _ 32);
  ranged = λ u r h. none r _ (ap (λ (s : RoleSet). s.bits) (none_assigned u)) h;
  enabled_within = λ r h. absurd (both_ways (has 0 r) (has-zero r) h);
  open_within =
      λ s h. absurd (both_ways (is_open (session_at blank s)) (ap is_open (all_closed s)) h);
}

-- in the new state nothing is active, for anyone
pub none_active : (w : Whose) (r : ℕ) → is_active_for blank w r ≡ false
none_active w r =
    false_from_ne_true _
    (λ h. let f = active_found w blank.sessions r h in none r _ (ap active (all_closed f.0)) f.3)

pub no_seats_taken : (u : ℕ) → seats blank u ≡ 0
no_seats_taken u = seats_in_none (User u) blank.sessions (λ s. ap active (all_closed s))

pub none_using : (r : ℕ) → using blank r ≡ 0
none_using r =
    using_none blank.sessions r (λ s. ap (λ x. has (active x) r) (all_closed s) ∙ has-zero r)

pub nobody_authorised : (u r : ℕ) → is_authorised blank u r ≡ false
nobody_authorised u r = ap (λ (s : RoleSet). has s.bits r) (none_authorised u) ∙ has-zero r

pub nobody_assigned : (u r : ℕ) → is_assigned blank u r ≡ false
nobody_assigned u r = ap (λ (s : RoleSet). has s.bits r) (none_assigned u) ∙ has-zero r
