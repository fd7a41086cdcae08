-- The stored authorised roles are those of the relation. It proves, for the crates above, and
-- assumes nothing.
use Rattle.std.proofs.Common.{◌≡◌, ℕ, ◌<◌, ◌≤◌, true, get_or, sym, refl, ap, ◌∙◌, inl, inr, arith}
use Rattle.sets.specs.Aliases.{RoleSet}
use Rattle.sets.specs.Sets.{has}
use Rattle.policy.specs.declared.tables.Tables.{Tables}
use Rattle.policy.specs.Entries.{no_roles, inherits}
use Rattle.policy.specs.Seniority.{Senior, closure, TellsSeniority}
use Rattle.policy.specs.WellFormed.{WellFormed}
use Rattle.policy.specs.SeniorityLaws.{closure_tells, closed_length, held_inside, rows_union_in, rows_union_out, senior_within}
use Rattle.monitor.specs.declared.sessions.Session.{Session}
use Rattle.monitor.specs.declared.sessions.Session.TheVariants.{Closed, Open}
use Rattle.monitor.specs.declared.states.Cells.{Cells}
use Rattle.monitor.specs.Authority.{Authorised, authority_of, Fits, AuthorisedByRelation}
use Rattle.monitor.specs.Cells.{is_authorised, is_active, session_at}
use Rattle.monitor.specs.Sessions.{is_open, active, owner}

module _ (t : Tables) (w : WellFormed t) where
  tells : TellsSeniority t.hierarchy.juniors (closure t.hierarchy.juniors)
  tells = closure_tells t.hierarchy.juniors t.sizes.roles w.roles_sized.1 w.juniors_within

  pub authority_of_senior : (s : RoleSet) (b : ℕ) → has (authority_of t s).bits b ≡ true
      → (a : ℕ) × (has s.bits a ≡ true) × Senior (inherits t) a b
  authority_of_senior s b h =
      let g = rows_union_out (closure t.hierarchy.juniors) s 32 b h in
      (g.0, g.1, tells.held_senior g.0 b g.2)

  pub senior_authority_of : (s : RoleSet) (a b : ℕ) → a < 32 → has s.bits a ≡ true
      → Senior (inherits t) a b → has (authority_of t s).bits b ≡ true
  senior_authority_of s a b la h p =
      rows_union_in (closure t.hierarchy.juniors) s 32 a b la h (tells.senior_held a b la p)

  -- only roles of the policy are authorised for where only such are assigned
  pub authority_of-below : (s : RoleSet) → ((r : ℕ) → has s.bits r ≡ true → r < t.sizes.roles)
      → (b : ℕ) → has (authority_of t s).bits b ≡ true → b < t.sizes.roles
  authority_of-below s inside b h =
      let a = authority_of_senior s b h in
      let la = inside a.0 a.1 in
      elim (senior_within w.juniors_within a.2) [ inl e ↦ omega arith | inr q ↦ q.1 ]

  -- what is assigned besides takes nothing away
  pub authority_of_more : (s more : RoleSet) (b : ℕ)
      → ((a : ℕ) → a < 32 → has s.bits a ≡ true → has more.bits a ≡ true)
      → has (authority_of t s).bits b ≡ true → has (authority_of t more).bits b ≡ true
  authority_of_more s more b f h =
      let rows = closure t.hierarchy.juniors in
      let g = rows_union_out rows s 32 b h in
      let la = held_inside rows g.0 b (closed_length 32 t.hierarchy.juniors) g.2 in
      rows_union_in rows more 32 g.0 b la (f g.0 la g.1) g.2

  module _ (c : Cells) (fits : Fits t c) where
    pub stored_relation : (u b : ℕ) → is_authorised c u b ≡ true → Authorised t c u b
    stored_relation u b h =
        authority_of_senior (get_or c.assigned u no_roles) b
        (ap (λ n. has n b) (sym (fits.stored u)) ∙ h)

    pub relation_stored : (u b : ℕ) → Authorised t c u b → is_authorised c u b ≡ true
    relation_stored u b (a, h, p) =
        ap (λ n. has n b) (fits.stored u)
        ∙ senior_authority_of (get_or c.assigned u no_roles) a b
        (omega (arith, (fits.ranged u a h).1, w.roles_sized.1)) h p

    pub authorised-below : (u b : ℕ) → is_authorised c u b ≡ true → b < t.sizes.roles
    authorised-below u b h =
        let r = stored_relation u b h in
        let la = (fits.ranged u r.0 r.1).1 in
        elim (senior_within w.juniors_within r.2) [ inl e ↦ omega arith | inr q ↦ q.1 ]

    pub active-below : (s r : ℕ) → is_active c s r ≡ true → r < t.sizes.roles
    active-below s r h = authorised-below (owner (session_at c s)) r (fits.sound.entitled s r h)

    pub by_relation : AuthorisedByRelation t c
    by_relation = record {
      stored_is_related = stored_relation;
      related_is_stored = relation_stored;
      owner_is_related =
          λ s b h. stored_relation (owner (session_at c s)) b (fits.sound.entitled s b h);
    }

-- past the policy's sessions nothing is active
pub unused : (t : Tables) (c : Cells) → Fits t c → (s : ℕ) → t.sizes.sessions ≤ s
    → active (session_at c s) ≡ 0
unused t c fits s l = none (session_at c s) (fits.open_within s)
  where
    none : (x : Session)
        → (is_open x ≡ true → (s < t.sizes.sessions) × (owner x < t.sizes.users)) → active x ≡ 0
    none Closed within = refl
    none (Open o a) within = let h = (within refl).0 in absurd (omega arith)
