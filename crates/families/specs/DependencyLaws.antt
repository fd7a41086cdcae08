-- Dependency keeps the laws of a rule, and is exact. It proves, and assumes nothing.
use Rattle.std.specs.Prelude.{◌≡◌, ℕ, ◌<◌, true, false, not, ◌&&◌, ◌⊎◌, None, refl}
use Rattle.std.proofs.Common.{ap, ◌∙◌, inl, inr, arith}
use Rattle.std.specs.Option.{option_map}
use Rattle.std.proofs.lemmas.Bool.{cases_Bool, and_from, and_left, and_right, not_from_true, both_ways, not_from_false, or_left, or_right, false_from_ne_true}
use Rattle.sets.specs.Sets.{has, union}
use Rattle.sets.specs.SetLaws.{has-union}
use Rattle.sets.specs.FirstLaws.{first_none, first_never}
use Rattle.policy.specs.declared.tables.Tables.{Tables}
use Rattle.policy.specs.AskingLaws.{mapped_none}
use Rattle.policy.specs.Seniority.{rows_union}
use Rattle.policy.specs.SeniorityLaws.{rows_union_in, rows_union_out}
use Rattle.policy.specs.WellFormed.{WellFormed}
use Rattle.monitor.specs.declared.changes.Change.{Change}
use Rattle.monitor.specs.declared.changes.Change.TheVariants.{Assigned, Enabled, Seated}
use Rattle.monitor.specs.declared.sessions.Session.{Session}
use Rattle.monitor.specs.declared.sessions.Whose.TheVariants.{Anyone, User}
use Rattle.monitor.specs.declared.states.Cells.{Cells}
use Rattle.monitor.specs.Authority.{Fits}
use Rattle.monitor.specs.Cells.{session_at}
use Rattle.monitor.specs.ChangeLaws.{MayStand, MayChange, possible_may, gained-has, lost-has}
use Rattle.monitor.specs.Changes.{change_of, applied, gained, lost}
use Rattle.monitor.specs.Meaning.{Law}
use Rattle.monitor.specs.NewStateLaws.{none_active}
use Rattle.monitor.specs.SessionLaws.{active-counted, active-set, active_stays, where_parts}
use Rattle.monitor.specs.Sessions.{active, owner, active_in, active_where}
use Rattle.families.specs.Dependency.{is_active_anywhere, Met, missing, violation_of, violation_number, dependency}
use Rattle.families.specs.Family.{Exact}
use Rattle.families.specs.declared.dependency.Violation.{Violation}
use Rattle.families.specs.declared.dependency.Violation.TheVariants.{NotActive}
use Rattle.families.specs.FamilyLaws.{Named, detail_named, admitted_none, none_admitted, none_if, asked_if, not_zero}
use Rattle.families.specs.HousePiles.{BelowOwn}

-- nothing missing and everything met are the same
met : (t : Tables) (c : Cells) → WellFormed t → missing t c ≡ None → Met t c
met t c w e a b ha hd =
    let in_range = w.needs_within a b hd in
    let needed = rows_union_in t.dependencies.needs (record { bits = active_in Anyone c.sessions })
    32 a b (omega (arith, in_range.0, w.roles_sized.1)) ha hd in
    let test = first_none 32 _ e b (omega (arith, in_range.1, w.roles_sized.1)) in
    elim (cases_Bool (is_active_anywhere c b)) [
      | inl p ↦ p
      | inr p ↦
          absurd (both_ways _ test (and_from _ (not (is_active_anywhere c b)) needed
          (not_from_false (is_active_anywhere c b) p)))
    ]

nothing_missing : (t : Tables) (c : Cells) → Met t c → missing t c ≡ None
nothing_missing t c all = first_never 32 _ (λ b l. at b (cases_Bool (has needed b)))
  where
    needed : ℕ
    needed = rows_union t.dependencies.needs (record { bits = active_in Anyone c.sessions }) 32

    at : (b : ℕ) → (has needed b ≡ true) ⊎ (has needed b ≡ false)
        → (has needed b && not (is_active_anywhere c b)) ≡ false
    at b (inl h) =
        let g = rows_union_out t.dependencies.needs
        (record { bits = active_in Anyone c.sessions }) 32 b h in
        and_right (has needed b) (not (is_active_anywhere c b))
        (not_from_true (is_active_anywhere c b) (all g.0 b g.1 g.2))
    at b (inr h) = and_left (has needed b) (not (is_active_anywhere c b)) h

module _ (t : Tables) (w : WellFormed t) (c : Cells) (fits : Fits t c) where
  -- where no role becomes active or ceases to be, the same roles are active
  module _ (s : ℕ) (y : Session) (l : s < t.sizes.sessions) (may : MayStand c y)
      (z : union (gained c (Seated s y)) (lost c (Seated s y)) ≡ 0) where
    abbrev x : Session
    x = session_at c s

    abbrev new : ℕ
    new = gained c (Seated s y)

    abbrev old : ℕ
    old = lost c (Seated s y)

    neither : (k : ℕ) → (has new k ≡ false) × (has old k ≡ false)
    neither k = (
      false_from_ne_true _ (λ h. not_zero _ k z (has-union new _ k ∙ or_left _ _ h)),
      false_from_ne_true _ (λ h. not_zero _ k z (has-union new _ k ∙ or_right _ _ h)),
    )

    was_active : (k : ℕ) → is_active_anywhere (applied t c (Seated s y)) k ≡ true
        → is_active_anywhere c k ≡ true
    was_active k h = elim (active-set Anyone c.sessions s k y h) [
      | inl p ↦ p
      | inr p ↦ elim (cases_Bool (has (active_where (User (owner y)) x) k)) [
        | inl q ↦ active-counted Anyone c.sessions s k refl (where_parts (User (owner y)) x k q).1
        | inr q ↦ absurd (both_ways (has new k) (neither k).0
            (gained-has t w c fits s y l may k
            ∙ and_from (has (active y) k) _ p.1 (not_from_false _ q)))
      ]
    ]

    still_active : (k : ℕ) → is_active_anywhere c k ≡ true
        → is_active_anywhere (applied t c (Seated s y)) k ≡ true
    still_active k h = active_stays Anyone c.sessions s k y (λ _ q. (refl, kept q)) h
      where
        kept : has (active x) k ≡ true → has (active y) k ≡ true
        kept q = elim (cases_Bool (has (active_where (User (owner x)) y) k)) [
          | inl p ↦ (where_parts (User (owner x)) y k p).1
          | inr p ↦ absurd (both_ways (has old k) (neither k).1
              (lost-has t w c fits s y l may k
              ∙ and_from (has (active x) k) _ q (not_from_false _ p)))
        ]

  met_after : (d : Change) → MayChange t c d → Met t c → violation_of t c d ≡ None
      → Met t (applied t c d)
  met_after (Assigned u roles) may all e = all
  met_after (Enabled roles) may all e = all
  met_after (Seated s y) may all e =
      elim (asked_if (union (gained c (Seated s y)) (lost c (Seated s y))) _ e) [
        | inr q ↦ met t (applied t c (Seated s y)) w (mapped_none NotActive _ q)
        | inl z ↦ λ a b ha hd. still_active s y may.0 may.1 z b
            (all a b (was_active s y may.0 may.1 z a ha) hd)
      ]

no_violation : (t : Tables) (c : Cells) (d : Change) → Met t (applied t c d)
    → violation_of t c d ≡ None
no_violation t c (Assigned u roles) all = refl
no_violation t c (Enabled roles) all = refl
no_violation t c (Seated s y) all =
    none_if (union (gained c (Seated s y)) (lost c (Seated s y))) _
    (ap (option_map NotActive) (nothing_missing t (applied t c (Seated s y)) all))

named : (v : Violation) → Named (violation_number v)
named (NotActive b) = (omega arith, omega arith)

pub dependency_law : Law dependency
dependency_law = record {
  fresh = λ t law a b ha hd. absurd (both_ways _ (none_active Anyone a) ha);
  keeps = λ t c e law fits can all yes.
      met_after t law.formed c fits (change_of c e) (possible_may t law.formed c fits e can) all
      (admitted_none _ yes);
  named = λ t c e law fits can ok denied.
      let n = detail_named violation_number named (violation_of t c (change_of c e)) denied in
      (n.0, omega (arith, n.1));
}

pub dependency_exact : Exact dependency
dependency_exact = record {
  admitted_leads_on = dependency_law.keeps;
  allowed_is_admitted = λ t c e law fits can all after.
      none_admitted _ (no_violation t c (change_of c e) after);
}

pub dependency_below_own : BelowOwn dependency
dependency_below_own t c e law fits can ok denied =
    (detail_named violation_number named (violation_of t c (change_of c e)) denied).1
