-- Where separation stands in piles made with the house pile, and what the number of a refusal
-- tells there. It proves, and assumes nothing.
use Rattle.std.proofs.Common.{◌≡◌, ℕ, zero, suc, ◌+◌, ◌<◌, ◌≤◌, true, false, ◌⊎◌, List, [], ◌∷◌, ◌++◌, length, get_or, subst, refl, inl, inr, arith}
use Rattle.records.specs.declared.event.Event.{Event}
use Rattle.policy.specs.declared.tables.Tables.{Tables}
use Rattle.monitor.specs.declared.states.Cells.{Cells}
use Rattle.monitor.specs.Apart.{allowed_at, SeparatesAt}
use Rattle.monitor.specs.Authority.{Fits}
use Rattle.monitor.specs.Meaning.{Meaning, Every, Lawful}
use Rattle.monitor.specs.Own.{Confined}
use Rattle.monitor.specs.Possible.{Possible}
use Rattle.monitor.specs.Runs.{admissions, numbers}
use Rattle.families.specs.AssignmentConflictsLaws.{assignment_conflicts_below_own}
use Rattle.families.specs.CardinalityLaws.{cardinality_below_own}
use Rattle.families.specs.DependencyLaws.{dependency_below_own}
use Rattle.families.specs.House.{house_rules}
use Rattle.families.specs.HousePiles.{BelowOwn, IsOwnNumber, NumbersTell}
use Rattle.families.specs.PrecedenceLaws.{precedence_below_own}
use Rattle.families.specs.SeparationLaws.{separation_below_own}

-- the rule at a place below a pile is the rule at a place of the pile below
allowed_past : (xs ys : List Meaning) (n k : ℕ) (t : Tables) (c : Cells) → k ≡ n + length xs
    → allowed_at (xs ++ ys) k t c → allowed_at ys n t c
allowed_past [] ys n k t c e h =
    let is : k ≡ n = omega (arith, e) in subst (λ j. allowed_at ys j t c) is h
allowed_past (x ∷ xs) ys n zero t c e h = absurd (omega (arith, e))
allowed_past (x ∷ xs) ys n (suc k) t c e h = allowed_past xs ys n k t c (omega (arith, e)) h

pub separates-above_house : (xs : List Meaning) (t : Tables)
    → SeparatesAt (xs ++ house_rules) (1 + length xs) t
separates-above_house xs t c fits ok =
    (allowed_past xs house_rules 1 (1 + length xs) t c refl ok).statically

pub separates-below_house : (xs : List Meaning) (t : Tables) → SeparatesAt (house_rules ++ xs) 1 t
separates-below_house xs t c fits ok = ok.statically

pub house_below_own : Every BelowOwn house_rules
house_below_own = (
  cardinality_below_own,
  (
    separation_below_own,
    (assignment_conflicts_below_own, (precedence_below_own, (dependency_below_own, tt))),
  ),
)

module _ (t : Tables) (c : Cells) (e : Event) where
  -- where the rule does not admit the event, its number is one of these
  abbrev Names : (ℕ → Type 0) → Meaning → Type 0
  Names P m = m.allowed t c → m.admits t c e ≡ false → P (m.number t c e)

  number_at : (P : ℕ → Type 0) (ms : List Meaning) → Every (Names P) ms
      → Every (λ m. m.allowed t c) ms → (k : ℕ) → k < length ms
      → get_or (admissions ms t c e) k true ≡ false → P (get_or (numbers ms t c e) k 0)
  number_at P [] all ok k l denied = absurd (omega arith)
  number_at P (m ∷ ms) all ok zero l denied = all.0 ok.0 denied
  number_at P (m ∷ ms) all ok (suc k) l denied = number_at P ms all.1 ok.1 k (omega arith) denied

  -- the number of an upper rule, or of a lower one
  upper_or_lower : (P Q : ℕ → Type 0) (xs ys : List Meaning)
      → Every (Names P) xs → Every (Names Q) ys
      → Every (λ m. m.allowed t c) (xs ++ ys) → (k : ℕ) → k < length (xs ++ ys)
      → get_or (admissions (xs ++ ys) t c e) k true ≡ false
      → ((k < length xs) × P (get_or (numbers (xs ++ ys) t c e) k 0))
      ⊎ ((length xs ≤ k) × Q (get_or (numbers (xs ++ ys) t c e) k 0))
  upper_or_lower P Q [] ys upper lower ok k l denied =
      inr (omega arith, number_at Q ys lower ok k l denied)
  upper_or_lower P Q (x ∷ xs) ys upper lower ok zero l denied = inl (omega arith, upper.0 ok.0 denied)
  upper_or_lower P Q (x ∷ xs) ys upper lower ok (suc k) l denied =
      elim (upper_or_lower P Q xs ys upper.1 lower ok.1 k (omega arith) denied) [
        | inl p ↦ inl (omega (arith, p.0), p.1)
        | inr p ↦ inr (omega (arith, p.0), p.1)
      ]

  module _ (law : Lawful t) (fits : Fits t c) (can : Possible t c e) where
    own_names : (ms : List Meaning) → Every Confined ms → Every (Names IsOwnNumber) ms
    own_names [] all = tt
    own_names (m ∷ ms) all = (all.0 t c e law fits can, own_names ms all.1)

    house_names : (ms : List Meaning) → Every BelowOwn ms → Every (Names (λ n. n < 100)) ms
    house_names [] all = tt
    house_names (m ∷ ms) all = (all.0 t c e law fits can, house_names ms all.1)

pub own_above_house-tell : (xs : List Meaning) → Every Confined xs
    → NumbersTell (xs ++ house_rules) (λ k. k < length xs)
own_above_house-tell xs confined t c e number subject place law fits can ok top =
    elim (upper_or_lower t c e IsOwnNumber (λ n. n < 100) xs house_rules
    (own_names t c e law fits can xs confined)
    (house_names t c e law fits can house_rules house_below_own)
    ok top.rule top.among top.refuses) [
      | inl p ↦
          (λ own. p.0, λ l. (omega (arith, top.its_number, p.1.0), omega (arith, top.its_number, p.1.1)))
      | inr p ↦ (
        λ own. absurd (omega (arith, top.its_number, own.0, p.1)),
        λ l. absurd (omega (arith, l, p.0)),
      )
    ]

pub own_below_house-tell : (xs : List Meaning) → Every Confined xs
    → NumbersTell (house_rules ++ xs) (λ k. length house_rules ≤ k)
own_below_house-tell xs confined t c e number subject place law fits can ok top =
    elim (upper_or_lower t c e (λ n. n < 100) IsOwnNumber house_rules xs
    (house_names t c e law fits can house_rules house_below_own)
    (own_names t c e law fits can xs confined)
    ok top.rule top.among top.refuses) [
      | inl p ↦ (
        λ own. absurd (omega (arith, top.its_number, own.0, p.1)),
        λ l. absurd (omega (arith, l, p.0)),
      )
      | inr p ↦
          (λ own. p.0, λ l. (omega (arith, top.its_number, p.1.0), omega (arith, top.its_number, p.1.1)))
    ]
