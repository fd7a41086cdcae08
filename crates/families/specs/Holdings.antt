-- Whose holdings stand against an assignment, in the words of the policy and the state. Assumes
-- nothing.
--   StandsAgainst    what a user holds stands against another's being assigned a role
--   JudgesHoldings   a rule refuses exactly the assignments against which somebody's holdings
--                    stand, and names the lowest such user
use Rattle.std.specs.Prelude.{◌≡◌, ℕ, ◌<◌, true, false, ◌⊎◌, ◌↔◌, ◌≢◌}
use Rattle.records.specs.declared.event.Event.{Event}
use Rattle.records.specs.declared.event.Event.TheVariants.{Assign}
use Rattle.policy.specs.declared.tables.Tables.{Tables}
use Rattle.policy.specs.Entries.{inherits, assignment_pair}
use Rattle.policy.specs.Seniority.{Senior}
use Rattle.monitor.specs.declared.states.Cells.{Cells}
use Rattle.monitor.specs.Authority.{Fits}
use Rattle.monitor.specs.Cells.{is_assigned}
use Rattle.monitor.specs.Changes.{next}
use Rattle.monitor.specs.Meaning.{Meaning, Lawful}
use Rattle.monitor.specs.Possible.{Possible}

-- v holds r, a senior or a junior of it, and is listed with u for both roles
abbrev pub StandsAgainst : Tables → Cells → ℕ → ℕ → ℕ → Type 0
StandsAgainst t c u r v =
    (q : ℕ) × (is_assigned c v q ≡ true)
    × (Senior (inherits t) q r ⊎ Senior (inherits t) r q)
    × (assignment_pair t q u v ≡ true) × (assignment_pair t r u v ≡ true)

-- of events that are possible in a state that fits a checked policy
pub record JudgesHoldings (m : Meaning) : Type 0 where
  -- an event that is not admitted would assign a user a role that the user does not hold
  pub only_assignments : (t : Tables) (c : Cells) (e : Event) → Lawful t → Fits t c
      → Possible t c e → m.admits t c e ≡ false
      → (u : ℕ) × (r : ℕ) × (is_assigned c u r ≡ false) × (is_assigned (next t c e) u r ≡ true)
  -- an assignment is admitted exactly where nobody's holdings stand against it
  pub admitted : (t : Tables) (c : Cells) (u r : ℕ) → Lawful t → Fits t c
      → Possible t c (Assign u r)
      → (m.admits t c (Assign u r) ≡ true) ↔ ((v : ℕ) → StandsAgainst t c u r v → ⊥)
  -- and else 48 and the lowest user whose holdings do are named, another than the assigned one
  pub named : (t : Tables) (c : Cells) (u r : ℕ) → Lawful t → Fits t c
      → Possible t c (Assign u r) → m.admits t c (Assign u r) ≡ false
      → (m.number t c (Assign u r) ≡ 48)
      × StandsAgainst t c u r (m.subject t c (Assign u r))
      × ((v : ℕ) → v < m.subject t c (Assign u r) → StandsAgainst t c u r v → ⊥)
      × (m.subject t c (Assign u r) ≢ u)
