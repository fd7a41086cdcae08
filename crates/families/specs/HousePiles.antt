-- Piles made with the house pile: where separation stands in them, and what the number of a refusal
-- tells where the other rules are an archive's own. Assumes nothing.
--   house_pile     the house pile
--   BelowOwn       a rule whose numbers are below those of own rules
--   IsOwnNumber    a number of an own rule
--   NumbersTell    the number of a refusal tells whether an own rule refuses
use Rattle.std.specs.Prelude.{◌≡◌, ℕ, ◌<◌, ◌≤◌, ◌↔◌, false, List}
use Rattle.records.specs.declared.event.Event.{Event}
use Rattle.policy.specs.declared.tables.Tables.{Tables}
use Rattle.monitor.specs.declared.pairs.Pair.{Pair}
use Rattle.monitor.specs.declared.states.Cells.{Cells}
use Rattle.monitor.specs.Authority.{Fits}
use Rattle.monitor.specs.Meaning.{Meaning, Every, Lawful}
use Rattle.monitor.specs.Possible.{Possible}
use Rattle.monitor.specs.Runs.{Topmost}
use Rattle.families.specs.declared.assignment_conflicts.AssignmentConflicts.{AssignmentConflicts}
use Rattle.families.specs.declared.cardinality.Cardinality.{Cardinality}
use Rattle.families.specs.declared.dependency.Dependency.{Dependency}
use Rattle.families.specs.declared.precedence.Precedence.{Precedence}
use Rattle.families.specs.declared.separation.Separation.{Separation}

abbrev pub house_pile : Pair Cardinality
    (Pair Separation (Pair AssignmentConflicts (Pair Precedence Dependency)))
house_pile = record {
  upper = record {};
  lower = record {
    upper = record {};
    lower = record { upper = record {}; lower = record { upper = record {}; lower = record {} } };
  };
}

-- where such a rule does not admit, its number is below 100
abbrev pub BelowOwn : Meaning → Type 0
BelowOwn m = (t : Tables) (c : Cells) (e : Event) → Lawful t → Fits t c → Possible t c e
    → m.allowed t c → m.admits t c e ≡ false → m.number t c e < 100

abbrev pub IsOwnNumber : ℕ → Type 0
IsOwnNumber n = (100 ≤ n) × (n ≤ 199)

-- in a state that every rule of the pile allows, a possible event is refused with such a number
-- exactly where the rule that refuses it, at an index from 0, is an own one
abbrev pub NumbersTell : List Meaning → (ℕ → Type 0) → Type 0
NumbersTell ms IsOwn = (t : Tables) (c : Cells) (e : Event) (number subject place : ℕ)
    → Lawful t → Fits t c → Possible t c e → Every (λ m. m.allowed t c) ms
    → (top : Topmost ms t c e number subject place) → IsOwnNumber number ↔ IsOwn top.rule
