-- The house pile, and what holds in every state that it leads to. Assumes nothing.
use Rattle.std.specs.Prelude.{List, [], ◌∷◌}
use Rattle.records.specs.declared.event.Event.{Event}
use Rattle.policy.specs.declared.tables.Tables.{Tables}
use Rattle.monitor.specs.declared.governed.GovernedState.{GovernedState}
use Rattle.monitor.specs.declared.states.Cells.{Cells}
use Rattle.monitor.specs.Answers.{Answer}
use Rattle.monitor.specs.Apart.{StaticallyApart}
use Rattle.monitor.specs.Governed.{tables_of, cells_of}
use Rattle.monitor.specs.Meaning.{Meaning, Every}
use Rattle.monitor.specs.RunLaw.{RunLaw}
use Rattle.families.specs.AssignmentConflicts.{assignment_conflicts}
use Rattle.families.specs.Cardinality.{cardinality}
use Rattle.families.specs.Dependency.{dependency}
use Rattle.families.specs.Precedence.{precedence}
use Rattle.families.specs.Separation.{separation}

-- from the top
abbrev pub house_rules : List Meaning
house_rules =
    cardinality ∷ separation ∷ assignment_conflicts ∷ precedence ∷ dependency ∷ []

-- a pile in whose allowed states nobody is authorised, even by inheritance, for two roles in static
-- conflict
abbrev pub KeepsApart : List Meaning → Type 0
KeepsApart ms = (t : Tables) (c : Cells) → Every (λ m. m.allowed t c) ms → StaticallyApart t c

-- whatever events led to the state by the house pile, `Holds` is so of the policy's tables and the
-- cells d
abbrev pub Keeps : (Tables → Cells → Type 0) → GovernedState → Cells → Type 0
Keeps Holds g d = (es : List Event) (rs : List Answer)
    → RunLaw house_rules (tables_of g) es rs (cells_of g) → Holds (tables_of g) d
