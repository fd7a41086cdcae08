use Rattle.std.proofs.Common.{refl}
use Rattle.families.specs.AssignmentConflictsLaws.{assignment_conflicts_exact}
use Rattle.families.specs.CardinalityLaws.{cardinality_exact}
use Rattle.families.specs.DependencyLaws.{dependency_exact}
use Rattle.families.specs.HoldingsLaws.{judges_holdings}
use Rattle.families.specs.HouseLaws.{house-apart}
use Rattle.families.specs.RequirementsLaws.{precedence_admits_what_stands}
use Rattle.families.specs.SeparationLaws.{separation_exact}
use Rattle.families.proofs.house.house.Goals as goal

pub returns : goal.returns
returns c = record {
  value = refl;
  law = house-apart;
  separates = λ t c fits ok. ok.statically;
  cardinality = cardinality_exact;
  separation = separation_exact;
  assignment_conflicts = assignment_conflicts_exact;
  holdings = judges_holdings;
  precedence = precedence_admits_what_stands;
  dependency = dependency_exact;
}
