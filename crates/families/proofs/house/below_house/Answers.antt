use Rattle.families.specs.HousePilesLaws.{separates-below_house}
use Rattle.families.proofs.house.below_house.Goals as goal

pub returns-clause-separates : goal.returns-clause-separates
returns-clause-separates g c = separates-below_house (g.P.Rule.rules c.args.pile)
