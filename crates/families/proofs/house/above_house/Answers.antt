use Rattle.families.specs.HousePilesLaws.{separates-above_house}
use Rattle.families.proofs.house.above_house.Goals as goal

pub returns-clause-separates : goal.returns-clause-separates
returns-clause-separates g c = separates-above_house (g.P.Rule.rules c.args.pile)
