use Rattle.families.specs.HousePilesLaws.{house_below_own, own_above_house-tell}
use Rattle.families.proofs.house.own_above_house.Goals as goal

pub returns : goal.returns
returns g c =
    let is = c.above_house.ensures in
    let rules = g.R.Rule.rules c.args.rule in
    let confined = g.met.R.OwnRule.confined c.args.rule in
    record {
      value = is.value;
      separates = is.separates;
      confined = confined;
      below = house_below_own;
      tells = own_above_house-tell rules confined;
    }
