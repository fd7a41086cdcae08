use Rattle.families.specs.CardinalityLaws.{seats_within}
use Rattle.families.specs.HouseLaws.{house-apart}
use Rattle.families.proofs.house.decide.Goals as goal

pub returns : goal.returns
returns c =
    let is = c.decide.ensures in
    record {
      answer = is.answer;
      state = is.state;
      same = is.same;
      refused = is.refused;
      law = is.law;
      apart = λ es rs past.
          house-apart c.args.monitor.now.governed.policy.draft.tables
          c.decide.new.self.governed.state.cells (is.law es rs past).allowed;
      unshared = λ es rs past. (is.law es rs past).allowed.1.1.0;
      seats = λ es rs past.
          let law = is.law es rs past in
          seats_within c.args.monitor.now.governed.policy.draft.tables
          c.decide.new.self.governed.state.cells law.fits law.allowed.0;
    }
