use Rattle.std.proofs.lemmas.Result.{IfOk-weaker}
use Rattle.std.proofs.Common.{◌≡◌, IfOk, ◌++◌, string_bytes, subst}
use Rattle.families.specs.House.{house_rules}
use Rattle.report.specs.Roll.{roll_text}
use Rattle.report.specs.RollLaw.{RollLaw, ApartRollLaw}
use Rattle.report.proofs.RollLaws.{apart_roll_law}
use Rattle.report.proofs.rolls.roll_with_own_below.Goals as goal

pub returns : goal.returns
returns g c =
    let own = g.R.Rule.rules c.args.rule in
    let pile = c.own_below_house.ensures.value in
    record {
      text = subst (λ p. IfOk c.roll_by.result
          (λ t. string_bytes t
          ≡ roll_text (house_rules ++ g.R.Rule.rules p.lower) c.args.bytes.now))
          pile c.roll_by.ensures.text;
      verdict = c.roll_by.ensures.verdict;
      law = IfOk-weaker c.roll_by.result
          (λ t. RollLaw (house_rules ++ own) c.args.bytes.now (string_bytes t))
          (λ t. ApartRollLaw (house_rules ++ own) c.args.bytes.now (string_bytes t))
          (λ t law. apart_roll_law (house_rules ++ own) 1
          c.own_below_house.ensures.separates c.args.bytes.now (string_bytes t) law)
          (subst (λ p. IfOk c.roll_by.result (λ t.
          RollLaw (house_rules ++ g.R.Rule.rules p.lower) c.args.bytes.now (string_bytes t)))
          pile c.roll_by.ensures.law);
    }
