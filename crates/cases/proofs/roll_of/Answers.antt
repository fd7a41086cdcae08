use Rattle.std.proofs.Common.{◌≡◌, Bool, false, IfOk, ◌++◌, string_bytes, codes, nat_eq, sym, ◌∙◌, subst}
use Rattle.std.specs.List.{starts_with}
use Rattle.families.specs.House.{house_rules}
use Rattle.report.specs.Roll.{roll_text}
use Rattle.report.specs.RollLaw.{ApartRollLaw}
use Rattle.cases.specs.Piles.{own_rules}
use Rattle.cases.proofs.roll_of.Goals as goal

pub returns-then-has_prefix : goal.returns-then-has_prefix
returns-then-has_prefix c =
    let one = starts_with nat_eq c.args.name.now (codes "one-") in
    let is = sym c.if-has_prefix.true ∙ c.has_prefix.ensures in
    record {
      text = subst (λ (own : Bool). IfOk c.roll_with_own_above.result
          (λ t. string_bytes t ≡ roll_text (own_rules own one ++ house_rules) c.args.bytes.now))
          is c.roll_with_own_above.ensures.text;
      law = subst (λ (own : Bool). IfOk c.roll_with_own_above.result
          (λ t. ApartRollLaw (own_rules own one ++ house_rules) c.args.bytes.now (string_bytes t)))
          is c.roll_with_own_above.ensures.law;
    }

pub returns-then-has_prefix-2 : goal.returns-then-has_prefix-2
returns-then-has_prefix-2 c =
    let one = starts_with nat_eq c.args.name.now (codes "one-") in
    let not_own = sym c.if-has_prefix.false ∙ c.has_prefix.ensures in
    let is = sym c.if-has_prefix-2.true ∙ c.has_prefix-else-has_prefix.ensures in
    let roll = c.roll_with_own_above-then-has_prefix-2 in
    record {
      text = subst (λ (own : Bool). IfOk roll.result
          (λ t. string_bytes t ≡ roll_text (own_rules own one ++ house_rules) c.args.bytes.now))
          not_own (subst (λ (b : Bool). IfOk roll.result
          (λ t. string_bytes t ≡ roll_text (own_rules false b ++ house_rules) c.args.bytes.now))
          is roll.ensures.text);
      law = subst (λ (own : Bool). IfOk roll.result
          (λ t. ApartRollLaw (own_rules own one ++ house_rules) c.args.bytes.now (string_bytes t)))
          not_own (subst (λ (b : Bool). IfOk roll.result
          (λ t. ApartRollLaw (own_rules false b ++ house_rules) c.args.bytes.now (string_bytes t)))
          is roll.ensures.law);
    }

pub returns-else-has_prefix-2-clause-law : goal.returns-else-has_prefix-2-clause-law
returns-else-has_prefix-2-clause-law c =
    let one = starts_with nat_eq c.args.name.now (codes "one-") in
    subst (λ (own : Bool). IfOk c.roll.result
    (λ t. ApartRollLaw (own_rules own one ++ house_rules) c.args.bytes.now (string_bytes t)))
    (sym c.if-has_prefix.false ∙ c.has_prefix.ensures)
    (subst (λ (b : Bool). IfOk c.roll.result
    (λ t. ApartRollLaw (own_rules false b ++ house_rules) c.args.bytes.now (string_bytes t)))
    (sym c.if-has_prefix-2.false ∙ c.has_prefix-else-has_prefix.ensures) c.roll.ensures.law)
