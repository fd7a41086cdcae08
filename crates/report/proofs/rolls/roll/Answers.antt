use Rattle.std.proofs.lemmas.Result.{IfOk-weaker}
use Rattle.std.proofs.Common.{IfOk, string_bytes}
use Rattle.policy.specs.declared.tables.Tables.{Tables}
use Rattle.monitor.specs.Apart.{StaticallyApart}
use Rattle.monitor.specs.declared.states.Cells.{Cells}
use Rattle.families.specs.AssignmentConflicts.{Unshared}
use Rattle.families.specs.Cardinality.{SeatsWithin}
use Rattle.families.specs.CardinalityLaws.{seats_within}
use Rattle.families.specs.House.{house_rules}
use Rattle.report.specs.RollLaw.{RollLaw, KeptRollLaw}
use Rattle.report.proofs.RollLaws.{Gives, kept_roll_law}
use Rattle.report.proofs.rolls.roll.Goals as goal

pub returns : goal.returns
returns c = record {
  text = c.roll_by.ensures.text;
  verdict = c.roll_by.ensures.verdict;
  law = kept StaticallyApart (λ t es rs d run. run.separated 1 (c.house.ensures.separates t));
  unshared = kept Unshared (λ t es rs d run. run.allowed.1.1.0);
  seats = kept SeatsWithin (λ t es rs d run. seats_within t d run.fits run.allowed.0);
}
  where
    kept : (Holds : Tables → Cells → Type 0) → Gives Holds house_rules
        → IfOk c.roll_by.result
        (λ t. KeptRollLaw Holds house_rules c.args.bytes.now (string_bytes t))
    kept Holds gives =
        IfOk-weaker c.roll_by.result
        (λ t. RollLaw house_rules c.args.bytes.now (string_bytes t))
        (λ t. KeptRollLaw Holds house_rules c.args.bytes.now (string_bytes t))
        (λ t. kept_roll_law Holds house_rules gives c.args.bytes.now (string_bytes t))
        c.roll_by.ensures.law
