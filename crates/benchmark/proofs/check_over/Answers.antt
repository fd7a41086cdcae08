use Rattle.std.proofs.Common.{ap, ◌∙◌}
use Rattle.policy.specs.Approved.{tables_of, policy_of}
use Rattle.policy.specs.Reading.{reading}
use Rattle.report.specs.Judging.{is_refused}
use Rattle.benchmark.proofs.RepeatLaws.{checked_again}
use Rattle.benchmark.proofs.check_over.Goals as goal

pub loop-preserved : goal.loop-preserved
loop-preserved c =
    let is = c.read_and_check.ensures in record {
      policy = checked_again c.loop.counter (reading c.args.bytes.now)
          (tables_of (policy_of c.args.held.now)) (tables_of (policy_of c.loop.held)) _
          c.loop.invariant.policy is.policy;
      refused = λ h. is.refused (ap is_refused is.answer ∙ h) ∙ c.loop.invariant.refused h;
    }
