use Rattle.std.proofs.Common.{◌≡◌, true}
use Rattle.policy.specs.Approved.{tables_of, policy_of}
use Rattle.policy.specs.Reading.{reading}
use Rattle.report.specs.Judging.{judgement_of, is_refused}
use Rattle.benchmark.specs.Repeats.{held_over}
use Rattle.benchmark.proofs.check_over.Given as goal

abbrev pub invariant-loop : goal.invariant-loop
invariant-loop l = record {
  policy : tables_of (policy_of l.held)
      ≡ held_over l.counter (reading l.bytes) (tables_of (policy_of l.initial.held));
  refused : is_refused (judgement_of (reading l.bytes)) ≡ true → l.held ≡ l.initial.held;
}
