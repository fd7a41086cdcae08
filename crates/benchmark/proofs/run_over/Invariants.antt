use Rattle.monitor.specs.Governed.{cells_of}
use Rattle.monitor.specs.Monitors.{state_of, SamePolicy}
use Rattle.families.specs.House.{house_rules}
use Rattle.benchmark.proofs.RepeatLaws.{RunsSoFar}
use Rattle.benchmark.proofs.run_over.Given as goal

abbrev pub invariant-loop : goal.invariant-loop
invariant-loop l = record {
  so_far : RunsSoFar house_rules (state_of l.initial.monitor) l.events l.initial.rows l.counter
      l.rows (cells_of (state_of l.monitor)) l.last;
  same : SamePolicy l.initial.monitor l.monitor;
}
