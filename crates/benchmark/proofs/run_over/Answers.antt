use Rattle.std.proofs.Common.{refl}
use Rattle.monitor.specs.Governed.{cells_of}
use Rattle.monitor.specs.MonitorLaws.{also_same}
use Rattle.monitor.specs.Monitors.{state_of}
use Rattle.families.specs.House.{house_rules}
use Rattle.benchmark.proofs.RepeatLaws.{run_again}
use Rattle.benchmark.proofs.run_over.Goals as goal

pub loop-init : goal.loop-init
loop-init c = record {
  so_far = record { rows-are = refl; state = refl; answer = refl };
  same = record { policy = refl; pile = refl };
}

pub loop-preserved : goal.loop-preserved
loop-preserved c =
    let is = c.run-last.ensures in record {
      so_far = run_again house_rules (state_of c.args.monitor.now) c.args.events.now
          c.args.rows.now c.loop.counter (state_of c.loop.monitor) c.loop.rows c.run-last.new.rows
          (cells_of (state_of c.run-last.new.monitor)) c.loop.last c.run-last.result
          c.loop.invariant.so_far c.loop.invariant.same.policy c.loop.auto.rows is.rows is.state
          is.answer;
      same = also_same c.loop.invariant.same is.same;
    }
