use Rattle.std.proofs.Common.{length, string_bytes, refl, arith}
use Rattle.monitor.specs.Governed.{tables_of, cells_of}
use Rattle.monitor.specs.MonitorLaws.{also_same}
use Rattle.monitor.specs.Monitors.{state_of, pile_of}
use Rattle.report.proofs.EventLines.{no_row_left, some_other_end, rest_shorter, none_so_far, runs_go_on, runs_end}
use Rattle.report.proofs.events.write_events.Goals as goal

pub loop-count-init : goal.loop-count-init
loop-count-init g c =
    let m = c.args.monitor.now in record {
      so_far = none_so_far (g.P.Rule.rules (pile_of m)) (tables_of (state_of m))
          (cells_of (state_of m)) c.args.bytes.now _;
      same = record { policy = refl; pile = refl };
      room = refl;
    }

pub loop-count-smaller : goal.loop-count-smaller
loop-count-smaller g c =
    rest_shorter (length c.loop-count.rows) c.loop-count.rest.now c.run-outcome.result
    c.run-outcome.ensures.answer (omega (arith, c.loop-count.invariant.room))
    (no_row_left c.run-outcome.result.end c.ne.ensures c.if-ne.false)

pub loop-count-preserved : goal.loop-count-preserved
loop-count-preserved g c =
    let is = c.run-outcome.ensures in record {
      so_far = runs_go_on g.P.Rule.rules c.args.monitor.now c.loop-count.monitor
          c.run-outcome.new.monitor c.loop-count.invariant.same
          c.args.bytes.now _ c.loop-count.rows c.run-outcome.new.rows c.loop-count.invariant.so_far
          c.run-outcome.result is.answer is.rows is.state
          (string_bytes c.write_rows.new.text) c.in_ok-write_rows.ensures
          (no_row_left c.run-outcome.result.end c.ne.ensures c.if-ne.false);
      same = also_same c.loop-count.invariant.same is.same;
      room = omega (arith, c.run-outcome.auto.rows, c.loop-count.invariant.room);
    }

pub returns-then-ne : goal.returns-then-ne
returns-then-ne g c =
    let is = c.run-outcome.ensures in
    runs_end g.P.Rule.rules c.args.monitor.now c.loop-count.monitor c.run-outcome.new.monitor
    c.loop-count.invariant.same
    c.args.bytes.now _ c.loop-count.rows c.run-outcome.new.rows c.loop-count.invariant.so_far
    c.run-outcome.result is.answer is.rows is.state
    (string_bytes c.write_rows.new.text) c.in_ok-write_rows.ensures
    (some_other_end c.run-outcome.result.end c.ne.ensures c.if-ne.true)
    _ refl c.from-line.result c.from-line.ensures
    (string_bytes c.writeln.new.self) c.in_ok-writeln.ensures.bytes
