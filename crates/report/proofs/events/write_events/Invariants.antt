use Rattle.std.proofs.Common.{◌≡◌, length, string_bytes}
use Rattle.monitor.specs.Governed.{tables_of, cells_of}
use Rattle.monitor.specs.Monitors.{state_of, pile_of, SamePolicy}
use Rattle.report.proofs.EventLines.{RunsSoFar}
use Rattle.report.specs.Roll.{whole_script}
use Rattle.report.proofs.events.write_events.Given as goal

abbrev pub invariant-loop-count : goal.invariant-loop-count
invariant-loop-count g l =
    let m = l.initial.monitor in
    let t = tables_of (state_of m) in record {
      so_far : RunsSoFar (g.P.Rule.rules (pile_of m)) t (cells_of (state_of m)) l.bytes
          (string_bytes l.initial.text)
          l.count l.rest (string_bytes l.text) (cells_of (state_of l.monitor))
          (whole_script l.rest);
      same : SamePolicy m l.monitor;
      room : length l.rows ≡ 1024;
    }

abbrev pub decreases-loop-count : goal.decreases-loop-count
decreases-loop-count g l = length l.rest
