use Rattle.std.proofs.Common.{◌-◌, length}
use Rattle.monitor.specs.RowLaws.{Filling}
use Rattle.monitor.specs.Monitors.{SamePolicy}
use Rattle.monitor.proofs.run.fill.Given as goal

abbrev pub invariant-loop-filled : goal.invariant-loop-filled
invariant-loop-filled g l =
    let m = l.initial.monitor in
    Filling (g.P.Rule.rules m.pile) m.governed l.initial.rows l.bytes
    l.filled (length l.bytes - length l.rest) l.rest l.rows l.monitor.governed.state.cells
    × SamePolicy m l.monitor
