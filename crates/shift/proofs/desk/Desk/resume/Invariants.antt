use Rattle.std.proofs.Common.{◌≡◌, ◌++◌}
use Rattle.std.specs.Iterator.Adapters.{zip_first, zip_second}
use Rattle.std.specs.Slice.Iter.{iter_rest}
use Rattle.monitor.specs.Rows.{rows_of}
use Rattle.shift.proofs.desk.Desk.resume.Given as goal

-- the rows so far, and those of what is left
abbrev pub invariant-loop-event : goal.invariant-loop-event
invariant-loop-event l =
    l.rows.items ++ rows_of (iter_rest (zip_first l.event-iterator))
    (iter_rest (zip_second l.event-iterator))
    ≡ rows_of (iter_rest (zip_first l.initial.event-iterator))
    (iter_rest (zip_second l.initial.event-iterator))
