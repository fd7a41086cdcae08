use Rattle.std.proofs.Common.{◌≡◌, ◌+◌, ◌++◌, drop, string_bytes}
use Rattle.report.specs.Roll.{rows_text}
use Rattle.report.proofs.events.write_rows.Given as goal

abbrev pub invariant-loop-i : goal.invariant-loop-i
invariant-loop-i l =
    string_bytes l.text ++ rows_text (l.index + l.i) (drop l.i l.rows) ≡ string_bytes l.initial.text
    ++ rows_text l.index l.rows
