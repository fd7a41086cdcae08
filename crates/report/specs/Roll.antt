-- The roll of an input, as text. Assumes nothing.
--   rows_text      a line for each row, the index counted on
--   whole_script   all the events of a list of bytes
--   script_text    the lines of a script's events, and the last line
--   events_text    the lines of the events in a list of bytes
--   events_part    of a roll, the lines after the first: none where no policy passes
--   roll_text      the roll of an input: the policy's line, and the events' lines where it passes
use Rattle.std.specs.Prelude.{ℕ, ◌+◌, if◌then◌else◌, List, [], ◌∷◌, ◌++◌, length, drop, is_ok, Ok, Err, codes, Result, nat_lt}
use Rattle.records.specs.declared.fault.Fault.{Fault}
use Rattle.policy.specs.declared.tables.Tables.{Tables}
use Rattle.policy.specs.Reading.{reading}
use Rattle.policy.specs.Search.{verdict}
use Rattle.monitor.specs.Answers.{Answer}
use Rattle.monitor.specs.declared.states.Cells.{Cells}
use Rattle.monitor.specs.declared.rows.Row.{Row}
use Rattle.monitor.specs.Cells.{blank}
use Rattle.monitor.specs.History.{replies}
use Rattle.monitor.specs.Meaning.{Meaning}
use Rattle.monitor.specs.Rows.{rows_of}
use Rattle.monitor.specs.Scripts.{Script, end_number, script}
use Rattle.report.specs.Judging.{judgement_of}
use Rattle.report.specs.Texts.{first_line, row_text, end_text}

abbrev pub rows_text : ℕ → List Row → List ℕ
rows_text index [] = []
rows_text index (row ∷ rows) = (row_text index row ++ codes "\n") ++ rows_text (index + 1) rows

-- every event takes at least one byte, so there are rows enough
abbrev pub whole_script : List ℕ → Script
whole_script bytes = script (length bytes) bytes 0

abbrev pub script_text : Script → List Answer → List ℕ
script_text s rs =
    rows_text 0 (rows_of s.events rs)
    ++ (end_text (length s.events) s.bytes (end_number s.end) ++ codes "\n")

-- decided by the rules of a pile, from a state
abbrev pub events_text : List Meaning → Tables → Cells → List ℕ → List ℕ
events_text ms t c bytes =
    let s : Script = whole_script bytes in script_text s (replies ms t c s.events)

-- the events follow a policy that passes, and are decided from the new state
abbrev pub events_part : List Meaning → Result (Tables × ℕ) Fault → List ℕ → List ℕ
events_part ms (Err f) bytes = []
events_part ms (Ok p) bytes =
    if is_ok (verdict p.0) then events_text ms p.0 blank (drop p.1 bytes) else []

-- an input of more than 65,536 bytes is not read
abbrev pub roll_text : List Meaning → List ℕ → List ℕ
roll_text ms bytes =
    if nat_lt 65536 (length bytes) then codes "input 9\n"
    else (first_line (judgement_of (reading bytes)) ++ events_part ms (reading bytes) bytes)
