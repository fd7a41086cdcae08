-- The text of each line of the roll. Assumes nothing.
--   policy_line, policy_text       what the first line says of a judgement, and its text
--   judgement_text, first_line     of a judgement, the text and the line
--   verdict_line                   the line of a policy of n bytes with this verdict
--   row_text                       of a row, after its index
--   end_line, end_text             what the last line says of an outcome, and its text
use Rattle.std.specs.Prelude.{ℕ, List, [], ◌∷◌, ◌++◌, Ok, Err, Result, codes, decimal, slice_index}
use Rattle.records.specs.declared.fault.Fault.{Fault}
use Rattle.records.specs.Faults as faults
use Rattle.policy.specs.Verdicts.{Verdict, number_of, names_of}
use Rattle.monitor.specs.declared.rows.Row.{Row}
use Rattle.monitor.specs.declared.run.Outcome.{Outcome}
use Rattle.monitor.specs.Scripts.{end_number}
use Rattle.report.specs.declared.judging.Judged.{Judged}
use Rattle.report.specs.declared.line.PolicyLine.{PolicyLine}
use Rattle.report.specs.declared.line.EndLine.{EndLine}

-- `policy`, number, place or bytes read, four names
abbrev pub policy_text : ℕ → ℕ → List ℕ → List ℕ
policy_text number figure names =
    codes "policy " ++ (decimal number
    ++ (codes " " ++ (decimal figure
    ++ (codes " " ++ (decimal (slice_index names 0)
    ++ (codes " " ++ (decimal (slice_index names 1)
    ++ (codes " " ++ (decimal (slice_index names 2)
    ++ (codes " " ++ decimal (slice_index names 3)))))))))))

-- a fault with its place, or the verdict with the bytes read
abbrev pub policy_line : Result Judged Fault → PolicyLine
policy_line (Err f) = record {
  number = faults.number_of f;
  figure = faults.place_of f;
  names = 0 ∷ 0 ∷ 0 ∷ 0 ∷ [];
}
policy_line (Ok j) = record {
  number = number_of j.verdict;
  figure = j.bytes;
  names = names_of j.verdict;
}

abbrev pub judgement_text : Result Judged Fault → List ℕ
judgement_text judged =
    let line : PolicyLine = policy_line judged in policy_text line.number line.figure line.names

abbrev pub first_line : Result Judged Fault → List ℕ
first_line judged = judgement_text judged ++ codes "\n"

abbrev pub verdict_line : ℕ → Verdict → List ℕ
verdict_line n v = first_line (Ok (record { bytes = n; verdict = v }))

-- index, kind, number, subject, place, roles
abbrev pub row_text : ℕ → Row → List ℕ
row_text index row =
    decimal index ++ (codes " " ++ (decimal row.kind
    ++ (codes " " ++ (decimal row.number
    ++ (codes " " ++ (decimal row.subject
    ++ (codes " " ++ (decimal row.place
    ++ (codes " " ++ decimal row.roles.bits)))))))))

-- `end`, rows, bytes of their events, number
abbrev pub end_text : ℕ → ℕ → ℕ → List ℕ
end_text rows bytes number =
    codes "end " ++ (decimal rows
    ++ (codes " " ++ (decimal bytes
    ++ (codes " " ++ decimal number))))

abbrev pub end_line : Outcome → EndLine
end_line o = record { rows = o.rows; bytes = o.bytes; number = end_number o.end }
