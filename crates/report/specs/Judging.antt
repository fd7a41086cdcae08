-- What is judged of an input: a fault of its policy, or the verdict on it. Assumes nothing.
--   judgement_of       what a reading comes to: its fault, or the bytes read and the verdict
--   held_after         the tables of the policy that is held after it
--   is_refused         a record was at fault, or the verdict is a failure
--   IsRightJudgement   where a policy was read, the verdict is the right one: that of the questions
use Rattle.std.specs.Prelude.{ℕ, Bool, true, if◌then◌else◌, is_ok, is_err, Ok, Err, Result}
use Rattle.records.specs.declared.fault.Fault.{Fault}
use Rattle.policy.specs.declared.tables.Tables.{Tables}
use Rattle.policy.specs.Questions.{Vetted}
use Rattle.policy.specs.Search.{verdict}
use Rattle.report.specs.declared.judging.Judged.{Judged}

abbrev pub judgement_of : Result (Tables × ℕ) Fault → Result Judged Fault
judgement_of (Err f) = Err f
judgement_of (Ok p) = Ok (record { bytes = p.1; verdict = verdict p.0 })

-- the policy that was read, where it passes, and else the one that was held
abbrev pub held_after : Result (Tables × ℕ) Fault → Tables → Tables
held_after (Err f) held = held
held_after (Ok p) held = if is_ok (verdict p.0) then p.0 else held

abbrev pub is_refused : Result Judged Fault → Bool
is_refused (Err f) = true
is_refused (Ok j) = is_err j.verdict

abbrev pub IsRightJudgement : Result (Tables × ℕ) Fault → Result Judged Fault → Type 0
IsRightJudgement (Err f) judged = Unit {0}
IsRightJudgement (Ok p) (Err f) = ⊥
IsRightJudgement (Ok p) (Ok j) = Vetted p.0 j.verdict
