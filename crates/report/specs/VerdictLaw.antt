-- What the first line of a roll says of a policy that was read. Assumes nothing.
--   OnFirstLine    a verdict stands there, and it is the right one
--   VerdictLaw     so it is on the roll of every input whose policy is read
use Rattle.std.specs.Prelude.{◌≡◌, ℕ, ◌≤◌, List, [], ◌++◌, length, Ok, Err}
use Rattle.policy.specs.declared.tables.Tables.{Tables}
use Rattle.policy.specs.declared.verdict.Failure.{Failure}
use Rattle.policy.specs.Questions.{Vetted}
use Rattle.policy.specs.Reading.{reading}
use Rattle.policy.specs.Verdicts.{Verdict}
use Rattle.report.specs.Texts.{verdict_line}

-- passed exactly when no question has a witness, else the soonest question that has one, with its
-- lowest witness; after a failure nothing more is printed
pub record OnFirstLine (t : Tables) (n : ℕ) (text : List ℕ) : Type 0 where
  pub verdict : Verdict
  pub right : Vetted t verdict
  pub more : List ℕ
  pub printed : text ≡ verdict_line n verdict ++ more
  pub alone : (f : Failure) → verdict ≡ Err f → more ≡ []

abbrev pub VerdictLaw : List ℕ → List ℕ → Type 0
VerdictLaw bytes text = (t : Tables) (n : ℕ) → length bytes ≤ 65536
    → reading bytes ≡ Ok (t, n) → OnFirstLine t n text
