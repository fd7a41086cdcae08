-- The law over whole runs, of the very events and answers that a roll prints. Assumes nothing.
--   OnRoll, RollLaw              by the rules of a pile, of an input and its printed roll
--   OnKeptRoll, KeptRollLaw      the same, with what is kept in the state after the last event
--   ApartRollLaw                 what is kept where separation is in the pile
--   HouseRollLaw                 the same of the house pile
use Rattle.std.specs.Prelude.{◌≡◌, ℕ, ◌≤◌, List, ◌++◌, length, drop, Ok}
use Rattle.policy.specs.declared.tables.Tables.{Tables}
use Rattle.policy.specs.Questions.{Passes}
use Rattle.policy.specs.Reading.{reading}
use Rattle.monitor.specs.Answers.{Answer}
use Rattle.monitor.specs.Apart.{StaticallyApart}
use Rattle.monitor.specs.declared.states.Cells.{Cells}
use Rattle.monitor.specs.RunLaw.{RunLaw}
use Rattle.monitor.specs.Meaning.{Meaning}
use Rattle.families.specs.House.{house_rules}
use Rattle.report.specs.Roll.{whole_script, script_text}
use Rattle.report.specs.Texts.{verdict_line}

-- a policy of n bytes with these tables passed, and after its line stand all the events of the
-- bytes after it with their answers
pub record OnRoll (ms : List Meaning) (t : Tables) (n : ℕ) (bytes text : List ℕ) : Type 0 where
  pub answers : List Answer
  pub state : Cells
  pub printed : text
      ≡ verdict_line n (Ok tt) ++ script_text (whole_script (drop n bytes)) answers
  pub run_law : RunLaw ms t (whole_script (drop n bytes)).events answers state

-- where the input is read and its policy passes: no question has a witness
abbrev pub RollLaw : List Meaning → List ℕ → List ℕ → Type 0
RollLaw ms bytes text = (t : Tables) (n : ℕ) → length bytes ≤ 65536
    → reading bytes ≡ Ok (t, n) → Passes t → OnRoll ms t n bytes text

-- and after them `Holds` is so of the policy's tables and the state
pub record OnKeptRoll (Holds : Tables → Cells → Type 0) (ms : List Meaning) (t : Tables) (n : ℕ)
    (bytes text : List ℕ) : Type 0 where
  pub roll : OnRoll ms t n bytes text
  pub kept : Holds t roll.state

abbrev pub KeptRollLaw : (Tables → Cells → Type 0) → List Meaning → List ℕ → List ℕ → Type 0
KeptRollLaw Holds ms bytes text = (t : Tables) (n : ℕ) → length bytes ≤ 65536
    → reading bytes ≡ Ok (t, n) → Passes t → OnKeptRoll Holds ms t n bytes text

-- nobody is authorised, even by inheritance, for two roles in static conflict
abbrev pub ApartRollLaw : List Meaning → List ℕ → List ℕ → Type 0
ApartRollLaw ms bytes text = KeptRollLaw StaticallyApart ms bytes text

abbrev pub HouseRollLaw : List ℕ → List ℕ → Type 0
HouseRollLaw bytes text = ApartRollLaw house_rules bytes text
