-- What a rule means, its laws, and what a pile of rules rules. Assumes nothing.
--   Meaning    the states that a rule allows, the possible events that it admits, and what it
--              names for others
--   Law        what each rule shows, for every checked policy
--   ruling     the answer of a pile: that of the topmost rule that does not admit the event
-- A pile is one rule, or two piles, the upper above the lower. A place counts its rules from 1 at
-- the top; 255 stands for every place past 254.
use Rattle.std.specs.Prelude.{◌≡◌, ℕ, ◌+◌, ◌≤◌, min, Bool, true, false, if◌then◌else◌, List, [], ◌∷◌, Ok, Err, Result}
use Rattle.records.specs.declared.event.Event.{Event}
use Rattle.policy.specs.declared.tables.Tables.{Tables}
use Rattle.policy.specs.Questions.{Passes}
use Rattle.policy.specs.WellFormed.{WellFormed}
use Rattle.monitor.specs.declared.answers.Reason.{Reason}
use Rattle.monitor.specs.declared.states.Cells.{Cells}
use Rattle.monitor.specs.Authority.{Fits}
use Rattle.monitor.specs.Cells.{blank}
use Rattle.monitor.specs.Changes.{next}
use Rattle.monitor.specs.Possible.{Possible}

pub record Meaning : Type 1 where
  pub allowed : Tables → Cells → Type 0
  pub admits : Tables → Cells → Event → Bool
  pub number : Tables → Cells → Event → ℕ
  pub subject : Tables → Cells → Event → ℕ

-- the tables of a checked policy
pub record Lawful (t : Tables) : Type 0 where
  pub formed : WellFormed t
  pub passes : Passes t

pub record Law (m : Meaning) : Type 0 where
  -- it allows the new state
  pub fresh : (t : Tables) → Lawful t → m.allowed t blank
  -- from a state that it allows, a possible event that it admits leads to a state that it allows
  pub keeps : (t : Tables) (c : Cells) (e : Event) → Lawful t → Fits t c → Possible t c e
      → m.allowed t c → m.admits t c e ≡ true → m.allowed t (next t c e)
  -- the number that it names for a possible event that it does not admit, in a state that it
  -- allows, is never that of a grant, and fits a byte
  pub named : (t : Tables) (c : Cells) (e : Event) → Lawful t → Fits t c → Possible t c e
      → m.allowed t c → m.admits t c e ≡ false → (1 ≤ m.number t c e) × (m.number t c e ≤ 255)

abbrev pub Every : (Meaning → Type 0) → List Meaning → Type 0
Every P [] = Unit {0}
Every P (m ∷ ms) = P m × Every P ms

abbrev pub Ruling : Type 0
Ruling = Result (Unit {0}) Reason

-- a reason of the lower pile, n places further down
abbrev pub lowered : ℕ → Reason → Reason
lowered n r = record { number = r.number; subject = r.subject; place = min 255 (n + r.place) }

abbrev pub deeper : ℕ → Ruling → Ruling
deeper n (Ok x) = Ok x
deeper n (Err r) = Err (lowered n r)

abbrev pub own_reason : Meaning → Tables → Cells → Event → Reason
own_reason m t c e = record { number = m.number t c e; subject = m.subject t c e; place = 1 }

abbrev pub ruling : List Meaning → Tables → Cells → Event → Ruling
ruling [] t c e = Ok tt
ruling (m ∷ ms) t c e =
    if m.admits t c e then deeper 1 (ruling ms t c e) else Err (own_reason m t c e)
