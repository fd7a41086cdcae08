-- Whole runs in the rules' own words, as a relation. Assumes nothing.
--   Topmost    which rule of the pile refuses an event, and what it names
--   Ruled      a possible event is refused exactly when some rule does not admit it
--   Ran        a list of events, each not possible, refused by the topmost rule that does not admit
--              it, or admitted by all and done; each rule is consulted in a state that it allows
use Rattle.std.specs.Prelude.{◌≡◌, ℕ, ◌+◌, ◌<◌, ◌≤◌, min, Bool, true, false, List, [], ◌∷◌, length, Some, Ok, Err, slice_index, slice_index_or}
use Rattle.records.specs.declared.event.Event.{Event}
use Rattle.policy.specs.declared.tables.Tables.{Tables}
use Rattle.monitor.specs.declared.answers.Refusal.TheVariants.{Impossible, Refused}
use Rattle.monitor.specs.declared.answers.Impossibility.{Impossibility}
use Rattle.monitor.specs.declared.answers.Reason.{Reason}
use Rattle.monitor.specs.declared.states.Cells.{Cells}
use Rattle.monitor.specs.Answers.{Answer, number_of, subject_of, place_of}
use Rattle.monitor.specs.Changes.{next, listed}
use Rattle.monitor.specs.Meaning.{Meaning, Every}
use Rattle.monitor.specs.Possible.{impossibility, Possible}

-- what each rule says of the event, from the top: whether it admits it, and the number and subject
-- that it has for it
abbrev pub admissions : List Meaning → Tables → Cells → Event → List Bool
admissions [] t c e = []
admissions (m ∷ ms) t c e = m.admits t c e ∷ admissions ms t c e

abbrev pub numbers : List Meaning → Tables → Cells → Event → List ℕ
numbers [] t c e = []
numbers (m ∷ ms) t c e = m.number t c e ∷ numbers ms t c e

abbrev pub subjects : List Meaning → Tables → Cells → Event → List ℕ
subjects [] t c e = []
subjects (m ∷ ms) t c e = m.subject t c e ∷ subjects ms t c e

-- the topmost rule that does not admit the event, at an index from 0, names this number and subject
-- at this place
pub record Topmost (ms : List Meaning) (t : Tables) (c : Cells) (e : Event)
    (number subject place : ℕ) : Type 0 where
  pub rule : ℕ
  pub among : rule < length ms
  pub refuses : slice_index_or (admissions ms t c e) rule true ≡ false
  pub above : (k : ℕ) → k < rule → slice_index_or (admissions ms t c e) k false ≡ true
  pub its_number : number ≡ slice_index (numbers ms t c e) rule
  pub its_subject : subject ≡ slice_index (subjects ms t c e) rule
  pub its_place : place ≡ min 255 (rule + 1)

-- a possible event is refused exactly when some rule does not admit it, and then by the topmost
-- such rule
pub record Ruled (ms : List Meaning) (t : Tables) (c : Cells) (e : Event) (a : Answer)
    : Type 0 where
  pub refused_by : 1 ≤ number_of a → Topmost ms t c e (number_of a) (subject_of a) (place_of a)
  pub refused_if : (k : ℕ) → k < length ms
      → slice_index_or (admissions ms t c e) k true ≡ false → 1 ≤ number_of a

pub data Ran (ms : List Meaning) (t : Tables)
    : Cells → List Event → List Answer → Cells → Type 0 where
  done : (c : Cells) → Ran ms t c [] [] c
  impossible : (c z : Cells) (e : Event) (es : List Event) (rs : List Answer) (why : Impossibility)
      → impossibility t c e ≡ Some why
      → Ran ms t c es rs z → Ran ms t c (e ∷ es) (Err (Impossible why) ∷ rs) z
  refused : (c z : Cells) (e : Event) (es : List Event) (rs : List Answer) (r : Reason)
      → Possible t c e → Every (λ m. m.allowed t c) ms
      → Topmost ms t c e r.number r.subject r.place
      → Ran ms t c es rs z → Ran ms t c (e ∷ es) (Err (Refused r) ∷ rs) z
  admitted_by_all : (c z : Cells) (e : Event) (es : List Event) (rs : List Answer)
      → Possible t c e → Every (λ m. m.allowed t c) ms
      → Every (λ m. m.admits t c e ≡ true) ms
      → Ran ms t (next t c e) es rs z
      → Ran ms t c (e ∷ es) (Ok (record { bits = listed c e }) ∷ rs) z
