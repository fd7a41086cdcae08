-- What the monitor answers to each event of a list, and the state after them. Assumes nothing.
--   refusal           why an event is refused: it is not possible, or a rule does not admit it
--   reply, step       the answer to one event, and the state after it
--   replies, after    the same of a list of events, one after the other
use Rattle.std.specs.Prelude.{ℕ, List, [], ◌∷◌, Some, None, Ok, Err, Option}
use Rattle.records.specs.declared.event.Event.{Event}
use Rattle.policy.specs.declared.tables.Tables.{Tables}
use Rattle.monitor.specs.Answers.{Answer}
use Rattle.monitor.specs.declared.answers.Refusal.{Refusal}
use Rattle.monitor.specs.declared.answers.Refusal.TheVariants.{Impossible, Refused}
use Rattle.monitor.specs.declared.answers.Impossibility.{Impossibility}
use Rattle.monitor.specs.declared.states.Cells.{Cells}
use Rattle.monitor.specs.Changes.{next, listed}
use Rattle.monitor.specs.Meaning.{Meaning, Ruling, ruling}
use Rattle.monitor.specs.Possible.{impossibility}

-- the pile is asked only about a possible event
abbrev pub first_refusal : Option Impossibility → Ruling → Option Refusal
first_refusal (Some why) v = Some (Impossible why)
first_refusal None (Err reason) = Some (Refused reason)
first_refusal None (Ok _) = None

abbrev pub refusal : List Meaning → Tables → Cells → Event → Option Refusal
refusal ms t c e = first_refusal (impossibility t c e) (ruling ms t c e)

-- where it is not refused, it is granted with the roles that it lists
abbrev pub answer_unless : Option Refusal → ℕ → Answer
answer_unless (Some r) roles = Err r
answer_unless None roles = Ok (record { bits = roles })

-- only a grant changes the state
abbrev pub state_unless : Option Refusal → Cells → Cells → Cells
state_unless (Some r) before after = before
state_unless None before after = after

abbrev pub reply : List Meaning → Tables → Cells → Event → Answer
reply ms t c e = answer_unless (refusal ms t c e) (listed c e)

abbrev pub step : List Meaning → Tables → Cells → Event → Cells
step ms t c e = state_unless (refusal ms t c e) c (next t c e)

abbrev pub replies : List Meaning → Tables → Cells → List Event → List Answer
replies ms t c [] = []
replies ms t c (e ∷ es) = reply ms t c e ∷ replies ms t (step ms t c e) es

abbrev pub after : List Meaning → Tables → Cells → List Event → Cells
after ms t c [] = c
after ms t c (e ∷ es) = after ms t (step ms t c e) es
