-- The granted events of a list, by themselves: a journal. Assumes nothing.
--   granted_events    the events of a list that were granted
--   granted_answers   the answers that are grants
--   all_granted       each answer of a list is a grant
--   GrantedAgain      the granted events, decided from the new state, are all granted again
--   Resumes           of a list that is the journal of some other: it leads where that one led
use Rattle.std.specs.Prelude.{◌≡◌, Bool, true, ◌&&◌, if◌then◌else◌, List, [], ◌∷◌}
use Rattle.records.specs.declared.event.Event.{Event}
use Rattle.policy.specs.declared.tables.Tables.{Tables}
use Rattle.monitor.specs.Answers.{Answer}
use Rattle.monitor.specs.declared.states.Cells.{Cells}
use Rattle.monitor.specs.Cells.{blank}
use Rattle.monitor.specs.Counts.{granted}
use Rattle.monitor.specs.History.{replies, after}
use Rattle.monitor.specs.Meaning.{Meaning}

abbrev pub granted_events : List Event → List Answer → List Event
granted_events [] rs = []
granted_events (e ∷ es) [] = []
granted_events (e ∷ es) (a ∷ rs) =
    if granted a then e ∷ granted_events es rs else granted_events es rs

abbrev pub granted_answers : List Answer → List Answer
granted_answers [] = []
granted_answers (a ∷ rs) = if granted a then a ∷ granted_answers rs else granted_answers rs

abbrev pub all_granted : List Answer → Bool
all_granted [] = true
all_granted (a ∷ rs) = granted a && all_granted rs

-- of events that were answered rs and led to the state c: the granted ones by themselves have the
-- same answers, which are all grants, and lead to the same state
pub record GrantedAgain (ms : List Meaning) (t : Tables) (es : List Event) (rs : List Answer)
    (c : Cells) : Type 0 where
  pub answers : replies ms t blank (granted_events es rs) ≡ granted_answers rs
  pub all : all_granted (replies ms t blank (granted_events es rs)) ≡ true
  pub state : after ms t blank (granted_events es rs) ≡ c

-- where these events are the granted ones of some list, they are all granted, and the state c is
-- the one that the list led to
abbrev pub Resumes : List Meaning → Tables → List Event → Cells → Type 0
Resumes ms t journal c = (es : List Event) → journal ≡ granted_events es (replies ms t blank es)
    → (all_granted (replies ms t blank journal) ≡ true) × (c ≡ after ms t blank es)
