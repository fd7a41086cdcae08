-- The events of a shift, by how they are answered in the state that it begins in. Assumes nothing.
--   answer_after      what an event is answered after these events
--   is_granted        it is granted there
--   preparation       user 0 has role 1, user 1 has role 3, and both roles are enabled
--   scanning_open     and session 0 is opened by user 0
--   checking_open     and session 1 by user 1
--   both_active       and the roles are activated there
--   work_events       those of the day, as far as the openings are granted
--   evening_events    session 0 opened by user 0, who moves to session 1 where that is granted
--   late_events       those of the evening, and session 1 opened by user 1, and closed again where
--                     that is granted
--   morning_events    those of the next morning: session 1 opened by user 1, and closed
--   restart_row       what a room that has decided a journal would answer the opening of session 1
use Rattle.std.specs.Prelude.{if◌then◌else◌, Bool, List, [], ◌∷◌, ◌++◌}
use Rattle.records.specs.declared.event.Event.{Event}
use Rattle.records.specs.declared.event.Event.TheVariants.{Assign, Enable, Open, Close, Activate}
use Rattle.policy.specs.declared.tables.Tables.{Tables}
use Rattle.policy.specs.Reading.{reading, draft_of}
use Rattle.policy.specs.Worked as worked
use Rattle.monitor.specs.Answers.{Answer}
use Rattle.monitor.specs.declared.rows.Row.{Row}
use Rattle.monitor.specs.Counts.{granted}
use Rattle.monitor.specs.declared.governed.GovernedState.{GovernedState}
use Rattle.monitor.specs.Governed.{tables_of, state_after_all}
use Rattle.monitor.specs.Cells.{blank}
use Rattle.monitor.specs.History.{reply, after}
use Rattle.monitor.specs.Rows.{row_of}
use Rattle.families.specs.House.{house_rules}
use Rattle.shift.specs.Tickets.{both_closings, moving}

-- by the house pile
abbrev pub answer_after : GovernedState → List Event → Event → Answer
answer_after g es e = reply house_rules (tables_of g) (state_after_all house_rules g es) e

abbrev pub is_granted : GovernedState → List Event → Event → Bool
is_granted g es e = granted (answer_after g es e)

abbrev pub preparation : List Event
preparation = Assign 0 1 ∷ Assign 1 3 ∷ Enable 1 ∷ Enable 3 ∷ []

abbrev pub scanning_open : List Event
scanning_open = preparation ++ (Open 0 0 ∷ [])

abbrev pub checking_open : List Event
checking_open = scanning_open ++ (Open 1 1 ∷ [])

abbrev pub both_active : List Event
both_active = checking_open ++ (Activate 0 1 ∷ Activate 1 3 ∷ [])

-- session 0 is closed first
abbrev pub work_events : GovernedState → List Event
work_events g =
    if is_granted g preparation (Open 0 0) then
    (if is_granted g scanning_open (Open 1 1) then
    (both_active ++ both_closings 0 1 (answer_after g both_active (Close 0)))
    else checking_open)
    else scanning_open

abbrev pub evening_events : GovernedState → List Event
evening_events g =
    if is_granted g [] (Open 0 0) then
    (Open 0 0 ∷ moving 0 1 0 (answer_after g (Open 0 0 ∷ []) (Open 1 0)))
    else (Open 0 0 ∷ [])

abbrev pub late_events : GovernedState → List Event
late_events g =
    let evening : List Event = evening_events g in
    evening ++ (Open 1 1 ∷ (if is_granted g evening (Open 1 1) then (Close 1 ∷ []) else []))

abbrev pub morning_events : List Event
morning_events = Open 1 1 ∷ Close 1 ∷ []

-- under the sample policy, from the new state on; the row of what would be answered
abbrev pub restart_row : List Event → Row
restart_row journal =
    let t : Tables = draft_of (reading worked.sample) in
    row_of (Open 1 1) (reply house_rules t (after house_rules t blank journal) (Open 1 1))
