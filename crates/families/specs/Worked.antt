-- The worked cases of the written rules, in one joint statement. Assumes nothing.
--   policies   five small policies as bytes, each with its verdict
--   runs       events as bytes, each with its row, decided by the house pile from the new state
--   rulings    what the house pile rules at its boundaries on an event that is possible
use Rattle.std.specs.Prelude.{◌≡◌, ℕ, List, [], ◌∷◌, length, None, Ok, Err}
use Rattle.records.specs.declared.event.Event.{Event}
use Rattle.records.specs.declared.event.Event.TheVariants.{Assign, Deassign, Enable, Open, Close, Activate, Deactivate}
use Rattle.policy.specs.declared.tables.Tables.{Tables}
use Rattle.policy.specs.Reading.{reading, draft_of}
use Rattle.policy.specs.Worked.{Worked, sample}
use Rattle.monitor.specs.declared.states.Cells.{Cells}
use Rattle.monitor.specs.declared.rows.Row.{Row}
use Rattle.monitor.specs.Cells.{blank}
use Rattle.monitor.specs.Changes.{next}
use Rattle.monitor.specs.History.{replies}
use Rattle.monitor.specs.Meaning.{Ruling, ruling}
use Rattle.monitor.specs.Possible.{impossibility}
use Rattle.monitor.specs.Rows.{rows_of}
use Rattle.monitor.specs.Scripts.{Script, script, end_number}
use Rattle.families.specs.House.{house_rules}

-- a state changed by each event in turn
abbrev pub state_from : Tables → Cells → List Event → Cells
state_from t c [] = c
state_from t c (e ∷ es) = state_from t (next t c e) es

-- the same from the state in which nothing stands
abbrev pub state_reached : Tables → List Event → Cells
state_reached t es = state_from t blank es

-- the event is possible, and this is the ruling on it
abbrev pub IsRuledIn : Tables → Cells → Event → Ruling → Type 0
IsRuledIn t c e r = (impossibility t c e ≡ None) × (ruling house_rules t c e ≡ r)

-- the same of the policy that the bytes say, after the events
abbrev pub IsRuled : List ℕ → List Event → Event → Ruling → Type 0
IsRuled policy events e r =
    let t : Tables = draft_of (reading policy) in IsRuledIn t (state_reached t events) e r

-- all the events of the bytes, decided in turn under the policy that the bytes say, have these
-- rows, and no byte is left
abbrev pub RunGives : List ℕ → List ℕ → List Row → Type 0
RunGives policy bytes rows =
    let s : Script = script (length bytes) bytes 0 in
    (rows_of s.events (replies house_rules (draft_of (reading policy)) blank s.events) ≡ rows)
    × (end_number s.end ≡ 0)

abbrev pub row : ℕ → ℕ → ℕ → ℕ → ℕ → Row
row kind number subject place roles = record {
  kind = kind;
  number = number;
  subject = subject;
  place = place;
  roles = record { bits = roles };
}

abbrev pub admitted : Ruling
admitted = Ok tt

-- the number, its subject, and the place of the family: cardinality 1, separation 2, assignment
-- conflicts 3, precedence 4, dependency 5
abbrev pub refused : ℕ → ℕ → ℕ → Ruling
refused number subject place = Err (record { number = number; subject = subject; place = place })

-- the policies

-- role 0 inherits 1 and 2; one user each for 1 and for 2
abbrev pub one_user_each : List ℕ
one_user_each = 1 ∷ 2 ∷ 3 ∷ 1 ∷ 2 ∷ 0 ∷ 1 ∷ 2 ∷ 0 ∷ 2 ∷ 6 ∷ 1 ∷ 1 ∷ 6 ∷ 2 ∷ 1 ∷ 12 ∷ []

-- role 0 inherits 1; two roles for user 0
abbrev pub two_roles : List ℕ
two_roles = 1 ∷ 1 ∷ 3 ∷ 1 ∷ 2 ∷ 0 ∷ 1 ∷ 7 ∷ 0 ∷ 2 ∷ 12 ∷ []

-- one seat for user 0
abbrev pub one_seat : List ℕ
one_seat = 1 ∷ 1 ∷ 2 ∷ 2 ∷ 8 ∷ 0 ∷ 1 ∷ 12 ∷ []

-- the same, and one session for role 0
abbrev pub one_seat_and_session : List ℕ
one_seat_and_session = 1 ∷ 1 ∷ 2 ∷ 2 ∷ 8 ∷ 0 ∷ 1 ∷ 9 ∷ 0 ∷ 1 ∷ 12 ∷ []

-- two seats for user 0
abbrev pub two_seats : List ℕ
two_seats = 1 ∷ 2 ∷ 2 ∷ 3 ∷ 8 ∷ 0 ∷ 2 ∷ 12 ∷ []

-- two sessions for role 0
abbrev pub two_sessions : List ℕ
two_sessions = 1 ∷ 1 ∷ 1 ∷ 3 ∷ 9 ∷ 0 ∷ 2 ∷ 12 ∷ []

-- static pairs 3 with 2 and 3 with 1
abbrev pub static_pairs : List ℕ
static_pairs = 1 ∷ 1 ∷ 4 ∷ 1 ∷ 3 ∷ 3 ∷ 2 ∷ 3 ∷ 3 ∷ 1 ∷ 12 ∷ []

-- a dynamic pair 2 with 1
abbrev pub dynamic_pair : List ℕ
dynamic_pair = 1 ∷ 2 ∷ 3 ∷ 3 ∷ 4 ∷ 2 ∷ 1 ∷ 12 ∷ []

-- for role 0, user 3 conflicts with 2 and with 1
abbrev pub conflicting_users : List ℕ
conflicting_users = 1 ∷ 4 ∷ 1 ∷ 4 ∷ 5 ∷ 0 ∷ 3 ∷ 2 ∷ 5 ∷ 0 ∷ 3 ∷ 1 ∷ 12 ∷ []

-- roles 0 and 2 inherit 1; users 0 and 1, and 0 and 2, may not share an assignment of 1, nor
-- therefore of 0 or 2; users 0 and 3 may not share one of 0
abbrev pub couples : List ℕ
couples =
    1 ∷ 4 ∷ 3 ∷ 1 ∷ 2 ∷ 0 ∷ 1 ∷ 2 ∷ 2 ∷ 1
    ∷ 13 ∷ 1 ∷ 0 ∷ 1 ∷ 13 ∷ 0 ∷ 0 ∷ 1 ∷ 13 ∷ 2 ∷ 0 ∷ 1
    ∷ 13 ∷ 1 ∷ 2 ∷ 0 ∷ 13 ∷ 0 ∷ 2 ∷ 0 ∷ 13 ∷ 2 ∷ 2 ∷ 0
    ∷ 13 ∷ 0 ∷ 0 ∷ 3 ∷ 12 ∷ []

-- users 0 and 1 may not share an assignment of 1; roles 0 and 1 are a static pair
abbrev pub couple_apart : List ℕ
couple_apart = 1 ∷ 2 ∷ 2 ∷ 1 ∷ 3 ∷ 0 ∷ 1 ∷ 13 ∷ 1 ∷ 0 ∷ 1 ∷ 12 ∷ []

-- role 2 requires 0 and 1 enabled
abbrev pub enabled_requirement : List ℕ
enabled_requirement = 1 ∷ 1 ∷ 3 ∷ 1 ∷ 10 ∷ 1 ∷ 2 ∷ 0 ∷ 10 ∷ 1 ∷ 2 ∷ 1 ∷ 12 ∷ []

-- role 1 requires 0 assigned to the same user
abbrev pub assigned_requirement : List ℕ
assigned_requirement = 1 ∷ 2 ∷ 2 ∷ 1 ∷ 10 ∷ 2 ∷ 1 ∷ 0 ∷ 12 ∷ []

-- role 1 requires 0 assigned to any users
abbrev pub anyone_assigned_requirement : List ℕ
anyone_assigned_requirement = 1 ∷ 2 ∷ 2 ∷ 1 ∷ 10 ∷ 3 ∷ 1 ∷ 0 ∷ 12 ∷ []

-- role 1 requires 0 active for any users
abbrev pub active_requirement : List ℕ
active_requirement = 1 ∷ 2 ∷ 2 ∷ 2 ∷ 10 ∷ 4 ∷ 1 ∷ 0 ∷ 12 ∷ []

-- role 1 requires 0 active in the same session
abbrev pub in_session_requirement : List ℕ
in_session_requirement = 1 ∷ 1 ∷ 2 ∷ 2 ∷ 10 ∷ 5 ∷ 1 ∷ 0 ∷ 12 ∷ []

-- role 3 requires 2 and 1 active for the session's owner
abbrev pub for_owner_requirement : List ℕ
for_owner_requirement = 1 ∷ 2 ∷ 4 ∷ 3 ∷ 10 ∷ 6 ∷ 3 ∷ 2 ∷ 10 ∷ 6 ∷ 3 ∷ 1 ∷ 12 ∷ []

-- role 1 depends on 0
abbrev pub one_depends : List ℕ
one_depends = 1 ∷ 1 ∷ 2 ∷ 2 ∷ 11 ∷ 1 ∷ 0 ∷ 12 ∷ []

-- the events before

-- user 0 may activate 0 and 1 in sessions 0 and 1
abbrev pub two_session_events : List Event → List Event
two_session_events more =
    Assign 0 0 ∷ Assign 0 1 ∷ Enable 0 ∷ Enable 1 ∷ Open 0 0 ∷ Open 1 0 ∷ more

-- users 0 and 1 may activate 0 and 1, user 0 in sessions 0 and 1, user 1 in session 2
abbrev pub seat_events : List Event → List Event
seat_events more =
    Assign 0 0 ∷ Assign 0 1 ∷ Assign 1 0 ∷ Assign 1 1 ∷ Enable 0 ∷ Enable 1
    ∷ Open 0 0 ∷ Open 1 0 ∷ Open 2 1 ∷ more

-- user 0 may activate 0 in sessions 0, 1 and 2
abbrev pub three_session_events : List Event → List Event
three_session_events more = Assign 0 0 ∷ Enable 0 ∷ Open 0 0 ∷ Open 1 0 ∷ Open 2 0 ∷ more

-- user 0 may activate 1 and 2, user 1 may activate 1
abbrev pub dynamic_pair_events : List Event → List Event
dynamic_pair_events more =
    Assign 0 1 ∷ Assign 0 2 ∷ Assign 1 1 ∷ Enable 1 ∷ Enable 2
    ∷ Open 0 0 ∷ Open 1 0 ∷ Open 2 1 ∷ more

-- users 1, 2 and 3 may activate 0, and user 2 has it active
abbrev pub conflicting_user_events : List Event → List Event
conflicting_user_events more =
    Assign 1 0 ∷ Assign 2 0 ∷ Assign 3 0 ∷ Enable 0
    ∷ Open 1 1 ∷ Open 2 2 ∷ Open 3 3 ∷ Activate 2 0 ∷ more

-- user 0 may activate 1, user 1 may activate 0
abbrev pub two_user_events : List Event → List Event
two_user_events more = Assign 0 1 ∷ Assign 1 0 ∷ Enable 0 ∷ Enable 1 ∷ Open 0 0 ∷ Open 1 1 ∷ more

-- user 0 may activate 1, 2 and 3; user 1 has 1 active
abbrev pub owner_events : List Event → List Event
owner_events more =
    Assign 0 1 ∷ Assign 0 2 ∷ Assign 0 3 ∷ Assign 1 1 ∷ Enable 1 ∷ Enable 2 ∷ Enable 3
    ∷ Open 0 0 ∷ Open 1 0 ∷ Open 2 1 ∷ Activate 2 1 ∷ more

-- user 0 may activate 1 and 3
abbrev pub sample_session_events : List Event → List Event
sample_session_events more = Assign 0 0 ∷ Assign 0 3 ∷ Enable 1 ∷ Enable 3 ∷ Open 0 0 ∷ more

pub record WorkedRulings : Type 0 where
  -- 41: the lowest role that is over, here by inheritance
  pub users_at_limit : IsRuled one_user_each [] (Assign 0 0) admitted
  pub users_over_lowest : IsRuled one_user_each (Assign 0 0 ∷ []) (Assign 1 0) (refused 41 1 1)
  -- 42: inherited roles count
  pub roles_at_limit : IsRuled two_roles [] (Assign 0 0) admitted
  pub roles_over : IsRuled two_roles (Assign 0 0 ∷ []) (Assign 0 2) (refused 42 0 1)
  -- 43: a seat for each role in each session of the user
  pub seats_at_limit : IsRuled one_seat (two_session_events []) (Activate 0 0) admitted
  pub same_role_elsewhere : IsRuled one_seat (two_session_events (Activate 0 0 ∷ []))
      (Activate 1 0) (refused 43 0 1)
  pub other_role_elsewhere : IsRuled one_seat (two_session_events (Activate 0 0 ∷ []))
      (Activate 1 1) (refused 43 0 1)
  pub other_role_beside : IsRuled one_seat (two_session_events (Activate 0 0 ∷ []))
      (Activate 0 1) (refused 43 0 1)
  pub second_seat_beside : IsRuled two_seats (seat_events (Activate 0 0 ∷ []))
      (Activate 0 1) admitted
  pub third_seat_elsewhere : IsRuled two_seats (seat_events (Activate 0 0 ∷ Activate 0 1 ∷ []))
      (Activate 1 0) (refused 43 0 1)
  -- a seat is free again after a deactivation, and after a closing
  pub seat_free_by_deactivation : IsRuled two_seats
      (seat_events (Activate 0 0 ∷ Activate 0 1 ∷ Deactivate 0 1 ∷ []))
      (Activate 1 0) admitted
  pub seats_free_by_closing : IsRuled two_seats
      (seat_events (Activate 0 0 ∷ Activate 0 1 ∷ Close 0 ∷ []))
      (Activate 1 0) admitted
  -- the seats of another user take none of the user's
  pub seats_of_another : IsRuled two_seats
      (seat_events (Activate 2 0 ∷ Activate 2 1 ∷ Activate 0 0 ∷ []))
      (Activate 1 0) admitted
  -- asked before 44
  pub seats_name_first : IsRuled one_seat_and_session (two_session_events (Activate 0 0 ∷ []))
      (Activate 1 0) (refused 43 0 1)
  -- 44: the second session, and a third
  pub sessions_at_limit : IsRuled two_sessions (three_session_events (Activate 0 0 ∷ []))
      (Activate 1 0) admitted
  pub sessions_over : IsRuled two_sessions (three_session_events (Activate 0 0 ∷ Activate 1 0 ∷ []))
      (Activate 2 0) (refused 44 0 1)
  -- 45: the lower of two
  pub static_apart : IsRuled static_pairs (Assign 0 2 ∷ []) (Assign 0 1) admitted
  pub static_conflict_lowest : IsRuled static_pairs (Assign 0 2 ∷ Assign 0 1 ∷ [])
      (Assign 0 3) (refused 45 1 2)
  -- 46: across the sessions of one user, not of two
  pub dynamic_other_user : IsRuled dynamic_pair (dynamic_pair_events (Activate 2 1 ∷ []))
      (Activate 0 2) admitted
  pub dynamic_conflict : IsRuled dynamic_pair (dynamic_pair_events (Activate 1 1 ∷ []))
      (Activate 0 2) (refused 46 1 2)
  -- 47: the lower of two users
  pub users_without_conflict : IsRuled conflicting_users (conflicting_user_events [])
      (Activate 1 0) admitted
  pub users_conflict_lowest : IsRuled conflicting_users
      (conflicting_user_events (Activate 1 0 ∷ []))
      (Activate 3 0) (refused 47 1 2)
  -- 48: the lower of two who hold the same role, a junior of it, a senior of it
  pub same_role_unshared : IsRuled couples [] (Assign 0 1) admitted
  pub same_role_shared_lowest : IsRuled couples (Assign 2 1 ∷ Assign 1 1 ∷ [])
      (Assign 0 1) (refused 48 1 3)
  pub junior_shared_lowest : IsRuled couples (Assign 2 1 ∷ Assign 1 1 ∷ [])
      (Assign 0 0) (refused 48 1 3)
  pub senior_shared_lowest : IsRuled couples (Assign 2 0 ∷ Assign 1 0 ∷ [])
      (Assign 0 1) (refused 48 1 3)
  -- authority by inheritance does not count: user 1 is authorised for 1, a junior of 2, by 0
  pub inherited_is_not_held : IsRuled couples (Assign 1 0 ∷ []) (Assign 0 2) admitted
  -- a pair listed for the senior only: one holds the senior and the other the junior, and not both
  -- the senior
  pub listed_for_senior_only : IsRuled couples (Assign 3 0 ∷ []) (Assign 0 1) admitted
  pub listed_for_senior_only_turned : IsRuled couples (Assign 3 1 ∷ []) (Assign 0 0) admitted
  pub senior_itself_shared : IsRuled couples (Assign 3 0 ∷ []) (Assign 0 0) (refused 48 3 3)
  -- static conflict is asked before, and names first
  pub static_conflict_names_first : IsRuled couple_apart (Assign 1 1 ∷ Assign 0 0 ∷ [])
      (Assign 0 1) (refused 45 0 2)
  -- who gave the assignment up does not stand against another's
  pub deassigned_is_not_held : IsRuled couples (Assign 1 1 ∷ Deassign 1 1 ∷ [])
      (Assign 0 1) admitted
  -- 51
  pub enabled_stands : IsRuled enabled_requirement (Enable 0 ∷ Enable 1 ∷ []) (Enable 2) admitted
  pub enabled_missing : IsRuled enabled_requirement (Enable 0 ∷ []) (Enable 2) (refused 51 1 4)
  -- 52: another user's assignment is none
  pub assigned_stands : IsRuled assigned_requirement (Assign 0 0 ∷ []) (Assign 0 1) admitted
  pub assigned_missing : IsRuled assigned_requirement (Assign 1 0 ∷ [])
      (Assign 0 1) (refused 52 0 4)
  -- 53: another user's assignment suffices
  pub anyone_assigned_stands : IsRuled anyone_assigned_requirement (Assign 1 0 ∷ [])
      (Assign 0 1) admitted
  pub anyone_assigned_missing : IsRuled anyone_assigned_requirement [] (Assign 0 1) (refused 53 0 4)
  -- 54: another user's session suffices
  pub active_stands : IsRuled active_requirement (two_user_events (Activate 1 0 ∷ []))
      (Activate 0 1) admitted
  pub active_missing : IsRuled active_requirement (two_user_events [])
      (Activate 0 1) (refused 54 0 4)
  -- 55: another session of the user does not suffice
  pub in_session_stands : IsRuled in_session_requirement (two_session_events (Activate 1 0 ∷ []))
      (Activate 1 1) admitted
  pub in_session_missing : IsRuled in_session_requirement (two_session_events (Activate 1 0 ∷ []))
      (Activate 0 1) (refused 55 0 4)
  -- 56: another session of the owner suffices, another user's does not; the lowest of two
  pub for_owner_stands : IsRuled for_owner_requirement
      (owner_events (Activate 1 1 ∷ Activate 1 2 ∷ []))
      (Activate 0 3) admitted
  pub for_owner_missing_lowest : IsRuled for_owner_requirement (owner_events [])
      (Activate 0 3) (refused 56 1 4)
  -- 61 on activation
  pub dependency_met : IsRuled one_depends (two_session_events (Activate 1 0 ∷ []))
      (Activate 0 1) admitted
  pub dependency_unmet : IsRuled one_depends (two_session_events []) (Activate 0 1) (refused 61 0 5)
  -- 61 on deactivation: admitted where another session has the role active
  pub deactivated_elsewhere_active : IsRuled one_depends
      (two_session_events (Activate 1 0 ∷ Activate 0 0 ∷ Activate 0 1 ∷ []))
      (Deactivate 1 0) admitted
  pub deactivated_last : IsRuled one_depends (two_session_events (Activate 1 0 ∷ Activate 0 1 ∷ []))
      (Deactivate 1 0) (refused 61 0 5)
  -- 61 on a close: its roles end together, where the lower one alone may not end
  pub closed_together : IsRuled one_depends (two_session_events (Activate 0 0 ∷ Activate 0 1 ∷ []))
      (Close 0) admitted
  pub closed_lower_alone : IsRuled one_depends
      (two_session_events (Activate 0 0 ∷ Activate 0 1 ∷ []))
      (Deactivate 0 0) (refused 61 0 5)
  pub closed_last : IsRuled one_depends (two_session_events (Activate 1 0 ∷ Activate 0 1 ∷ []))
      (Close 1) (refused 61 0 5)
  -- the sample
  pub sample_static : IsRuled sample (Assign 0 0 ∷ []) (Assign 0 2) (refused 45 0 2)
  pub sample_activate : IsRuled sample (sample_session_events []) (Activate 0 3) (refused 61 1 5)
  pub sample_deactivate : IsRuled sample (sample_session_events (Activate 0 1 ∷ Activate 0 3 ∷ []))
      (Deactivate 0 1) (refused 61 1 5)
  pub sample_close : IsRuled sample (sample_session_events (Activate 0 1 ∷ Activate 0 3 ∷ []))
      (Close 0) admitted

-- the sample's events: assign 0 to user 0, then 2, then 3; enable 1 and 3; open; activate 3, 1, 3;
-- deactivate 1; close
abbrev pub sample_events : List ℕ
sample_events =
    32 ∷ 0 ∷ 0 ∷ 32 ∷ 0 ∷ 2 ∷ 32 ∷ 0 ∷ 3 ∷ 34 ∷ 1 ∷ 34 ∷ 3 ∷ 36 ∷ 0 ∷ 0
    ∷ 38 ∷ 0 ∷ 3 ∷ 38 ∷ 0 ∷ 1 ∷ 38 ∷ 0 ∷ 3 ∷ 39 ∷ 0 ∷ 1 ∷ 37 ∷ 0 ∷ []

abbrev pub sample_rows : List Row
sample_rows =
    row 32 0 0 0 0 ∷ row 32 45 0 2 0 ∷ row 32 0 0 0 0 ∷ row 34 0 0 0 0 ∷ row 34 0 0 0 0
    ∷ row 36 0 0 0 0 ∷ row 38 61 1 5 0 ∷ row 38 0 0 0 0 ∷ row 38 0 0 0 0 ∷ row 39 61 1 5 0
    ∷ row 37 0 0 0 10 ∷ []

-- one role of user 0 activated in two sessions
abbrev pub twice_events : List ℕ
twice_events = 32 ∷ 0 ∷ 0 ∷ 34 ∷ 0 ∷ 36 ∷ 0 ∷ 0 ∷ 36 ∷ 1 ∷ 0 ∷ 38 ∷ 0 ∷ 0 ∷ 38 ∷ 1 ∷ 0 ∷ []

abbrev pub twice_rows : List Row
twice_rows =
    row 32 0 0 0 0 ∷ row 34 0 0 0 0 ∷ row 36 0 0 0 0 ∷ row 36 0 0 0 0
    ∷ row 38 0 0 0 0 ∷ row 38 43 0 1 0 ∷ []

pub record WorkedCases : Type 0 where
  pub policies : Worked
  pub runs_sample : RunGives sample sample_events sample_rows
  -- limit 1 of seats: the same role in a second session of the user is refused
  pub runs_twice : RunGives one_seat twice_events twice_rows
  pub rulings : WorkedRulings
