-- What becomes of a ticket, and which events are asked for it. Assumes nothing.
--   ticket_given     of an opening: a ticket for the session where it is granted
--   ticket_back      of a closing: the ticket handed back where it is refused
--   ticket_kept      of a move to another session: the new ticket where the opening is granted
--   both_closings    the closings of two sessions, the first once more where it was refused
--   moving           the opening of the other session, and the closing of the old one after it
use Rattle.std.specs.Prelude.{ℕ, List, [], ◌∷◌, Some, None, Ok, Err, Option, Result}
use Rattle.records.specs.declared.event.Event.{Event}
use Rattle.records.specs.declared.event.Event.TheVariants.{Open, Close}
use Rattle.monitor.specs.Answers.{Answer}
use Rattle.monitor.specs.declared.tickets.Ticket.{Ticket}
use Rattle.monitor.specs.Tickets.{unspent}

abbrev pub ticket_given : ℕ → Answer → Option Ticket
ticket_given session (Ok ended) = Some (unspent session)
ticket_given session (Err r) = None

abbrev pub ticket_back : Ticket → Answer → Result (Unit {0}) Ticket
ticket_back ticket (Ok ended) = Ok tt
ticket_back ticket (Err r) = Err ticket

abbrev pub ticket_kept : Ticket → ℕ → Answer → Ticket
ticket_kept old session (Ok ended) = unspent session
ticket_kept old session (Err r) = old

-- by the answer to the first
abbrev pub both_closings : ℕ → ℕ → Answer → List Event
both_closings first second (Ok ended) = Close first ∷ Close second ∷ []
both_closings first second (Err r) = Close first ∷ Close second ∷ Close first ∷ []

-- by the answer to the opening
abbrev pub moving : ℕ → ℕ → ℕ → Answer → List Event
moving old session user (Ok ended) = Open session user ∷ Close old ∷ []
moving old session user (Err r) = Open session user ∷ []
