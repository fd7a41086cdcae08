-- What a ticket is to the events open and close. Assumes nothing.
--   session_of        the session that a ticket may close
--   is_spent          it is used up, and may be let go
--   ticket_answer     of an opening by ticket: only a grant gives one, and it names the session
--   closing_answer    of a closing by ticket: a grant uses it up, a refusal hands it back as it was
use Rattle.std.specs.Prelude.{ℕ, Bool, false, Ok, Err, Result}
use Rattle.sets.specs.Aliases.{RoleSet}
use Rattle.monitor.specs.declared.answers.Refusal.{Refusal}
use Rattle.monitor.specs.declared.tickets.Ticket.{Ticket}
use Rattle.monitor.specs.Answers.{Answer}

abbrev pub session_of : Ticket → ℕ
session_of ticket = ticket.session

abbrev pub is_spent : Ticket → Bool
is_spent ticket = ticket.spent

abbrev pub unspent : ℕ → Ticket
unspent session = record { session = session; spent = false }

abbrev pub ticket_answer : ℕ → Answer → Result Ticket Refusal
ticket_answer session (Ok ended) = Ok (unspent session)
ticket_answer session (Err r) = Err r

abbrev pub closing_answer : Ticket → Answer → Result RoleSet (Ticket × Refusal)
closing_answer ticket (Ok ended) = Ok ended
closing_answer ticket (Err r) = Err (ticket, r)
