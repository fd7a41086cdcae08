-- What an opening and a closing were answered, from what became of the ticket.
use Rattle.std.proofs.Common.{◌≡◌, ℕ, Bool, true, false, List, [], ◌∷◌, Some, None, Ok, Err, Option, Result, sym, refl, ap, ◌∙◌}
use Rattle.sets.specs.Aliases.{RoleSet}
use Rattle.records.specs.declared.event.Event.{Event}
use Rattle.records.specs.declared.event.Event.TheVariants.{Open, Close}
use Rattle.monitor.specs.Answers.{Answer}
use Rattle.monitor.specs.declared.answers.Refusal.{Refusal}
use Rattle.monitor.specs.declared.tickets.Ticket.{Ticket}
use Rattle.monitor.specs.Counts.{granted}
use Rattle.monitor.specs.Tickets.{session_of, unspent, ticket_answer, closing_answer}
use Rattle.shift.specs.Tickets.{ticket_given, ticket_back, ticket_kept, both_closings, moving}

-- an opening that the monitor refused
abbrev opening : Answer → Result Ticket Refusal → Answer
opening a (Ok ticket) = a
opening a (Err r) = Err r

opening_is : (s : ℕ) (a : Answer) → opening a (ticket_answer s a) ≡ a
opening_is s (Ok ended) = refl
opening_is s (Err r) = refl

pub opening_refused : (s : ℕ) (a : Answer) (x : Result Ticket Refusal) (r : Refusal)
    → x ≡ ticket_answer s a → x ≡ Err r → Err r ≡ a
opening_refused s a x r e is = ap (opening a) (sym is ∙ e) ∙ opening_is s a

-- a closing that it refused, and the ticket that it handed back
abbrev closing : Result RoleSet (Ticket × Refusal) → Answer
closing (Ok ended) = Ok ended
closing (Err p) = Err p.1

closing_is : (ticket : Ticket) (a : Answer) → closing (closing_answer ticket a) ≡ a
closing_is ticket (Ok ended) = refl
closing_is ticket (Err r) = refl

abbrev handed : Ticket → Result RoleSet (Ticket × Refusal) → Ticket
handed ticket (Ok ended) = ticket
handed ticket (Err p) = p.0

handed_is : (ticket : Ticket) (a : Answer) → handed ticket (closing_answer ticket a) ≡ ticket
handed_is ticket (Ok ended) = refl
handed_is ticket (Err r) = refl

pub closing_refused : (ticket back : Ticket) (a : Answer) (x : Result RoleSet (Ticket × Refusal))
    (r : Refusal) → x ≡ closing_answer ticket a → x ≡ Err (back, r) → Err r ≡ a
closing_refused ticket back a x r e is = ap closing (sym is ∙ e) ∙ closing_is ticket a

pub same_ticket : (ticket back : Ticket) (a : Answer) (x : Result RoleSet (Ticket × Refusal))
    (r : Refusal) → x ≡ closing_answer ticket a → x ≡ Err (back, r) → back ≡ ticket
same_ticket ticket back a x r e is =
    ap (handed ticket) (sym is ∙ e) ∙ handed_is ticket a

-- the same of the desk's own calls

abbrev pub kept : Ticket → Option Ticket → Ticket
kept old (Some new) = new
kept old None = old

pub kept_is : (old : Ticket) (s : ℕ) (a : Answer)
    → kept old (ticket_given s a) ≡ ticket_kept old s a
kept_is old s (Ok ended) = refl
kept_is old s (Err r) = refl

abbrev pub moved : ℕ → ℕ → ℕ → Option Ticket → List Event
moved old s u (Some new) = Open s u ∷ Close old ∷ []
moved old s u None = Open s u ∷ []

pub moved_is : (old s u : ℕ) (a : Answer) → moved old s u (ticket_given s a) ≡ moving old s u a
moved_is old s u (Ok ended) = refl
moved_is old s u (Err r) = refl

abbrev pub back_or : Ticket → Result (Unit {0}) Ticket → Ticket
back_or ticket (Ok x) = ticket
back_or ticket (Err back) = back

pub back_is : (ticket : Ticket) (a : Answer) → back_or ticket (ticket_back ticket a) ≡ ticket
back_is ticket (Ok ended) = refl
back_is ticket (Err r) = refl

abbrev pub closed : ℕ → ℕ → Result (Unit {0}) Ticket → List Event
closed s c (Ok x) = Close s ∷ Close c ∷ []
closed s c (Err back) = Close s ∷ Close c ∷ Close s ∷ []

pub closed_is : (ticket : Ticket) (s c : ℕ) (a : Answer)
    → closed s c (ticket_back ticket a) ≡ both_closings s c a
closed_is ticket s c (Ok ended) = refl
closed_is ticket s c (Err r) = refl

-- an opening is granted where it gave a ticket, which is one for the session

abbrev some : Option Ticket → Bool
some (Some ticket) = true
some None = false

some_is : (s : ℕ) (a : Answer) → some (ticket_given s a) ≡ granted a
some_is s (Ok ended) = refl
some_is s (Err r) = refl

pub opening_granted : (s : ℕ) (a b : Answer) (x : Option Ticket) (ticket : Ticket)
    → x ≡ ticket_given s a → a ≡ b → x ≡ Some ticket → granted b ≡ true
opening_granted s a b x ticket e ab is =
    sym (ap granted ab) ∙ sym (some_is s a) ∙ ap some (sym e ∙ is)

pub opening_denied : (s : ℕ) (a b : Answer) (x : Option Ticket)
    → x ≡ ticket_given s a → a ≡ b → x ≡ None → granted b ≡ false
opening_denied s a b x e ab is =
    sym (ap granted ab) ∙ sym (some_is s a) ∙ ap some (sym e ∙ is)

session_is : (s : ℕ) (a : Answer) → session_of (kept (unspent s) (ticket_given s a)) ≡ s
session_is s (Ok ended) = refl
session_is s (Err r) = refl

pub opened_session : (s : ℕ) (a : Answer) (x : Option Ticket) (ticket : Ticket)
    → x ≡ ticket_given s a → x ≡ Some ticket → session_of ticket ≡ s
opened_session s a x ticket e is =
    ap (λ o. session_of (kept (unspent s) o)) (sym is ∙ e) ∙ session_is s a
