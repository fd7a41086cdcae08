use Rattle.std.proofs.Common.{Err, refl, ap, ◌∙◌}
use Rattle.shift.specs.Tickets.{ticket_back}
use Rattle.shift.proofs.DeskLaws.{one_asked}
use Rattle.shift.proofs.TicketLaws.{closing_refused, same_ticket}
use Rattle.shift.proofs.desk.Desk.close.Goals as goal

pub returns-in-Err-clause-ticket : goal.returns-in-Err-clause-ticket
returns-in-Err-clause-ticket c =
    let is = c.close.ensures in
    ap (λ t. Err t) (same_ticket c.args.ticket c.in-Err.ticket _ c.close.result c.in-Err.refusal
    is.answer c.in-Err.is)
    ∙ ap (ticket_back c.args.ticket) (closing_refused c.args.ticket c.in-Err.ticket _
    c.close.result c.in-Err.refusal is.answer c.in-Err.is)

pub returns-in-Err-clause-asked : goal.returns-in-Err-clause-asked
returns-in-Err-clause-asked c =
    let is = c.close.ensures in
    one_asked c.args.self.now _ c.note-in-Err.new.self _ (Err c.in-Err.refusal) refl refl
    (closing_refused c.args.ticket c.in-Err.ticket _ c.close.result c.in-Err.refusal is.answer
    c.in-Err.is) is.state is.same c.note-in-Err.ensures.noted c.note-in-Err.ensures.monitor
