use Rattle.std.proofs.Common.{Err, refl, ap}
use Rattle.shift.specs.Tickets.{ticket_given}
use Rattle.shift.proofs.DeskLaws.{one_asked}
use Rattle.shift.proofs.TicketLaws.{opening_refused}
use Rattle.shift.proofs.desk.Desk.open.Goals as goal

pub returns-in-Err-clause-ticket : goal.returns-in-Err-clause-ticket
returns-in-Err-clause-ticket c =
    ap (ticket_given c.args.session) (opening_refused c.args.session _ c.open.result
    c.in-Err.refusal c.open.ensures.answer c.in-Err.is)

pub returns-in-Err-clause-asked : goal.returns-in-Err-clause-asked
returns-in-Err-clause-asked c =
    let is = c.open.ensures in
    one_asked c.args.self.now _ c.note-in-Err.new.self _ (Err c.in-Err.refusal) refl refl
    (opening_refused c.args.session _ c.open.result c.in-Err.refusal is.answer c.in-Err.is)
    is.state is.same c.note-in-Err.ensures.noted c.note-in-Err.ensures.monitor
