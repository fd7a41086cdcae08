use Rattle.std.proofs.Common.{sym, ap, ◌∙◌, subst}
use Rattle.monitor.specs.Tickets.{session_of}
use Rattle.shift.specs.Desks.{Asked}
use Rattle.shift.proofs.DeskLaws.{asked_then}
use Rattle.shift.proofs.TicketLaws.{kept, kept_is, moved, moved_is}
use Rattle.shift.proofs.desk.Desk.move_to.Goals as goal

pub returns-in-Some-clause-ticket : goal.returns-in-Some-clause-ticket
returns-in-Some-clause-ticket c =
    ap (kept c.args.old) (sym c.in-Some.is ∙ c.open.ensures.ticket)
    ∙ kept_is c.args.old c.args.session _

pub returns-in-Some-clause-asked : goal.returns-in-Some-clause-asked
returns-in-Some-clause-asked c =
    let s = session_of c.args.old in
    subst (Asked c.args.self.now c.close_or_leave.new.self)
    (ap (moved s c.args.session c.args.user) (sym c.in-Some.is ∙ c.open.ensures.ticket)
    ∙ moved_is s c.args.session c.args.user _)
    (asked_then c.open.ensures.asked c.close_or_leave.ensures)
