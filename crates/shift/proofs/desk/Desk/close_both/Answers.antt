use Rattle.std.proofs.Common.{◌∷◌, [], sym, ap, ◌∙◌, subst}
use Rattle.records.specs.declared.event.Event.TheVariants as event
use Rattle.monitor.specs.Tickets.{session_of}
use Rattle.shift.specs.Desks.{Asked}
use Rattle.shift.proofs.DeskLaws.{asked_then}
use Rattle.shift.proofs.TicketLaws.{back_or, back_is, closed, closed_is}
use Rattle.shift.proofs.desk.Desk.close_both.Goals as goal

pub returns-in-Err : goal.returns-in-Err
returns-in-Err c =
    let s = session_of c.args.scanning in
    let is = sym c.in-Err.is ∙ c.close-closed.ensures.ticket in
    subst (Asked c.args.self.now c.close_or_leave-in-Err.new.self)
    (ap (closed s (session_of c.args.checking)) is
    ∙ closed_is c.args.scanning s (session_of c.args.checking) _)
    (asked_then (asked_then c.close-closed.ensures.asked c.close_or_leave.ensures)
    (subst (λ t. Asked c.close_or_leave.new.self c.close_or_leave-in-Err.new.self
    (event.Close (session_of t) ∷ []))
    (ap (back_or c.args.scanning) is ∙ back_is c.args.scanning _) c.close_or_leave-in-Err.ensures))

pub returns-in_default : goal.returns-in_default
returns-in_default c =
    let s = session_of c.args.scanning in
    subst (Asked c.args.self.now c.close_or_leave.new.self)
    (ap (closed s (session_of c.args.checking))
    (sym c.in_default.is ∙ c.close-closed.ensures.ticket)
    ∙ closed_is c.args.scanning s (session_of c.args.checking) _)
    (asked_then c.close-closed.ensures.asked c.close_or_leave.ensures)
