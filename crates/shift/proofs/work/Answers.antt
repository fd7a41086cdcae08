use Rattle.std.proofs.Common.{sym, subst}
use Rattle.records.specs.declared.event.Event.TheVariants.{Open}
use Rattle.shift.specs.Day.{preparation, scanning_open, checking_open, both_active}
use Rattle.shift.specs.Desks.{state_on, Asked}
use Rattle.shift.proofs.DayLaws.{none_opened, one_opened, both_opened, closings_after}
use Rattle.shift.proofs.DeskLaws.{asked_then, answered_after}
use Rattle.shift.proofs.TicketLaws.{opening_granted, opening_denied, opened_session}
use Rattle.shift.proofs.work.Goals as goal

pub returns-in_default : goal.returns-in_default
returns-in_default c =
    let ready : Asked c.args.desk.now c.ask-4.new.self preparation =
    asked_then (asked_then (asked_then c.ask.ensures c.ask-2.ensures) c.ask-3.ensures)
    c.ask-4.ensures in
    subst (Asked c.args.desk.now c.open.new.self)
    (sym (none_opened (state_on c.args.desk.now)
    (opening_denied 0 _ _ c.open.result c.open.ensures.ticket (answered_after ready (Open 0 0))
    c.in_default.is)))
    (asked_then ready c.open.ensures.asked)

pub returns-in_default-open : goal.returns-in_default-open
returns-in_default-open c =
    let ready : Asked c.args.desk.now c.ask-4.new.self preparation =
    asked_then (asked_then (asked_then c.ask.ensures c.ask-2.ensures) c.ask-3.ensures)
    c.ask-4.ensures in
    let one : Asked c.args.desk.now c.open.new.self scanning_open =
    asked_then ready c.open.ensures.asked in
    subst (Asked c.args.desk.now c.open-2.new.self)
    (sym (one_opened (state_on c.args.desk.now)
    (opening_granted 0 _ _ c.open.result _ c.open.ensures.ticket
    (answered_after ready (Open 0 0)) c.in-Some.is)
    (opening_denied 1 _ _ c.open-2.result c.open-2.ensures.ticket (answered_after one (Open 1 1))
    c.in_default-open.is)))
    (asked_then one c.open-2.ensures.asked)

pub returns : goal.returns
returns c =
    let ready : Asked c.args.desk.now c.ask-4.new.self preparation =
    asked_then (asked_then (asked_then c.ask.ensures c.ask-2.ensures) c.ask-3.ensures)
    c.ask-4.ensures in
    let one : Asked c.args.desk.now c.open.new.self scanning_open =
    asked_then ready c.open.ensures.asked in
    let two : Asked c.args.desk.now c.open-2.new.self checking_open =
    asked_then one c.open-2.ensures.asked in
    let active : Asked c.args.desk.now c.ask-6.new.self both_active =
    asked_then (asked_then two c.ask-5.ensures) c.ask-6.ensures in
    subst (Asked c.args.desk.now c.close_both.new.self)
    (sym (both_opened (state_on c.args.desk.now)
    (opening_granted 0 _ _ c.open.result _ c.open.ensures.ticket
    (answered_after ready (Open 0 0)) c.in-Some.is)
    (opening_granted 1 _ _ c.open-2.result _ c.open-2.ensures.ticket
    (answered_after one (Open 1 1)) c.in-Some-open.is)))
    (closings_after _ _ 0 1
    (opened_session 0 _ c.open.result _ c.open.ensures.ticket c.in-Some.is)
    (opened_session 1 _ c.open-2.result _ c.open-2.ensures.ticket c.in-Some-open.is)
    active c.close_both.ensures)
