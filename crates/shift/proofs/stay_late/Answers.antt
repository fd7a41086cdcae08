use Rattle.std.proofs.Common.{[], ◌∷◌, refl, sym, subst}
use Rattle.records.specs.declared.event.Event.TheVariants.{Open, Close}
use Rattle.shift.specs.Day.{evening_events}
use Rattle.shift.specs.Desks.{state_on, Asked}
use Rattle.shift.proofs.DayLaws.{stayed, left, opened_again, still_open, move_after}
use Rattle.shift.proofs.DeskLaws.{asked_then, answered_after}
use Rattle.shift.proofs.TicketLaws.{opening_granted, opening_denied, opened_session}
use Rattle.shift.proofs.stay_late.Goals as goal
use Rattle.shift.proofs.stay_late.Goals.{in-Some, in_default}

pub returns-in-Some-open : goal.returns-in-Some-open
returns-in-Some-open c =
    let g = state_on c.args.desk.now in
    let is = c.open.ensures in
    let evening : Asked c.args.desk.now c.match-open.desk (evening_events g) =
    elim c.match-open.branch [
      | in-Some w ↦ subst (λ d. Asked c.args.desk.now d (evening_events g)) (sym w.desk-is)
          (subst (Asked c.args.desk.now w.move_to-night.new.self)
          (sym (stayed g (opening_granted 0 _ _ c.open.result _ is.ticket refl w.in-Some.is)))
          (move_after _ 0 1 0 (opened_session 0 _ c.open.result _ is.ticket w.in-Some.is)
          is.asked w.move_to-night.ensures.asked))
      | in_default w ↦ subst (λ d. Asked c.args.desk.now d (evening_events g)) (sym w.desk-is)
          (subst (Asked c.args.desk.now c.open.new.self)
          (sym (left g (opening_denied 0 _ _ c.open.result is.ticket refl w.in_default.is))) is.asked)
    ] in
    let again = c.open-2.ensures in
    subst (Asked c.args.desk.now c.close_or_leave.new.self)
    (sym (opened_again g (opening_granted 1 _ _ c.open-2.result _ again.ticket
    (answered_after evening (Open 1 1)) c.in-Some-open.is)))
    (asked_then evening (asked_then again.asked
    (subst (λ s. Asked c.open-2.new.self c.close_or_leave.new.self (Close s ∷ []))
    (opened_session 1 _ c.open-2.result _ again.ticket c.in-Some-open.is)
    c.close_or_leave.ensures)))

pub returns-in_default-open : goal.returns-in_default-open
returns-in_default-open c =
    let g = state_on c.args.desk.now in
    let is = c.open.ensures in
    let evening : Asked c.args.desk.now c.match-open.desk (evening_events g) =
    elim c.match-open.branch [
      | in-Some w ↦ subst (λ d. Asked c.args.desk.now d (evening_events g)) (sym w.desk-is)
          (subst (Asked c.args.desk.now w.move_to-night.new.self)
          (sym (stayed g (opening_granted 0 _ _ c.open.result _ is.ticket refl w.in-Some.is)))
          (move_after _ 0 1 0 (opened_session 0 _ c.open.result _ is.ticket w.in-Some.is)
          is.asked w.move_to-night.ensures.asked))
      | in_default w ↦ subst (λ d. Asked c.args.desk.now d (evening_events g)) (sym w.desk-is)
          (subst (Asked c.args.desk.now c.open.new.self)
          (sym (left g (opening_denied 0 _ _ c.open.result is.ticket refl w.in_default.is))) is.asked)
    ] in
    let again = c.open-2.ensures in
    subst (Asked c.args.desk.now c.open-2.new.self)
    (sym (still_open g (opening_denied 1 _ _ c.open-2.result again.ticket
    (answered_after evening (Open 1 1)) c.in_default-open.is)))
    (asked_then evening again.asked)
