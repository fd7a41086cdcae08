-- The events of a shift by which openings are granted, and the closings and moves among them.
use Rattle.std.proofs.Common.{◌≡◌, ℕ, true, false, List, [], ◌∷◌, ◌++◌, ap, ◌∙◌, subst}
use Rattle.std.proofs.lemmas.Bool.{cond-true, cond-false}
use Rattle.records.specs.declared.event.Event.{Event}
use Rattle.records.specs.declared.event.Event.TheVariants.{Open, Close}
use Rattle.monitor.specs.declared.governed.GovernedState.{GovernedState}
use Rattle.shift.specs.declared.desk.Desk.{Desk}
use Rattle.shift.specs.Day.{answer_after, is_granted, preparation, scanning_open, checking_open, both_active, work_events, evening_events, late_events}
use Rattle.shift.specs.Desks.{state_on, answer_on, Asked}
use Rattle.shift.specs.Tickets.{both_closings, moving}
use Rattle.shift.proofs.DeskLaws.{asked_then, answered_after}

pub none_opened : (g : GovernedState) → is_granted g preparation (Open 0 0) ≡ false
    → work_events g ≡ scanning_open
none_opened g none = cond-false _ _ _ none

pub one_opened : (g : GovernedState) → is_granted g preparation (Open 0 0) ≡ true
    → is_granted g scanning_open (Open 1 1) ≡ false → work_events g ≡ checking_open
one_opened g one none = cond-true _ _ _ one ∙ cond-false _ _ _ none

pub both_opened : (g : GovernedState) → is_granted g preparation (Open 0 0) ≡ true
    → is_granted g scanning_open (Open 1 1) ≡ true
    → work_events g ≡ both_active ++ both_closings 0 1 (answer_after g both_active (Close 0))
both_opened g one two = cond-true _ _ _ one ∙ cond-true _ _ _ two

pub stayed : (g : GovernedState) → is_granted g [] (Open 0 0) ≡ true
    → evening_events g ≡ Open 0 0 ∷ moving 0 1 0 (answer_after g (Open 0 0 ∷ []) (Open 1 0))
stayed g one = cond-true _ _ _ one

pub left : (g : GovernedState) → is_granted g [] (Open 0 0) ≡ false
    → evening_events g ≡ Open 0 0 ∷ []
left g none = cond-false _ _ _ none

pub opened_again : (g : GovernedState) → is_granted g (evening_events g) (Open 1 1) ≡ true
    → late_events g ≡ evening_events g ++ (Open 1 1 ∷ Close 1 ∷ [])
opened_again g again =
    ap (λ es. evening_events g ++ (Open 1 1 ∷ es)) (cond-true _ _ _ again)

pub still_open : (g : GovernedState) → is_granted g (evening_events g) (Open 1 1) ≡ false
    → late_events g ≡ evening_events g ++ (Open 1 1 ∷ [])
still_open g denied =
    ap (λ es. evening_events g ++ (Open 1 1 ∷ es)) (cond-false _ _ _ denied)

-- the closings of two tickets, which are for these sessions
pub closings_after : {a b d : Desk} {es : List Event} (p q s u : ℕ) → p ≡ s → q ≡ u
    → Asked a b es → Asked b d (both_closings p q (answer_on b (Close p)))
    → Asked a d (es ++ both_closings s u (answer_after (state_on a) es (Close s)))
closings_after {a} {b} {d} {es} p q s u ps qu before asked =
    asked_then before (subst (Asked b d)
    (ap (λ k. both_closings k q (answer_on b (Close k))) ps
    ∙ ap (λ k. both_closings s k (answer_on b (Close s))) qu
    ∙ ap (both_closings s u) (answered_after before (Close s))) asked)

-- a move away from the session of a ticket
pub move_after : {a b d : Desk} {es : List Event} (p s t u : ℕ) → p ≡ s
    → Asked a b es → Asked b d (moving p t u (answer_on b (Open t u)))
    → Asked a d (es ++ moving s t u (answer_after (state_on a) es (Open t u)))
move_after {a} {b} {d} {es} p s t u ps before asked =
    asked_then before (subst (Asked b d)
    (ap (λ k. moving k t u (answer_on b (Open t u))) ps
    ∙ ap (moving s t u) (answered_after before (Open t u))) asked)
