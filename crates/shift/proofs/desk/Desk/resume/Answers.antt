use Rattle.std.proofs.Common.{◌≡◌, List, ◌++◌, ap, ◌∙◌, subst, subst₂}
use Rattle.std.proofs.lemmas.Slice.Zip.{Zip-more, either_empty_from_Zip}
use Rattle.std.specs.Iterator.Adapters.{zip_first, zip_second}
use Rattle.std.specs.Slice.Iter.{iter_rest}
use Rattle.policy.specs.Approved as approved
use Rattle.records.specs.declared.event.Event.{Event}
use Rattle.monitor.specs.Answers.{Answer}
use Rattle.monitor.specs.Cells.{blank}
use Rattle.monitor.specs.Governed.{cells_of}
use Rattle.monitor.specs.History.{replies, after}
use Rattle.monitor.specs.Journal.{Resumes}
use Rattle.monitor.specs.Monitors.{state_of}
use Rattle.monitor.specs.Rows.{rows_of}
use Rattle.monitor.specs.RunLaw.{RunLaw}
use Rattle.families.specs.House.{house_rules}
use Rattle.shift.proofs.DeskLaws.{rows_more, rows_end}
use Rattle.shift.proofs.desk.Desk.resume.Goals as goal

pub loop-event-init : goal.loop-event-init
loop-event-init c =
    let from = c.into_iter-event-iterator.result in
    ap (λ xs. xs ++ rows_of (iter_rest (zip_first from)) (iter_rest (zip_second from)))
    c.new-rows.ensures.items

pub loop-event-preserved : goal.loop-event-preserved
loop-event-preserved c =
    let left = c.next.new.self in
    let more = Zip-more c.loop-event.event-iterator left c.next.result
    (c.in-Some.event, c.in-Some.answer) c.in-Some.is c.next.ensures.steps in
    ap (λ xs. xs ++ rows_of (iter_rest (zip_first left)) (iter_rest (zip_second left)))
    c.in_ok-push.ensures.items
    ∙ rows_more c.loop-event.rows.items _ _ (iter_rest (zip_first left)) _
    (iter_rest (zip_second left)) c.in-Some.event.now c.in-Some.answer.now c.of.result
    c.loop-event.invariant more.0 more.1 c.of.ensures

pub returns-clause-began : goal.returns-clause-began
returns-clause-began c =
    let is = c.in_ok-monitor.ensures in
    let t = approved.tables_of (approved.policy_of c.args.checked) in
    let events : c.deref.result.now ≡ c.args.journal.items =
    c.deref.ensures.value ∙ c.in_ok-reserve.ensures.items in
    let answers : c.in_ok-monitor.field-0.answers.items
    ≡ replies house_rules t blank c.args.journal.items =
    is.answers ∙ ap (replies house_rules t blank) events in record {
      policy = is.policy;
      state = is.state ∙ ap (after house_rules t blank) events;
      rows =
          c.in_ok-reserve-2.ensures.items
          ∙ rows_end c.loop-event.rows.items _ _ _ c.loop-event.invariant
          (either_empty_from_Zip c.loop-event.event-iterator c.next.new.self c.next.result
          c.in-None.is c.next.ensures.steps)
          ∙ ap (λ z. rows_of (iter_rest (zip_first z)) (iter_rest (zip_second z)))
          c.into_iter-event-iterator.ensures.into_iter_gives
          ∙ ap (λ x. rows_of (iter_rest x) (iter_rest (zip_second c.zip-event-items.result)))
          c.zip-event-items.ensures.first
          ∙ ap (λ x. rows_of (iter_rest c.iter.result) (iter_rest x))
          c.zip-event-items.ensures.second
          ∙ ap (λ es. rows_of es (iter_rest c.iter-2.result))
          (c.iter.ensures.rest ∙ c.deref-2.ensures.value ∙ c.in_ok-reserve.ensures.items)
          ∙ ap (rows_of c.args.journal.items)
          (c.iter-2.ensures.rest ∙ c.deref-3.ensures.value ∙ answers);
      journal = c.in_ok-reserve.ensures.items;
      room = (c.in_ok-reserve-2.ensures.ok, c.in_ok-reserve.ensures.ok);
      law = subst₂ (λ (es : List Event) (rs : List Answer). RunLaw house_rules t es rs
          (cells_of (state_of c.in_ok-monitor.field-0.monitor))) events answers is.law;
    }

pub returns-clause-again : goal.returns-clause-again
returns-clause-again c =
    let t = approved.tables_of (approved.policy_of c.args.checked) in
    subst (λ (es : List Event). Resumes house_rules t es
    (cells_of (state_of c.in_ok-monitor.field-0.monitor)))
    (c.deref.ensures.value ∙ c.in_ok-reserve.ensures.items) c.in_ok-monitor.ensures.journal
