use Rattle.std.proofs.Common.{◌≡◌, get_or, refl, ◌∙◌, subst₂, arith}
use Rattle.records.specs.declared.event.Event.TheVariants.{Assign}
use Rattle.policy.specs.Approved as approved
use Rattle.monitor.specs.Cells.{blank}
use Rattle.monitor.specs.Governed.{cells_of}
use Rattle.monitor.specs.GovernedLaws.{approved_lawful}
use Rattle.monitor.specs.History.{reply, step}
use Rattle.monitor.specs.JournalLaws.{resumes}
use Rattle.monitor.specs.Monitors.{state_of}
use Rattle.monitor.specs.ReplayLaws.{one_decided, all_answered, all_reached}
use Rattle.monitor.specs.RunLaws.{run_law}
use Rattle.monitor.proofs.monitors.Monitor.replay.Goals as goal

pub loop-event-init : goal.loop-event-init
loop-event-init g c = (
  record { answers = c.in_ok-answers.ensures.items; state = c.begin-monitor.ensures.state },
  c.begin-monitor.ensures.policy,
  c.begin-monitor.ensures.pile,
  c.in_ok-answers.ensures.len,
  c.in_ok-answers.ensures.capacity,
)

pub push_reserved-requires : goal.push_reserved-requires
push_reserved-requires g c =
    let i = c.loop-event.invariant in omega (arith, i.3, i.4, c.loop-event-test.true)

pub loop-event-preserved : goal.loop-event-preserved
loop-event-preserved g c =
    let i = c.loop-event.invariant in
    let e = get_or c.args.events.now c.loop-event.event-index (Assign 0 0) in
    let now = cells_of (state_of c.loop-event.monitor) in
    let is = c.decide.ensures in (
      one_decided (g.P.Rule.rules c.args.pile)
          (approved.tables_of (approved.policy_of c.args.checked)) blank c.args.events.now i.0
          (Assign 0 0) e c.loop-event-test.true refl c.decide.result c.push_reserved.new.self.items
          (cells_of (state_of c.decide.new.self))
          (subst₂ (λ x p. c.decide.result ≡ reply (g.P.Rule.rules x) (approved.tables_of p) now e)
          i.2 i.1 is.answer)
          c.push_reserved.ensures.items
          (subst₂ (λ x p. cells_of (state_of c.decide.new.self)
          ≡ step (g.P.Rule.rules x) (approved.tables_of p) now e) i.2 i.1 is.state),
      is.same.policy ∙ i.1,
      is.same.pile ∙ i.2,
      omega (arith, c.push_reserved.ensures.len, i.3),
      omega (arith, c.push_reserved.ensures.capacity, i.4),
    )

pub returns-clause-answers : goal.returns-clause-answers
returns-clause-answers g c =
    all_answered (g.P.Rule.rules c.args.pile)
    (approved.tables_of (approved.policy_of c.args.checked)) blank c.args.events.now
    c.loop-event.invariant.0 c.loop-event-test.false

pub returns-clause-state : goal.returns-clause-state
returns-clause-state g c =
    all_reached (g.P.Rule.rules c.args.pile)
    (approved.tables_of (approved.policy_of c.args.checked)) blank c.args.events.now
    c.loop-event.invariant.0.state c.loop-event-test.false

pub returns-clause-law : goal.returns-clause-law
returns-clause-law g c =
    run_law (g.P.Rule.rules c.args.pile) (g.met.P.Rule.lawful c.args.pile)
    (approved.tables_of (approved.policy_of c.args.checked))
    (approved_lawful (approved.policy_of c.args.checked)) c.args.events.now _ _
    (returns-clause-answers g c) (returns-clause-state g c)

pub returns-clause-journal : goal.returns-clause-journal
returns-clause-journal g c =
    resumes (g.P.Rule.rules c.args.pile) (approved.tables_of (approved.policy_of c.args.checked))
    c.args.events.now _ (returns-clause-state g c)
