use Rattle.std.proofs.Common.{◌≡◌, get_or, refl, ◌∙◌, subst₂}
use Rattle.records.specs.declared.event.Event.TheVariants.{Assign}
use Rattle.policy.specs.Approved as approved
use Rattle.monitor.specs.Cells.{blank}
use Rattle.monitor.specs.Governed.{cells_of}
use Rattle.monitor.specs.GovernedLaws.{approved_lawful}
use Rattle.monitor.specs.History.{step}
use Rattle.monitor.specs.JournalLaws.{resumes}
use Rattle.monitor.specs.Monitors.{state_of}
use Rattle.monitor.specs.ReplayLaws.{one_reached, all_reached}
use Rattle.monitor.specs.RunLaws.{run_law}
use Rattle.monitor.proofs.monitors.Monitor.resume.Goals as goal

pub loop-event-init : goal.loop-event-init
loop-event-init g c = let is = c.begin-monitor.ensures in (is.state, is.policy, is.pile)

pub loop-event-preserved : goal.loop-event-preserved
loop-event-preserved g c =
    let i = c.loop-event.invariant in
    let e = get_or c.args.events.now c.loop-event.event-index (Assign 0 0) in
    let now = cells_of (state_of c.loop-event.monitor) in
    let is = c.decide.ensures in (
      one_reached (g.P.Rule.rules c.args.pile)
          (approved.tables_of (approved.policy_of c.args.checked)) blank c.args.events.now i.0
          (Assign 0 0) e c.loop-event-test.true refl (cells_of (state_of c.decide.new.self))
          (subst₂ (λ x p. cells_of (state_of c.decide.new.self)
          ≡ step (g.P.Rule.rules x) (approved.tables_of p) now e) i.2 i.1 is.state),
      is.same.policy ∙ i.1,
      is.same.pile ∙ i.2,
    )

pub returns : goal.returns
returns g c =
    let ms = g.P.Rule.rules c.args.pile in
    let t = approved.tables_of (approved.policy_of c.args.checked) in
    let i = c.loop-event.invariant in
    let reached = all_reached ms t blank c.args.events.now i.0 c.loop-event-test.false in
    record {
      state = reached;
      policy = i.1;
      pile = i.2;
      law =
          run_law ms (g.met.P.Rule.lawful c.args.pile) t
          (approved_lawful (approved.policy_of c.args.checked)) c.args.events.now _ _ refl reached;
      journal = resumes ms t c.args.events.now _ reached;
    }
