use Rattle.monitor.specs.RunLaws.{extends_impossible, extends_refused, extends_granted}
use Rattle.monitor.proofs.monitors.Monitor.decide.Goals as goal

pub returns-in_err-change-clause-law : goal.returns-in_err-change-clause-law
returns-in_err-change-clause-law g c =
    let m = c.args.self.now in
    extends_impossible (g.P.Rule.rules m.pile) (g.met.P.Rule.lawful m.pile) m.governed c.args.event
    _ _ c.from_residual.ensures.1 c.in_err-change.ensures.impossibility

pub returns-in_err-consult-clause-law : goal.returns-in_err-consult-clause-law
returns-in_err-consult-clause-law g c =
    let m = c.args.self.now in
    extends_refused (g.P.Rule.rules m.pile) (g.met.P.Rule.lawful m.pile) m.governed c.args.event
    _ _ c.from_residual-in_err-consult.ensures.1 c.in_ok-change.ensures.impossibility
    c.in_err-consult.ensures

pub returns-clause-law : goal.returns-clause-law
returns-clause-law g c =
    let m = c.args.self.now in
    extends_granted (g.P.Rule.rules m.pile) (g.met.P.Rule.lawful m.pile) m.governed c.args.event
    _ _ c.in_ok-change.ensures.impossibility c.in_ok-consult.ensures
    c.grant-listed.ensures.listed c.grant-listed.ensures.state
