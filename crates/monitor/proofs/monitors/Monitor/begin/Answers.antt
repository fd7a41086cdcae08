use Rattle.std.proofs.Common.{[], refl}
use Rattle.monitor.specs.GovernedLaws.{approved_lawful}
use Rattle.monitor.specs.RunLaws.{run_law}
use Rattle.monitor.proofs.monitors.Monitor.begin.Goals as goal

pub returns : goal.returns
returns g c = record {
  policy = c.begin.ensures.policy;
  state = c.begin.ensures.state;
  pile = refl;
  law =
      run_law (g.P.Rule.rules c.args.pile) (g.met.P.Rule.lawful c.args.pile)
      c.args.checked.policy.draft.tables
      (approved_lawful c.args.checked.policy) [] [] _ refl c.begin.ensures.state;
}
