use Rattle.std.proofs.Common.{length, sym, refl, ap, ◌∙◌, arith}
use Rattle.monitor.specs.declared.run.Outcome.{Outcome}
use Rattle.monitor.specs.Scripts.{script_of}
use Rattle.monitor.specs.ScriptLaws.{joins, within}
use Rattle.monitor.specs.GovernedLaws.{approved_lawful}
use Rattle.monitor.specs.RunLaws.{extends_run}
use Rattle.monitor.proofs.run.run.Goals as goal

pub returns : goal.returns
returns g c =
    let m = c.args.monitor.now in
    let ms = g.P.Rule.rules m.pile in
    let t = m.governed.policy.draft.tables in
    let bytes = c.args.bytes.now in
    let rows = c.args.rows.now in
    let is = c.fill-end.ensures in
    let bound = within (length rows) bytes 0 in
    let count = ap (λ (o : Outcome). o.rows) is.answer in
    let taken = ap (λ (o : Outcome). o.bytes) is.answer in
    record {
      answer = is.answer;
      rows = is.rows;
      state = is.state;
      same = is.same;
      law =
          extends_run ms (g.met.P.Rule.lawful m.pile) t (approved_lawful m.governed.policy)
          m.governed.state.cells _ (script_of bytes rows).events _ refl is.state;
      within = record {
        filled = omega (arith, count, bound.rows);
        each = omega (arith, count, taken, bound.each);
        taken = omega (arith, taken, bound.taken);
      };
      joins =
          λ e. joins ms t m.governed.state.cells bytes (length rows)
          (sym (ap (λ (o : Outcome). o.end) is.answer) ∙ e);
    }
