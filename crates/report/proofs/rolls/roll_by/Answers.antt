use Rattle.std.proofs.Common.{string_bytes, refl}
use Rattle.monitor.specs.Governed.{policy_of, cells_of}
use Rattle.monitor.specs.Monitors.{state_of, pile_of}
use Rattle.policy.specs.Approved as approved
use Rattle.report.proofs.RollLaws.{roll_written, roll_law, verdict_law}
use Rattle.report.proofs.rolls.roll_by.Goals as goal

pub returns-clause-text : goal.returns-clause-text
returns-clause-text g c =
    let m = c.begin-monitor.result in
    let judged = c.read_and_check-judged in
    roll_written (g.P.Rule.rules c.args.pile) c.args.bytes.now g.P.Rule.rules c.args.pile
    (pile_of m) c.begin-monitor.ensures.pile refl
    judged.result c.in-Ok.policy _ (approved.policy_of judged.new.held) (policy_of (state_of m))
    (cells_of (state_of m)) c.if-bytes-gt-MOST.false
    judged.ensures.answer c.in-Ok.is c.is_err.ensures.value c.if-is_err.false
    c.begin-monitor.ensures.policy judged.ensures.policy c.begin-monitor.ensures.state
    c.from-line.result c.from-line.ensures (string_bytes c.new-text.result)
    (string_bytes c.writeln-2.new.self) (string_bytes c.write_events.new.text)
    c.new-text.ensures.bytes c.in_ok-writeln-2.ensures.bytes c.in_ok-write_events.ensures

pub returns-clause-law : goal.returns-clause-law
returns-clause-law g c = roll_law (g.P.Rule.rules c.args.pile) c.args.bytes.now _
    (g.met.P.Rule.lawful c.args.pile) (returns-clause-text g c)

pub returns-clause-verdict : goal.returns-clause-verdict
returns-clause-verdict g c = verdict_law (g.P.Rule.rules c.args.pile) c.args.bytes.now _
    (returns-clause-text g c)
