use Rattle.std.proofs.Common.{ap, ◌∙◌}
use Rattle.records.specs.declared.event.Event.TheVariants.{Open}
use Rattle.policy.specs.Approved as approved
use Rattle.policy.specs.declared.approved.Approved.{Approved}
use Rattle.policy.specs.declared.tables.Tables.{Tables}
use Rattle.monitor.specs.declared.states.Cells.{Cells}
use Rattle.monitor.specs.Cells.{blank}
use Rattle.monitor.specs.Governed.{cells_of}
use Rattle.monitor.specs.History.{reply, after}
use Rattle.monitor.specs.Monitors.{state_of}
use Rattle.monitor.specs.Rows.{row_of}
use Rattle.families.specs.House.{house_rules}
use Rattle.shift.proofs.after_restart.Goals as goal

pub returns : goal.returns
returns c =
    let journal = c.args.journal.now in
    let room = c.resume-room.result in
    let t = approved.tables_of (approved.policy_of c.sample.result) in
    c.of.ensures
    ∙ ap (row_of (Open 1 1)) (c.judge.ensures
    ∙ ap (λ (p : Approved). reply house_rules (approved.tables_of p) (cells_of (state_of room))
    (Open 1 1)) c.resume-room.ensures.policy
    ∙ ap (λ (k : Cells). reply house_rules t k (Open 1 1)) c.resume-room.ensures.state
    ∙ ap (λ (x : Tables). reply house_rules x (after house_rules x blank journal) (Open 1 1))
    c.sample.ensures)
