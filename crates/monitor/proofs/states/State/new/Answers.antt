use Rattle.std.proofs.Common.{sym, subst}
use Rattle.policy.specs.Updates.{bare}
use Rattle.monitor.specs.Cells.{Sound}
use Rattle.monitor.specs.NewStateLaws.{blank-fits}
use Rattle.monitor.proofs.states.State.new.Goals as goal

pub invariant_of-result : goal.invariant_of-result
invariant_of-result c =
    let sound = subst Sound (sym c.blank_cells.ensures) (blank-fits bare).sound in
    record { wide = sound.wide; owned = sound.owned; live = sound.live; entitled = sound.entitled }
