use Rattle.shift.proofs.DeskLaws.{asked_then}
use Rattle.shift.proofs.go_on.Goals as goal

pub returns : goal.returns
returns c = asked_then c.ask.ensures c.ask-2.ensures
