use Rattle.std.proofs.Common.{arith}
use Rattle.records.specs.Kinds.{body_length}
use Rattle.records.proofs.Lengths.{entry}
use Rattle.records.proofs.kinds.body_length.Goals as goal

pub returns : goal.returns
unfolding body_length
returns c = entry c.args.kind (omega arith)
