-- Calls that leave the policy and the pile as they were, one after another. It proves, for the
-- crates above, and assumes nothing.
use Rattle.std.proofs.Common.{◌∙◌}
use Rattle.monitor.specs.declared.monitors.Monitor.{Monitor}
use Rattle.monitor.specs.Monitors.{SamePolicy}

pub also_same : {P : Type 0} {a b c : Monitor P} → SamePolicy a b → SamePolicy b c → SamePolicy a c
also_same old new = record { policy = new.policy ∙ old.policy; pile = new.pile ∙ old.pile }
