-- What is seen of a monitor. Assumes nothing.
--   state_of        its state, under its policy
--   pile_of         its pile
--   SamePolicy      a call leaves the policy and the pile as they were
use Rattle.std.specs.Prelude.{◌≡◌}
use Rattle.monitor.specs.declared.governed.GovernedState.{GovernedState}
use Rattle.monitor.specs.declared.monitors.Monitor.{Monitor}
use Rattle.monitor.specs.Governed.{policy_of}

abbrev pub state_of : {P : Type 0} → Monitor P → GovernedState
state_of m = m.governed

abbrev pub pile_of : {P : Type 0} → Monitor P → P
pile_of m = m.pile

pub record SamePolicy {P : Type 0} (old new : Monitor P) : Type 0 where
  pub policy : policy_of (state_of new) ≡ policy_of (state_of old)
  pub pile : pile_of new ≡ pile_of old
