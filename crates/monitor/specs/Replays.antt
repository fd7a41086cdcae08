-- What is seen of a replay: its monitor, and what its events were answered. Assumes nothing.
use Rattle.std.specs.Prelude.{List}
use Rattle.monitor.specs.Answers.{Answer}
use Rattle.monitor.specs.declared.monitors.Monitor.{Monitor}
use Rattle.monitor.specs.declared.replays.Replay.{Replay}

abbrev pub monitor_of : {P : Type 0} → Replay P → Monitor P
monitor_of r = r.monitor

abbrev pub answers_of : {P : Type 0} → Replay P → List Answer
answers_of r = r.answers.items
