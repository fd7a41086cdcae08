-- A rule that allows every state and admits every event. Assumes nothing.
use Rattle.std.specs.Prelude.{true}
use Rattle.monitor.specs.Meaning.{Meaning}

abbrev pub lenient : Meaning
lenient = record {
  allowed = λ t c. Unit {0};
  admits = λ t c e. true;
  number = λ t c e. 100;
  subject = λ t c e. 0;
}
