-- Questions asked one after another: the first that is failed refuses. Assumes nothing.
use Rattle.std.specs.Prelude.{Bool, if◌then◌else◌, Some, None, Option, Ok, Err, Result}

-- a question: where it holds the next one is asked
abbrev pub question : {E : Type 0} → Bool → E → Option E → Option E
question holds error next = if holds then next else Some error

-- the answer of code that asks them: Ok, unless something was found
abbrev pub ok_unless : {E : Type 0} → Option E → Result (Unit {0}) E
ok_unless None = Ok tt
ok_unless (Some e) = Err e
