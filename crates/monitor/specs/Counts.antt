-- How many granted events of a list make a role active, and how many end it. Assumes nothing.
use Rattle.std.specs.Prelude.{ℕ, ◌+◌, Bool, true, false, ◌&&◌, List, [], ◌∷◌, Ok, Err, ◌==◌}
use Rattle.sets.specs.Sets.{has}
use Rattle.records.specs.declared.event.Event.{Event}
use Rattle.records.specs.declared.event.Event.TheVariants.{Close, Activate, Deactivate}
use Rattle.monitor.specs.Answers.{Answer, roles_of}
use Rattle.monitor.specs.Sessions.{tally}

abbrev pub activates : Event → ℕ → Bool
activates (Activate s r) q = q == r
activates _ q = false

abbrev pub deactivates : Event → ℕ → Bool
deactivates (Deactivate s r) q = q == r
deactivates _ q = false

abbrev pub closes : Event → Bool
closes (Close s) = true
closes _ = false

abbrev pub granted : Answer → Bool
granted (Ok roles) = true
granted (Err r) = false

-- a granted activation of the role, a granted deactivation of it, a granted closing whose answer
-- lists it
abbrev pub activation : ℕ → Event → Answer → Bool
activation q e a = granted a && activates e q

abbrev pub deactivation : ℕ → Event → Answer → Bool
deactivation q e a = granted a && deactivates e q

abbrev pub closing : ℕ → Event → Answer → Bool
closing q e a = granted a && (closes e && has (roles_of a).bits q)

-- how many of the events, each with its answer, are of a sort
abbrev pub how_many : (Event → Answer → Bool) → List Event → List Answer → ℕ
how_many sort [] rs = 0
how_many sort (e ∷ es) [] = 0
how_many sort (e ∷ es) (a ∷ rs) = tally (sort e a) + how_many sort es rs
