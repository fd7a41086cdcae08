-- The number, the subject, the place and the roles of each answer. Assumes nothing.
use Rattle.std.specs.Prelude.{ℕ, Ok, Err, Result}
use Rattle.sets.specs.Aliases.{RoleSet}
use Rattle.policy.specs.Entries.{no_roles}
use Rattle.monitor.specs.declared.answers.Reason.{Reason}
use Rattle.monitor.specs.declared.answers.Refusal.{Refusal}
use Rattle.monitor.specs.declared.answers.Refusal.TheVariants.{Impossible, Refused}
use Rattle.monitor.specs.declared.answers.Impossibility.{Impossibility}
use Rattle.monitor.specs.declared.answers.Impossibility.TheVariants.{OutOfRange, AlreadyAuthorised, NotAssigned, AlreadyEnabled, NotEnabled, AlreadyOpen, NotOpen, RoleDisabled, NotAuthorised, AlreadyActive, NotActive, InUse, StillActive}

-- done, with the roles that the event lists; or not possible, or not admitted by a rule of the pile
abbrev pub Answer : Type 0
Answer = Result RoleSet Refusal

abbrev pub impossibility_number : Impossibility → ℕ
impossibility_number OutOfRange = 4
impossibility_number AlreadyAuthorised = 21
impossibility_number NotAssigned = 22
impossibility_number AlreadyEnabled = 23
impossibility_number NotEnabled = 24
impossibility_number AlreadyOpen = 25
impossibility_number NotOpen = 26
impossibility_number RoleDisabled = 27
impossibility_number NotAuthorised = 28
impossibility_number AlreadyActive = 29
impossibility_number NotActive = 30
impossibility_number InUse = 31
impossibility_number (StillActive role) = 32

abbrev pub impossibility_subject : Impossibility → ℕ
impossibility_subject (StillActive role) = role
impossibility_subject _ = 0

-- the reason that a rule by itself names
abbrev pub at_top : ℕ → ℕ → Reason
at_top number subject = record { number = number; subject = subject; place = 1 }

abbrev pub refusal_number : Refusal → ℕ
refusal_number (Impossible why) = impossibility_number why
refusal_number (Refused reason) = reason.number

abbrev pub refusal_subject : Refusal → ℕ
refusal_subject (Impossible why) = impossibility_subject why
refusal_subject (Refused reason) = reason.subject

abbrev pub refusal_place : Refusal → ℕ
refusal_place (Impossible why) = 0
refusal_place (Refused reason) = reason.place

abbrev pub number_of : Answer → ℕ
number_of (Ok roles) = 0
number_of (Err r) = refusal_number r

abbrev pub subject_of : Answer → ℕ
subject_of (Ok roles) = 0
subject_of (Err r) = refusal_subject r

abbrev pub place_of : Answer → ℕ
place_of (Ok roles) = 0
place_of (Err r) = refusal_place r

abbrev pub roles_of : Answer → RoleSet
roles_of (Ok roles) = roles
roles_of (Err r) = no_roles
