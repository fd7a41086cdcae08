-- That all that an event requires stands, in the words of the policy and the state. Assumes
-- nothing.
--   EachStands         each role that a role requires so, by the kind, stands
--   AllStands          all that an event requires, of each kind, stands
--   AdmitsWhatStands   a rule admits an event exactly where all that it requires stands
use Rattle.std.specs.Prelude.{◌≡◌, ℕ, ◌<◌, true}
use Rattle.records.specs.declared.event.Event.{Event}
use Rattle.records.specs.declared.event.Event.TheVariants.{Assign, Enable, Activate}
use Rattle.policy.specs.declared.tables.Tables.{Tables}
use Rattle.monitor.specs.declared.states.Cells.{Cells}
use Rattle.monitor.specs.Cells.{is_active, is_assigned, is_enabled, session_at}
use Rattle.monitor.specs.Meaning.{Meaning}
use Rattle.monitor.specs.Sessions.{owner}
use Rattle.monitor.specs.Standing.{AssignedToAny, ActiveFor, ActiveForAny}
use Rattle.families.specs.Precedence.{required}
use Rattle.families.specs.declared.precedence.RequirementKind.{RequirementKind}
use Rattle.families.specs.declared.precedence.RequirementKind.TheVariants as kind

-- of the 32 role numbers
abbrev pub EachStands : Tables → RequirementKind → ℕ → (ℕ → Type 0) → Type 0
EachStands t k r Stands = (b : ℕ) → b < 32 → required t k r b ≡ true → Stands b

-- enabled; assigned to the same user, and to any; active for any user, in the same session, and for
-- its owner
abbrev pub AllStands : Tables → Cells → Event → Type 0
AllStands t c (Enable r) = EachStands t kind.Enabled r (λ b. is_enabled c b ≡ true)
AllStands t c (Assign u r) =
    EachStands t kind.AssignedToUser r (λ b. is_assigned c u b ≡ true)
    × EachStands t kind.AssignedToAny r (AssignedToAny c)
AllStands t c (Activate s r) =
    EachStands t kind.ActiveForAny r (ActiveForAny c)
    × EachStands t kind.ActiveInSession r (λ b. is_active c s b ≡ true)
    × EachStands t kind.ActiveForOwner r (ActiveFor c (owner (session_at c s)))
AllStands t c _ = Unit {0}

pub record AdmitsWhatStands (m : Meaning) : Type 0 where
  pub admitted_stands : (t : Tables) (c : Cells) (e : Event)
      → m.admits t c e ≡ true → AllStands t c e
  pub standing_is_admitted : (t : Tables) (c : Cells) (e : Event)
      → AllStands t c e → m.admits t c e ≡ true
