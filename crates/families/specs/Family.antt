-- The meaning of a family of rules: the states that it allows, and its questions. Assumes nothing.
--   by_change    questions that are put to the change that an event makes
--   if_any       nothing is asked where nothing is gained
--   family       the meaning of a family
--   Exact        it admits exactly what leads to a state that it allows
use Rattle.std.specs.Prelude.{◌≡◌, ℕ, true, not, is_some, Some, None, Option, if◌then◌else◌, ◌==◌}
use Rattle.records.specs.declared.event.Event.{Event}
use Rattle.policy.specs.declared.tables.Tables.{Tables}
use Rattle.monitor.specs.declared.changes.Change.{Change}
use Rattle.monitor.specs.declared.states.Cells.{Cells}
use Rattle.monitor.specs.Authority.{Fits}
use Rattle.monitor.specs.Changes.{change_of, next}
use Rattle.monitor.specs.Meaning.{Meaning, Lawful}
use Rattle.monitor.specs.Possible.{Possible}

-- what a violation says; 0 where there is none
abbrev pub detail : {X : Type 0} → (X → ℕ) → Option X → ℕ
detail f None = 0
detail f (Some x) = f x

abbrev pub by_change : {X : Type 0} → (Tables → Cells → Change → Option X)
    → Tables → Cells → Event → Option X
by_change violation t c e = violation t c (change_of c e)

-- a question that is asked where there is something in the set
abbrev pub if_any : {X : Type 0} → ℕ → Option X → Option X
if_any set violation = if set == 0 then None else violation

-- it admits what violates none of its questions, and names the first that is violated
abbrev pub family : {X : Type 0} → (Tables → Cells → Type 0)
    → (Tables → Cells → Event → Option X) → (X → ℕ) → (X → ℕ) → Meaning
family allowed violation number subject = record {
  allowed = allowed;
  admits = λ t c e. not (is_some (violation t c e));
  number = λ t c e. detail number (violation t c e);
  subject = λ t c e. detail subject (violation t c e);
}

-- in a state that it allows, a rule admits a possible event exactly when it allows the state that a
-- grant makes
pub record Exact (m : Meaning) : Type 0 where
  pub admitted_leads_on : (t : Tables) (c : Cells) (e : Event)
      → Lawful t → Fits t c → Possible t c e
      → m.allowed t c → m.admits t c e ≡ true → m.allowed t (next t c e)
  pub allowed_is_admitted : (t : Tables) (c : Cells) (e : Event)
      → Lawful t → Fits t c → Possible t c e
      → m.allowed t c → m.allowed t (next t c e) → m.admits t c e ≡ true
