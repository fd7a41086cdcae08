-- Questions put one after the other: the first that is failed is answered.
use Rattle.std.proofs.Common.{◌≡◌, ℕ, Bool, false, not, ◌&&◌, Some, None, Option, Ok, Err, Result, ap}
use Rattle.std.proofs.lemmas.Bool.{and_left, and_right}
use Rattle.std.specs.Option.{option_map, option_or}
use Rattle.sets.specs.FirstLaws.{first_never}
use Rattle.sets.specs.First.{first_below}
use Rattle.policy.specs.Asking.{ok_unless}
use Rattle.policy.specs.declared.tables.Tables.{Tables}
use Rattle.families.specs.Precedence.{required, unmet_requirement}
use Rattle.families.specs.declared.precedence.RequirementKind.{RequirementKind}

pub stops : {X : Type 0} (a b : Option X) (r : Result (Unit {0}) X) (x : X)
    → ok_unless a ≡ Err x → r ≡ Err x → r ≡ ok_unless (option_or a b)
stops None b r x e f = cc
stops (Some y) b r x e f = cc

pub goes_on : {X : Type 0} (a b : Option X) (r : Result (Unit {0}) X) (y : Unit {0})
    → ok_unless a ≡ Ok y → r ≡ ok_unless b → r ≡ ok_unless (option_or a b)
goes_on None b r y e f = f
goes_on (Some x) b r y e f = cc

-- nothing is found where one of the two that it takes is never so
pub none_left : (n : ℕ) (f g : ℕ → Bool) → ((j : ℕ) → f j ≡ false)
    → first_below n (λ j. f j && g j) ≡ None
none_left n f g never = first_never n (λ j. f j && g j) (λ j l. and_left (f j) (g j) (never j))

pub none_right : (n : ℕ) (f g : ℕ → Bool) → ((j : ℕ) → g j ≡ false)
    → first_below n (λ j. f j && g j) ≡ None
none_right n f g never = first_never n (λ j. f j && g j) (λ j l. and_right (f j) (g j) (never j))

-- where nothing is required nothing is missing
pub unmet_requirement_none : (t : Tables) (k : RequirementKind) (r : ℕ) (stands : ℕ → Bool)
    → ((b : ℕ) → required t k r b ≡ false) → ok_unless (unmet_requirement t k r stands) ≡ Ok tt
unmet_requirement_none t k r stands never =
    ap (λ o. ok_unless (option_map (λ b. record { kind = k; role = b }) o))
    (none_left 32 (required t k r) (λ b. not (stands b)) never)
