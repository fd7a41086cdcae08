-- The number and the names of each verdict, and which failure comes sooner. Assumes nothing.
use Rattle.std.specs.Prelude.{◌≡◌, ℕ, ◌<◌, ◌⊎◌, List, [], ◌∷◌, Ok, Err, Result}
use Rattle.policy.specs.declared.verdict.Failure.{Failure}
use Rattle.policy.specs.declared.verdict.Failure.TheVariants.{Cycle, SelfConflict, UninheritedConflict, BothConflicts, UninheritedUserConflict, UninheritedAssignmentConflict}

-- a policy passes, or fails a question
abbrev pub Verdict : Type 0
Verdict = Result (Unit {0}) Failure

abbrev pub failure_number : Failure → ℕ
failure_number (Cycle a b) = 11
failure_number (SelfConflict a) = 12
failure_number (UninheritedConflict a b c) = 13
failure_number (BothConflicts a b) = 14
failure_number (UninheritedUserConflict a b u v) = 15
failure_number (UninheritedAssignmentConflict a b u v) = 16

-- four names; unused ones are 0
abbrev pub failure_names : Failure → List ℕ
failure_names (Cycle a b) = a ∷ b ∷ 0 ∷ 0 ∷ []
failure_names (SelfConflict a) = a ∷ 0 ∷ 0 ∷ 0 ∷ []
failure_names (UninheritedConflict a b c) = a ∷ b ∷ c ∷ 0 ∷ []
failure_names (BothConflicts a b) = a ∷ b ∷ 0 ∷ 0 ∷ []
failure_names (UninheritedUserConflict a b u v) = a ∷ b ∷ u ∷ v ∷ []
failure_names (UninheritedAssignmentConflict a b u v) = a ∷ b ∷ u ∷ v ∷ []

abbrev pub number_of : Verdict → ℕ
number_of (Ok _) = 0
number_of (Err f) = failure_number f

abbrev pub names_of : Verdict → List ℕ
names_of (Ok _) = 0 ∷ 0 ∷ 0 ∷ 0 ∷ []
names_of (Err f) = failure_names f

-- names are compared first name first
abbrev pub Lower : List ℕ → List ℕ → Type 0
Lower [] ys = ⊥
Lower (x ∷ xs) [] = ⊥
Lower (x ∷ xs) (y ∷ ys) = (x < y) ⊎ ((x ≡ y) × Lower xs ys)

-- an earlier question comes first; of one question, the lower names
abbrev pub Sooner : Failure → Failure → Type 0
Sooner f g =
    (failure_number f < failure_number g)
    ⊎ ((failure_number f ≡ failure_number g) × Lower (failure_names f) (failure_names g))
