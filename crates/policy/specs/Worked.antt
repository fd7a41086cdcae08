-- What the written rules say of five small policies, as bytes. Assumes nothing.
use Rattle.std.specs.Prelude.{◌≡◌, ℕ, List, [], ◌∷◌, Ok, Err}
use Rattle.policy.specs.declared.verdict.Failure.TheVariants.{Cycle, SelfConflict, UninheritedConflict, UninheritedAssignmentConflict}
use Rattle.policy.specs.Questions.{Vetted}
use Rattle.policy.specs.Reading.{reading, answer_of, draft_of}
use Rattle.policy.specs.Verdicts.{Verdict}

-- the bytes are read whole, and the verdict on them is the right one
abbrev pub Judged : List ℕ → ℕ → Verdict → Type 0
Judged bytes count v = (answer_of (reading bytes) ≡ Ok count) × Vetted (draft_of (reading bytes)) v

-- role 0 inherits 1; static pairs 1 with 2 and 0 with 2; role 3 depends on 1
abbrev pub sample : List ℕ
sample = 1 ∷ 2 ∷ 4 ∷ 2 ∷ 2 ∷ 0 ∷ 1 ∷ 3 ∷ 1 ∷ 2 ∷ 3 ∷ 0 ∷ 2 ∷ 11 ∷ 3 ∷ 1 ∷ 12 ∷ []

-- the same without the pair of 0 and 2
abbrev pub unpaired : List ℕ
unpaired = 1 ∷ 2 ∷ 4 ∷ 2 ∷ 2 ∷ 0 ∷ 1 ∷ 3 ∷ 1 ∷ 2 ∷ 11 ∷ 3 ∷ 1 ∷ 12 ∷ []

-- a static pair of role 2 with itself
abbrev pub selfpaired : List ℕ
selfpaired = 1 ∷ 2 ∷ 4 ∷ 2 ∷ 3 ∷ 2 ∷ 2 ∷ 12 ∷ []

-- role 0 inherits 1, and 1 inherits 0
abbrev pub cyclic : List ℕ
cyclic = 1 ∷ 2 ∷ 4 ∷ 2 ∷ 2 ∷ 0 ∷ 1 ∷ 2 ∷ 1 ∷ 0 ∷ 12 ∷ []

-- role 0 inherits 1; users 1 and 0 may not share an assignment of 1
abbrev pub unshared : List ℕ
unshared = 1 ∷ 3 ∷ 3 ∷ 1 ∷ 2 ∷ 0 ∷ 1 ∷ 13 ∷ 1 ∷ 1 ∷ 0 ∷ 12 ∷ []

pub record Worked : Type 0 where
  pub the_sample_passes : Judged sample 17 (Ok tt)
  pub a_senior_lacks_a_conflict : Judged unpaired 14 (Err (UninheritedConflict 0 1 2))
  pub in_conflict_with_itself : Judged selfpaired 8 (Err (SelfConflict 2))
  pub inheriting_each_other : Judged cyclic 11 (Err (Cycle 0 1))
  pub a_senior_may_be_shared : Judged unshared 12 (Err (UninheritedAssignmentConflict 0 1 0 1))
