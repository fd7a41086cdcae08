use Rattle.std.proofs.Common.{◌≡◌, None}
use Rattle.sets.specs.First.{first_of}
use Rattle.policy.specs.Search.{uninherited_conflict_at}
use Rattle.policy.proofs.questions.Questions.find_uninherited_conflict.Given as goal

abbrev pub invariant-loop-senior : goal.invariant-loop-senior
invariant-loop-senior l =
    first_of l.senior (λ a. first_of l.roles (λ b. first_of l.roles (λ c. uninherited_conflict_at l.self.seniority.now.rows l.self.tables.now a b c))) ≡ None

abbrev pub invariant-loop-junior : goal.invariant-loop-junior
invariant-loop-junior l =
    first_of l.junior (λ b. first_of l.roles (λ c. uninherited_conflict_at l.self.seniority.now.rows l.self.tables.now l.senior b c)) ≡ None

abbrev pub invariant-loop-other : goal.invariant-loop-other
invariant-loop-other l = first_of l.other (λ c. uninherited_conflict_at l.self.seniority.now.rows l.self.tables.now l.senior l.junior c) ≡ None
