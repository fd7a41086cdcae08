use Rattle.std.proofs.Common.{rules}
use Rattle.policy.proofs.Finding.{first_from_find_map}
use Rattle.policy.proofs.questions.Questions.find_uninherited_assignments.Goals as goal

pub returns : goal.returns
returns c = first_from_find_map _ _ _ _ _ c.find_map.ensures.runs (λ x a q k. search rules)
