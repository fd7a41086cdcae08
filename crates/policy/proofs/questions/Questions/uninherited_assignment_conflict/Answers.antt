use Rattle.std.proofs.Common.{◌≡◌, ℕ, not, ◌&&◌, ◌∙◌, rules}
use Rattle.std.specs.Option.{option_map}
use Rattle.sets.specs.Sets.{has}
use Rattle.sets.specs.FirstLaws.{told-first}
use Rattle.policy.specs.declared.verdict.Failure.TheVariants.{UninheritedAssignmentConflict}
use Rattle.policy.specs.Entries.{assignment_pair}
use Rattle.policy.proofs.questions.Questions.uninherited_assignment_conflict.Goals as goal

pub returns : goal.returns
returns c =
    let t = c.args.self.now.tables.now in
    let a = c.args.senior in
    let b = c.args.junior in
    let u = c.args.first in
    let lost = λ (v : ℕ). assignment_pair t b u v && not (assignment_pair t a u v) in
    let named : c.map.result
    ≡ option_map (UninheritedAssignmentConflict a b u) c.lowest.result = search rules in
    named
    ∙ told-first 64 lost (has c.difference-lost.result.bits) (UninheritedAssignmentConflict a b u)
    c.lowest.result c.lowest.ensures.value (λ v. search rules)
