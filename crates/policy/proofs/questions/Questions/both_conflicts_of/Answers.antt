use Rattle.std.proofs.Common.{◌≡◌, ◌&&◌, ◌∙◌, rules}
use Rattle.std.specs.Option.{option_map}
use Rattle.sets.specs.Sets.{has}
use Rattle.sets.specs.FirstLaws.{told-first}
use Rattle.policy.specs.declared.verdict.Failure.TheVariants.{BothConflicts}
use Rattle.policy.specs.Entries.{ssd_pair, dsd_pair}
use Rattle.policy.proofs.questions.Questions.both_conflicts_of.Goals as goal

pub returns : goal.returns
returns c =
    let t = c.args.self.now.tables.now in
    let a = c.args.first in
    let named : c.map.result ≡ option_map (BothConflicts a) c.lowest.result = search rules in
    named ∙ told-first 32 (λ b. ssd_pair t a b && dsd_pair t a b) (has c.intersection-both.result.bits) (BothConflicts a) c.lowest.result
    c.lowest.ensures.value (λ b. search rules)
