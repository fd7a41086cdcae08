use Rattle.std.proofs.Common.{◌∙◌}
use Rattle.std.proofs.lemmas.Bool.{eq-eqb}
use Rattle.sets.specs.SetLaws.{none_empty}
use Rattle.sets.proofs.bit_set.BitSet.is_empty.Goals as goal

pub returns-clause-isnt : goal.returns-clause-isnt
returns-clause-isnt g c = λ f.
    let w = g.W.Word in
    let n = w.value c.args.self.bits in
    c.is_zero.ensures.value ∙ eq-eqb n 0 (none_empty w.width n c.is_zero.ensures.within f)
