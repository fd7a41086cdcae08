use Rattle.std.proofs.Common.{◌<◌, sym, subst, arith}
use Rattle.std.proofs.lemmas.Bool.{eqb-true, eqb-false}
use Rattle.sets.specs.Sets.{has}
use Rattle.sets.specs.FirstLaws.{First, first_is}
use Rattle.sets.specs.SetLaws.{empty_none, least, lowest_none}
use Rattle.sets.proofs.bit_set.BitSet.lowest.Goals as goal

pub returns-then-is_empty : goal.returns-then-is_empty
returns-then-is_empty g c =
    let n = g.W.Word.value c.args.self.bits in
    let none = eqb-true n 0 (sym c.if-is_empty.ensures.value) in
    record { value = sym (lowest_none g.W.Word.width n none); members = empty_none n none }

pub returns-else-is_empty : goal.returns-else-is_empty
returns-else-is_empty g c =
    let w = g.W.Word.width in
    let n = g.W.Word.value c.args.self.bits in
    let some : 0 < n = omega (arith, eqb-false n 0 (sym c.if-is_empty.ensures.value)) in
    let t = c.trailing_zeros in
    let l = subst (First w (has n)) (sym t.ensures.value) (least w n t.ensures.within some) in
    record { value = sym (first_is w (has n) t.result l.within l.passes l.before); members = (l.passes, l.before) }
