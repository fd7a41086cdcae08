use Rattle.std.proofs.Common.{ℕ, Some, None, Option, sym}
use Rattle.std.proofs.lemmas.Bool.{cond-true, cond-false}
use Rattle.sets.specs.First.{first_of}
use Rattle.sets.specs.FirstLaws.{none_more, none_end, found_here}
use Rattle.policy.specs.declared.verdict.Failure.{Failure}
use Rattle.policy.specs.declared.verdict.Failure.TheVariants.{UninheritedConflict}
use Rattle.policy.specs.Search.{uninherited_conflict_at}
use Rattle.policy.proofs.questions.Questions.find_uninherited_conflict.Goals as goal

pub loop-other-preserved : goal.loop-other-preserved
loop-other-preserved c =
    none_more c.loop-other.other (uninherited_conflict_at c.args.self.now.seniority.now.rows c.args.self.now.tables.now c.loop-senior.senior c.loop-junior.junior) c.loop-other.invariant
    (cond-false _ (Some (UninheritedConflict c.loop-senior.senior c.loop-junior.junior c.loop-other.other)) None (sym c.if-is_uninherited_conflict.ensures))

pub loop-junior-preserved : goal.loop-junior-preserved
loop-junior-preserved c =
    let n = c.args.self.now.tables.now.sizes.roles in
    let at : ℕ → ℕ → Option Failure = uninherited_conflict_at c.args.self.now.seniority.now.rows c.args.self.now.tables.now c.loop-senior.senior in
    let j = c.loop-junior.junior in
    none_more j (λ b. first_of n (at b)) c.loop-junior.invariant (none_end n (at j) c.loop-other.other c.loop-other-test.false c.loop-other.invariant)

pub loop-senior-preserved : goal.loop-senior-preserved
loop-senior-preserved c =
    let n = c.args.self.now.tables.now.sizes.roles in
    let at : ℕ → ℕ → ℕ → Option Failure = uninherited_conflict_at c.args.self.now.seniority.now.rows c.args.self.now.tables.now in
    let i = c.loop-senior.senior in
    none_more i (λ a. first_of n (λ b. first_of n (at a b))) c.loop-senior.invariant
    (none_end n (λ b. first_of n (at i b)) c.loop-junior.junior c.loop-junior-test.false c.loop-junior.invariant)

pub returns-then-is_uninherited_conflict : goal.returns-then-is_uninherited_conflict
returns-then-is_uninherited_conflict c =
    let n = c.args.self.now.tables.now.sizes.roles in
    let at : ℕ → ℕ → ℕ → Option Failure = uninherited_conflict_at c.args.self.now.seniority.now.rows c.args.self.now.tables.now in
    let a = c.loop-senior.senior in
    let b = c.loop-junior.junior in
    let x = UninheritedConflict a b c.loop-other.other in
    sym (found_here n (λ i. first_of n (λ j. first_of n (at i j))) a x c.loop-senior-test.true c.loop-senior.invariant
    (found_here n (λ j. first_of n (at a j)) b x c.loop-junior-test.true c.loop-junior.invariant
    (found_here n (at a b) c.loop-other.other x c.loop-other-test.true c.loop-other.invariant (cond-true _ (Some x) None (sym c.if-is_uninherited_conflict.ensures)))))
