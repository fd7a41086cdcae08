use Rattle.std.proofs.Common.{◌≡◌, ℕ, true, false, not, ◌&&◌, ap, ◌∙◌, rules}
use Rattle.std.proofs.lemmas.Iterator.{first_from_Range}
use borrow.Author.Tests.{tests}
use Rattle.sets.specs.Aliases.{RoleSet}
use Rattle.sets.specs.Sets.{has}
use Rattle.monitor.specs.declared.states.Cells.{Cells}
use Rattle.monitor.specs.Cells.{assigned_roles, is_assigned}
use Rattle.monitor.specs.PossibleEvents.{tables_of, cells_of}
use Rattle.families.proofs.Holders.{first_of_search, stands_against_any, among_new, unlisted}
use Rattle.families.proofs.assignment_conflicts.lowest_against.Goals as goal

pub returns-then-not-is_listed : goal.returns-then-not-is_listed
returns-then-not-is_listed c =
    let p = c.args.possible in
    unlisted (tables_of p) (cells_of p) c.args.user c.args.roles c.difference-new.result
    (λ r. c.difference-new.ensures.members r
    ∙ ap (λ (s : RoleSet). has c.args.roles.bits r && not (has s.bits r))
    (c.assigned.ensures ∙ ap (λ (x : Cells). assigned_roles x c.args.user) c.cells.ensures))
    (search rules)

pub returns : goal.returns
returns c =
    let p = c.args.possible in
    let new = c.difference-new.result in
    let are_new : (r : ℕ) → has new.bits r
    ≡ (has c.args.roles.bits r && not (is_assigned (cells_of p) c.args.user r)) = λ r.
    c.difference-new.ensures.members r
    ∙ ap (λ (s : RoleSet). has c.args.roles.bits r && not (has s.bits r))
    (c.assigned.ensures ∙ ap (λ (x : Cells). assigned_roles x c.args.user) c.cells.ensures) in
    let test = stands_against_any (tables_of p) (cells_of p) c.args.user new in
    first_of_search 64 test c.find.result
    (first_from_Range _ _ _ c.find.result (λ v. test v ≡ true) (λ v. test v ≡ false) c.find.ensures.ran
    (λ v q k. search (rules, tests)) (λ v q k. search (rules, tests)))
    ∙ among_new (tables_of p) (cells_of p) c.args.user c.args.roles new are_new
