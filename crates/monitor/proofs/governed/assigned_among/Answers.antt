use Rattle.std.proofs.Common.{refl, ap, ◌∙◌, rules}
use Rattle.std.specs.List.{fold}
use Rattle.std.proofs.lemmas.Iterator.{YieldsList-from_slice}
use Rattle.std.proofs.lemmas.Iterator.Consumers.{fold_from_yields_List}
use borrow.Author.Tests.{tests}
use Rattle.sets.specs.Aliases.{RoleSet}
use Rattle.monitor.specs.Cells.{assigned_in}
use Rattle.monitor.specs.FoldLaws.{gathers, with_items}
use Rattle.monitor.proofs.governed.assigned_among.Goals as goal

pub returns : goal.returns
returns c =
    fold_from_yields_List _ (with_items (λ (s : RoleSet). s.bits)) _ _ c.fold.ensures.ran
    (YieldsList-from_slice c.args.users.now (cc)) (λ a x b f' k. search (rules, tests))
    ∙ ap (λ (s : RoleSet). fold (with_items (λ (x : RoleSet). x.bits)) s c.args.users.now)
    c.empty.ensures.value
    ∙ gathers (λ (s : RoleSet). s.bits) assigned_in refl (λ x xs. refl) c.args.users.now
