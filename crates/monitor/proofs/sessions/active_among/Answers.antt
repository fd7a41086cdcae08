use Rattle.std.proofs.Common.{refl, ap, ◌∙◌, rules}
use Rattle.std.specs.List.{fold}
use Rattle.std.proofs.lemmas.Iterator.{YieldsList-from_slice}
use Rattle.std.proofs.lemmas.Iterator.Consumers.{fold_from_yields_List}
use borrow.Author.Tests.{tests}
use Rattle.sets.specs.Aliases.{RoleSet}
use Rattle.monitor.specs.Sessions.{active_where, active_in}
use Rattle.monitor.specs.FoldLaws.{gathers, with_items}
use Rattle.monitor.proofs.sessions.active_among.Goals as goal

pub returns : goal.returns
returns c =
    fold_from_yields_List _ (with_items (active_where c.args.whose)) _ _ c.fold.ensures.ran
    (YieldsList-from_slice c.args.sessions.now (cc)) (λ a x b f' k. search (rules, tests))
    ∙ ap (λ (s : RoleSet). fold (with_items (active_where c.args.whose)) s c.args.sessions.now)
    c.empty.ensures.value
    ∙ gathers (active_where c.args.whose) (active_in c.args.whose) refl (λ x ys. refl)
    c.args.sessions.now
