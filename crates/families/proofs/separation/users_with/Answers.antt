use Rattle.std.proofs.Common.{ap, ◌∙◌, ◌||◌, rules}
use Rattle.std.specs.List.{fold, filter}
use Rattle.std.proofs.lemmas.Iterator.{YieldsList-from_slice}
use Rattle.std.proofs.lemmas.Iterator.Consumers.{YieldsList-from_filter, fold_from_yields_List}
use borrow.Author.Tests.{tests}
use Rattle.sets.specs.Sets.{has}
use Rattle.sets.specs.Aliases.{UserSet}
use Rattle.sets.specs.SetLaws.{has-zero}
use Rattle.monitor.specs.declared.sessions.Whose.TheVariants.{User}
use Rattle.monitor.specs.Sessions.{active_in}
use Rattle.families.proofs.UsersWithRole.{has_active, with_owner, owners}
use Rattle.families.proofs.separation.users_with.Goals as goal

pub returns : goal.returns
returns c v l =
    ap (λ (s : UserSet). has s.bits v)
    (fold_from_yields_List _ with_owner _ _ c.fold.ensures.ran
    (YieldsList-from_filter _ (has_active c.args.role)
    (YieldsList-from_slice c.args.sessions.now (cc)) c.filter.ensures.closure
    (λ x b q k. search (rules, tests)))
    (λ a x b f' k. search (rules, tests))
    ∙ ap (λ (s : UserSet). fold with_owner s (filter (has_active c.args.role) c.args.sessions.now))
    c.empty.ensures.value)
    ∙ owners c.args.sessions.now (record { bits = 0 }) c.args.role v l
    ∙ ap (λ b. b || has (active_in (User v) c.args.sessions.now) c.args.role) (has-zero v)
