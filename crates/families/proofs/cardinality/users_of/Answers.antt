use Rattle.std.proofs.Common.{◌≡◌, ℕ, ap, ◌∙◌, rules}
use Rattle.sets.specs.Sets.{count_below}
use Rattle.policy.specs.Entries.{holds}
use Rattle.families.proofs.cardinality.users_of.Goals as goal

pub returns : goal.returns
returns c =
    let full : c.loop-roles.roles-index ≡ 64 = search rules in
    c.loop-roles.invariant.0
    ∙ ap (λ (n : ℕ). count_below n (λ u. holds c.args.authorised.now u c.args.role)) full
