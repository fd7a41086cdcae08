use Rattle.std.proofs.Common.{rules}
use Rattle.std.proofs.lemmas.List.FromFn.{fill_by_all}
use Rattle.policy.specs.Entries.{no_roles}
use Rattle.policy.specs.Seniority.{only_itself}
use Rattle.policy.proofs.seniority.alone.Goals as goal

pub returns : goal.returns
returns c = fill_by_all only_itself _ 32 no_roles c.from_fn.ensures.items.long (λ k l. let called = c.from_fn.ensures.items.at k no_roles l in search rules)
