use Rattle.std.proofs.Common.{rules}
use Rattle.policy.specs.Entries.{no_roles}
use Rattle.policy.specs.Seniority.{row_with_below}
use Rattle.policy.specs.RowsUnionLaws.{map_from_array}
use Rattle.policy.proofs.seniority.spread.Goals as goal

pub returns : goal.returns
returns c = map_from_array _ _ (row_with_below c.args.role c.args.below.bits) (λ x r q k. search rules) c.args.rows.now _ no_roles no_roles 32 c.told-rows c.map.ensures.items
