-- The bare policy passes.
use Rattle.std.proofs.Common.{◌≡◌, Ok, refl, subst}
use Rattle.sets.specs.First.{first_of}
use Rattle.sets.specs.Sets.{has, union, with_member}
use Rattle.policy.specs.Questions.{Passes, Vetted}
use Rattle.policy.specs.Search.{verdict}
use Rattle.policy.specs.Seniority.{rows_union, closed_below}
use Rattle.policy.specs.Updates.{only, bare}
use Rattle.policy.specs.WellFormedLaws.{bare_well_formed}
use Rattle.policy.specs.VerdictLaws.{verdict_right}

bare-verdict : verdict bare ≡ Ok tt
unfolding only first_of has union with_member rows_union closed_below
bare-verdict = refl

pub bare-passes : Passes bare
bare-passes = subst (Vetted bare) bare-verdict (verdict_right bare bare_well_formed)
