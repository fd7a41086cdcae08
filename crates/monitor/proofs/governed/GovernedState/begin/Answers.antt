use Rattle.std.proofs.Common.{sym, subst}
use Rattle.monitor.specs.Authority.{Fits}
use Rattle.monitor.specs.NewStateLaws.{blank-fits}
use Rattle.monitor.proofs.governed.GovernedState.begin.Goals as goal

pub invariant_of-result : goal.invariant_of-result
invariant_of-result c =
    let t = c.into_policy.result.draft.tables in
    let fits = subst (Fits t) (sym c.new.ensures) (blank-fits t) in
    record {
      stored = fits.stored;
      ranged = fits.ranged;
      enabled_within = fits.enabled_within;
      open_within = fits.open_within;
    }
