use Rattle.std.proofs.Common.{sym, ap, ◌∙◌}
use Rattle.monitor.specs.Changes.{applied}
use Rattle.monitor.specs.GovernedLaws.{moved_fits}
use Rattle.monitor.proofs.governed.GovernedState.grant.Goals as goal

pub invariant_of-self : goal.invariant_of-self
invariant_of-self c =
    let g = c.args.self.now in
    let fits = moved_fits g c.args.event _ (sym c.requires.possible)
    (c.apply.ensures ∙ ap (applied g.policy.draft.tables g.state.cells) c.requires.change) in (
      (fits.sound.wide, (fits.sound.owned, (fits.sound.live, (fits.sound.entitled, tt)))),
      (fits.stored, (fits.ranged, (fits.enabled_within, (fits.open_within, tt)))),
    )
