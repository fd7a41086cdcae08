use Rattle.std.proofs.Common.{◌∙◌, rules}
use Rattle.std.proofs.lemmas.Result.{err_from_is_err_and}
use Rattle.monitor.proofs.Piles.{ruling_upper, ruling_lower, mapped_deeper}
use Rattle.monitor.proofs.pairs.PairRule.consult.Goals as goal

pub returns-in_err-consult : goal.returns-in_err-consult
returns-in_err-consult g c =
    let a = c.args.possible in
    let p = err_from_is_err_and c.from_residual.result c.from_residual.ensures.1 in
    rw (p.1, p.2) (ruling_upper a.governed.now.policy.draft.tables a.governed.now.state.cells
    a.event (g.U.Rule.rules c.args.self.now.upper) (g.L.Rule.rules c.args.self.now.lower) _
    c.in_err-consult.ensures)

pub returns : goal.returns
returns g c =
    let a = c.args.possible in
    mapped_deeper c.places-above.result _ _ _ (λ r z k. search rules) c.map_err.ensures.cases
    ∙ ruling_lower a.governed.now.policy.draft.tables a.governed.now.state.cells a.event
    (g.U.Rule.rules c.args.self.now.upper) (g.L.Rule.rules c.args.self.now.lower) _
    c.consult-2.result
    c.in_ok-consult.ensures c.places-above.ensures c.consult-2.ensures
