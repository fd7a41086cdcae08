use Rattle.std.proofs.Common.{◌≡◌, suc, ◌+◌, drop, set, ap, arith, rules}
use borrow.Author.Tests.{tests}
use Rattle.sets.specs.Sets.{has}
use Rattle.monitor.specs.SessionLaws.{using-set, rest_from}
use Rattle.monitor.specs.Sessions.{active, sessions_using, tally}
use Rattle.monitor.proofs.sessions.using_with.Goals as goal

pub returns : goal.returns
returns c =
    let xs = c.args.sessions.now in
    let r = c.args.role in
    let p = c.from-place.result in
    let next : p + 1 ≡ suc p = omega arith in
    let parts = using-set xs p r c.args.to (omega (arith, c.if-place-sessions.false)) in
    let tail = ap (λ ys. sessions_using ys r) (rest_from (p + 1) xs) in
    let here : c.from.result ≡ tally (has (active c.args.to) r) = search (rules, tests) in
    let ends = ap (λ k. sessions_using (drop k xs) r) next in
    let at = ap (λ k. sessions_using (set xs k c.args.to) r) c.from-place.ensures in
    omega (arith, c.using_among-2.ensures.count, c.using_among-3.ensures.count)
