use Rattle.std.proofs.Common.{◌^◌, arith, rules}
use Rattle.std.proofs.lemmas.Iterator.{YieldsList-from_slice, YieldsList-from_map}
use Rattle.std.proofs.lemmas.Iterator.Consumers.{fits_by_from_yields_list}
use borrow.Author.Tests.{tests}
use Rattle.monitor.specs.SessionLaws.{seats_in_most}
use Rattle.monitor.specs.Sessions.{seats_where}
use Rattle.monitor.proofs.sessions.seats_among.Goals as goal

pub sum-requires-clause-fits : goal.sum-requires-clause-fits
sum-requires-clause-fits c =
    fits_by_from_yields_list (seats_where c.args.whose) c.args.sessions.now c.map.result (2 ^ 32)
    (YieldsList-from_map _ (seats_where c.args.whose)
    (YieldsList-from_slice c.args.sessions.now (cc)) c.map.ensures.closure
    (λ x r q k. search (rules, tests)))
    (omega (arith, seats_in_most c.args.whose c.args.sessions.now))
