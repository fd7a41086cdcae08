use Rattle.std.proofs.Common.{◌≡◌, ◌<◌, ◌≤◌, true, not, ◌&&◌, eqb, sym, ap, ◌∙◌, arith}
use Rattle.std.proofs.lemmas.Bool.{and_from, ne_eqb, not_from_false}
use Rattle.sets.specs.FirstLaws.{first_is, first_never}
use Rattle.policy.specs.declared.tables.Tables.{Tables}
use Rattle.monitor.specs.declared.states.Cells.{Cells}
use Rattle.monitor.specs.Cells.{session_at}
use Rattle.monitor.specs.PossibleEvents.{tables_of, cells_of}
use Rattle.monitor.specs.Sessions.{is_open}
use Rattle.own.proofs.one_open.other_open.Goals as goal

pub returns-then-is_open : goal.returns-then-is_open
returns-then-is_open c =
    let t = tables_of c.args.possible in
    let cells = cells_of c.args.possible in
    let other = c.loop-other.other in
    let same = ap (λ (x : Tables). x.sizes.sessions) c.tables.ensures in
    let below : other < t.sizes.sessions = omega (arith, same, c.loop-other-test.true) in
    let open_there : is_open (session_at cells other) ≡ true =
    ap is_open (sym (c.session.ensures ∙ ap (λ (x : Cells). session_at x other) c.cells.ensures))
    ∙ sym c.is_open.ensures ∙ c.if-is_open.true in
    sym (first_is t.sizes.sessions
    (λ k. not (eqb k c.args.session) && is_open (session_at cells k)) other below
    (and_from (not (eqb other c.args.session)) _
    (not_from_false _ (ne_eqb other c.args.session c.if-other-session.true)) open_there)
    c.loop-other.invariant)

pub returns : goal.returns
returns c =
    let t = tables_of c.args.possible in
    let same = ap (λ (x : Tables). x.sizes.sessions) c.tables.ensures in
    let end : t.sizes.sessions ≤ c.loop-other.other =
    omega (arith, same, c.loop-other-test.false) in
    sym (first_never t.sizes.sessions
    (λ k. not (eqb k c.args.session) && is_open (session_at (cells_of c.args.possible) k))
    (λ k l. c.loop-other.invariant k (omega (arith, l, end))))
