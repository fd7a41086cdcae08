use Rattle.std.proofs.Common.{◌≡◌, ℕ, ◌+◌, ◌-◌, length, set, Ok, Err, sym, refl, ap, ◌∙◌, subst, subst₂, arith}
use Rattle.std.proofs.lemmas.Bool.{eqb-true, eqb-false}
use Rattle.std.proofs.lemmas.Result.{err_from_is_err_and}
use Rattle.std.proofs.lemmas.List.{set-get_or}
use Rattle.monitor.specs.declared.run.Stop.TheVariants.{NoByteLeft, NoRowLeft}
use Rattle.monitor.specs.declared.run.Outcome.{Outcome}
use Rattle.monitor.specs.Rows.{row_of, outcome}
use Rattle.monitor.specs.Scripts.{script_of}
use Rattle.monitor.specs.History.{reply, step}
use Rattle.monitor.specs.RowLaws.{Filling, unfilled, filled, answered, refilled, no_byte, no_row, no_event}
use Rattle.monitor.specs.MonitorLaws.{also_same}
use Rattle.monitor.proofs.run.fill.Goals as goal

pub loop-filled-init : goal.loop-filled-init
loop-filled-init g c =
    let m = c.args.monitor.now in
    let ms = g.P.Rule.rules m.pile in (
      subst (λ (n : ℕ). Filling ms m.governed c.args.rows.now c.args.bytes.now 0 n c.args.bytes.now
          c.args.rows.now m.governed.state.cells)
          (omega arith) (unfilled ms m.governed c.args.rows.now c.args.bytes.now),
      record { policy = refl; pile = refl },
    )

pub overflow_sub-progress : goal.overflow_sub-progress
overflow_sub-progress g c = let f = c.loop-filled.invariant.0 in omega (arith, f.inside)

pub overflow_sub-progress-2 : goal.overflow_sub-progress-2
overflow_sub-progress-2 g c = let f = c.loop-filled.invariant.0 in omega (arith, f.inside)

pub returns-then-is_empty : goal.returns-then-is_empty
returns-then-is_empty g c =
    let m = c.args.monitor.now in
    let f = c.loop-filled.invariant.0 in
    let is =
    filled (g.P.Rule.rules m.pile) m.governed c.args.rows.now c.args.bytes.now (Ok NoByteLeft) f
    (no_byte f.left c.loop-filled.rest.now _
    (eqb-true (length c.loop-filled.rest.now) 0 (sym c.if-is_empty.ensures))) in
    record {
      answer = answered (g.P.Rule.rules m.pile) m.governed c.args.rows.now c.args.bytes.now is;
      rows = set-get_or c.loop-filled.rows c.loop-filled.filled _ ∙ is.written;
      state = is.reached;
      same = c.loop-filled.invariant.1;
    }

pub returns-in_err-rest : goal.returns-in_err-rest
returns-in_err-rest g c =
    let m = c.args.monitor.now in
    let f = c.loop-filled.invariant.0 in
    let fault = c.in_err-rest.field-0.0 in
    let stays = c.in_err-rest.ensures.filled in
    let p = err_from_is_err_and c.from_residual.result c.from_residual.ensures.1 in
    let is =
    filled (g.P.Rule.rules m.pile) m.governed c.args.rows.now c.args.bytes.now (Err fault) f
    (no_event f.left c.loop-filled.rest.now _ fault
    (omega (arith, f.room, c.loop-filled-test.true))
    (omega (arith, eqb-false (length c.loop-filled.rest.now) 0 (sym c.if-is_empty.ensures)))
    stays.0) in
    rw (p.1, p.2) (record {
      answer = answered (g.P.Rule.rules m.pile) m.governed c.args.rows.now c.args.bytes.now is;
      rows =
          ap (set c.loop-filled.rows c.loop-filled.filled) stays.1.0
          ∙ set-get_or c.loop-filled.rows c.loop-filled.filled _ ∙ is.written;
      state = stays.1.1 ∙ is.reached;
      same = also_same c.loop-filled.invariant.1 c.in_err-rest.ensures.same;
    })

pub loop-filled-preserved : goal.loop-filled-preserved
loop-filled-preserved g c =
    let m = c.args.monitor.now in
    let f = c.loop-filled.invariant.0 in
    let ms = g.P.Rule.rules m.pile in
    let now = c.loop-filled.monitor.governed.state.cells in
    let took = c.in_ok-rest.ensures.filled in
    let e = took.event in
    let same = c.loop-filled.invariant.1 in
    let more =
    refilled ms m.governed c.args.rows.now c.args.bytes.now f
    (omega (arith, c.loop-filled-test.true, c.loop-filled.auto.rows)) e c.in_ok-rest.rest.now
    took.taken took.shorter
    (reply ms m.governed.policy.draft.tables now e) c.fill_row.new.monitor.governed.state.cells
    c.fill_row.new.row
    refl
    (subst₂ (λ x p. c.fill_row.new.monitor.governed.state.cells
    ≡ step (g.P.Rule.rules x) p.draft.tables now e) same.pile same.policy took.reached)
    (subst₂ (λ x p. c.fill_row.new.row ≡ row_of e (reply (g.P.Rule.rules x) p.draft.tables now e))
    same.pile same.policy took.written) in (
      subst (λ (n : ℕ). Filling ms m.governed c.args.rows.now c.args.bytes.now
          (c.loop-filled.filled + 1) n c.in_ok-rest.rest.now
          (set c.loop-filled.rows c.loop-filled.filled c.fill_row.new.row)
          c.fill_row.new.monitor.governed.state.cells)
          (omega (arith, f.inside, took.shorter)) more,
      also_same same c.in_ok-rest.ensures.same,
    )

pub returns-then-is_empty-2 : goal.returns-then-is_empty-2
returns-then-is_empty-2 g c =
    let m = c.args.monitor.now in
    let f = c.loop-filled.invariant.0 in
    let is =
    filled (g.P.Rule.rules m.pile) m.governed c.args.rows.now c.args.bytes.now (Ok NoByteLeft) f
    (no_byte f.left c.loop-filled.rest.now _
    (eqb-true (length c.loop-filled.rest.now) 0 (sym c.if-is_empty-2.ensures))) in
    let all : c.loop-filled.filled ≡ length c.loop-filled.rows =
    omega (
      arith,
      c.loop-filled-test.false,
      c.loop-filled.auto.rows,
      c.loop-filled.auto.filled-end,
    ) in
    record {
      answer =
          subst (λ (n : ℕ). ◌≡◌ {A = Outcome}
          (record {
            rows = n;
            bytes = length c.args.bytes.now - length c.loop-filled.rest.now;
            end = Ok NoByteLeft;
          }) (outcome (script_of c.args.bytes.now c.args.rows.now))) all
          (answered (g.P.Rule.rules m.pile) m.governed c.args.rows.now c.args.bytes.now is);
      rows = is.written;
      state = is.reached;
      same = c.loop-filled.invariant.1;
    }

pub returns-else-is_empty-2 : goal.returns-else-is_empty-2
returns-else-is_empty-2 g c =
    let m = c.args.monitor.now in
    let f = c.loop-filled.invariant.0 in
    let is =
    filled (g.P.Rule.rules m.pile) m.governed c.args.rows.now c.args.bytes.now (Ok NoRowLeft) f
    (no_row f.left c.loop-filled.rest.now _ (omega (arith, f.room, c.loop-filled-test.false))
    (omega (arith, eqb-false (length c.loop-filled.rest.now) 0 (sym c.if-is_empty-2.ensures)))) in
    let all : c.loop-filled.filled ≡ length c.loop-filled.rows =
    omega (
      arith,
      c.loop-filled-test.false,
      c.loop-filled.auto.rows,
      c.loop-filled.auto.filled-end,
    ) in
    record {
      answer =
          subst (λ (n : ℕ). ◌≡◌ {A = Outcome}
          (record {
            rows = n;
            bytes = length c.args.bytes.now - length c.loop-filled.rest.now;
            end = Ok NoRowLeft;
          }) (outcome (script_of c.args.bytes.now c.args.rows.now))) all
          (answered (g.P.Rule.rules m.pile) m.governed c.args.rows.now c.args.bytes.now is);
      rows = is.written;
      state = is.reached;
      same = c.loop-filled.invariant.1;
    }
