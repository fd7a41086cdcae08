use Rattle.std.proofs.Common.{◌+◌, ℕ, ◌-◌, ◌∙◌, length, sym, ap, subst, arith}
use Rattle.std.proofs.lemmas.Result.{err_from_is_err_and}
use Rattle.policy.specs.declared.tables.Tables.{Tables}
use Rattle.policy.specs.WellFormed.{WellFormed}
use Rattle.policy.specs.Reading.{read_from, reading}
use Rattle.policy.specs.Updates.{bare}
use Rattle.policy.specs.WellFormedLaws.{bare_well_formed, after_entry_well_formed}
use Rattle.policy.specs.ReadingLaws.{opened, faulty, ended, refused, turned}
use Rattle.policy.proofs.reading.read_tables.Goals as goal

pub loop-entry-init : goal.loop-entry-init
loop-entry-init c =
    let s = c.args.bytes.now in (
      subst WellFormed (sym c.bare_tables-tables.ensures) bare_well_formed,
      omega arith,
      (
        length s + 1,
        omega arith,
        ap (λ (t : Tables). read_from (length s + 1) t s (length s - length s)) c.bare_tables-tables.ensures
            ∙ ap (λ (n : ℕ). read_from (length s + 1) bare s n) (omega arith),
      ),
    )

pub loop-entry-preserved : goal.loop-entry-preserved
loop-entry-preserved c =
    let v = c.loop-entry.invariant.2 in
    let at = length c.args.bytes.now - length c.loop-entry.rest.now in
    let t = c.in_ok-entry.ensures in
    let a = c.in_ok-apply.ensures in
    let left = opened v.0 c.loop-entry.tables c.loop-entry.rest.now at (reading c.args.bytes.now) v.1 v.2 in (
      after_entry_well_formed c.loop-entry.tables c.apply.new.tables c.in_ok-entry.entry at c.loop-entry.invariant.0 a,
      omega (arith, t.shorter, c.loop-entry.invariant.1),
      turned _ _ _ _ c.in_ok-entry.entry c.in_ok-entry.tail.now left t.value _ (omega (arith, t.shorter, c.loop-entry.invariant.1)) c.apply.new.tables a c.if-is_end.ensures t.shorter,
    )

pub returns-then-is_end : goal.returns-then-is_end
returns-then-is_end c =
    let t = c.in_ok-entry.ensures in
    let v = c.loop-entry.invariant.2 in
    let at = length c.args.bytes.now - length c.loop-entry.rest.now in
    let a = c.in_ok-apply.ensures in
    let left = opened v.0 c.loop-entry.tables c.loop-entry.rest.now at (reading c.args.bytes.now) v.1 v.2 in
    record {
      answer = ended _ _ _ _ c.in_ok-entry.entry c.in_ok-entry.tail.now left t.value _ (omega (arith, t.shorter, c.loop-entry.invariant.1)) c.apply.new.tables a c.if-is_end.ensures;
      tables = after_entry_well_formed c.loop-entry.tables c.apply.new.tables c.in_ok-entry.entry at c.loop-entry.invariant.0 a;
      within = omega (arith, c.in_ok-entry.ensures.shorter, c.loop-entry.invariant.1);
    }

pub returns-in_err-entry : goal.returns-in_err-entry
returns-in_err-entry c =
    let v = c.loop-entry.invariant.2 in
    let at = length c.args.bytes.now - length c.loop-entry.rest.now in
    let left = opened v.0 c.loop-entry.tables c.loop-entry.rest.now at (reading c.args.bytes.now) v.1 v.2 in
    let p = err_from_is_err_and c.from_residual.result c.from_residual.ensures.1 in
    rw (p.1, p.2) (record { answer = faulty _ _ _ _ c.in_err-entry.field-0.0 left c.in_err-entry.ensures.value; tables = tt; within = tt })

pub returns-in_err-apply : goal.returns-in_err-apply
returns-in_err-apply c =
    let v = c.loop-entry.invariant.2 in
    let at = length c.args.bytes.now - length c.loop-entry.rest.now in
    let left = opened v.0 c.loop-entry.tables c.loop-entry.rest.now at (reading c.args.bytes.now) v.1 v.2 in
    let p = err_from_is_err_and c.from_residual-in_err-apply.result c.from_residual-in_err-apply.ensures.1 in
    rw (p.1, p.2) (record {
      answer = refused _ _ _ _ c.in_ok-entry.entry c.in_ok-entry.tail.now left c.in_ok-entry.ensures.value
          c.in_err-apply.field-0.0 c.in_err-apply.ensures;
      tables = tt;
      within = tt;
    })
