-- One check more, and one run more.
use Rattle.std.proofs.Common.{◌≡◌, ℕ, zero, suc, ◌+◌, Bool, true, false, List, [], ◌∷◌, ◌++◌, length, drop, Ok, Err, Result, sym, refl, ap, ◌∙◌, subst, arith}
use Rattle.std.specs.Prelude.{if◌then◌else◌, is_ok}
use Rattle.records.specs.declared.event.Event.{Event}
use Rattle.records.specs.declared.fault.Fault.{Fault}
use Rattle.policy.specs.Approved as approved
use Rattle.policy.specs.declared.tables.Tables.{Tables}
use Rattle.policy.specs.Search.{verdict}
use Rattle.monitor.specs.declared.governed.GovernedState.{GovernedState}
use Rattle.monitor.specs.declared.rows.Row.{Row}
use Rattle.monitor.specs.declared.run.Outcome.{Outcome}
use Rattle.monitor.specs.declared.states.Cells.{Cells}
use Rattle.monitor.specs.Governed.{policy_of, tables_of, cells_of, state_after_all}
use Rattle.monitor.specs.History.{replies, after}
use Rattle.monitor.specs.Meaning.{Meaning}
use Rattle.monitor.specs.Rows.{rows_of, rows_after, state_run, outcome}
use Rattle.monitor.specs.RowLaws.{length-rows}
use Rattle.monitor.specs.RunLaws.{after_append}
use Rattle.monitor.specs.Scripts.{Script, script, script_of}
use Rattle.report.specs.Judging.{held_after}
use Rattle.benchmark.specs.Repeats.{held_over, times_over, rows_over, outcome_over}

one_more : (n : ℕ) → suc n ≡ n + 1
one_more n = omega arith

-- a policy that was checked once is not held otherwise after it is checked again
same_held : (b : Bool) (t held : Tables)
    → (if b then t else (if b then t else held)) ≡ (if b then t else held)
same_held true t held = refl
same_held false t held = refl

again_held : (n : ℕ) (r : Result (Tables × ℕ) Fault) (held : Tables)
    → held_after r (held_over n r held) ≡ held_over (suc n) r held
again_held zero r held = refl
again_held (suc n) (Err f) held = refl
again_held (suc n) (Ok p) held = same_held (is_ok (verdict p.0)) p.0 held

pub checked_again : (n : ℕ) (r : Result (Tables × ℕ) Fault) (held t t' : Tables)
    → t ≡ held_over n r held → t' ≡ held_after r t → t' ≡ held_over (n + 1) r held
checked_again n r held t t' far e =
    e ∙ ap (held_after r) far ∙ again_held n r held ∙ ap (λ k. held_over k r held) (one_more n)

drop_front : {X : Type 0} (xs ys : List X) → drop (length xs) (xs ++ ys) ≡ ys
drop_front [] ys = refl
drop_front (x ∷ xs) ys = drop_front xs ys

module _ (ms : List Meaning) (g : GovernedState) (bytes : List ℕ) (rows₀ : List Row) where
  abbrev s : Script
  s = script_of bytes rows₀

  -- n runs over the bytes left these rows and this state, and the last came to this
  pub record RunsSoFar (n : ℕ) (rows : List Row) (c : Cells) (o : Outcome) : Type 0 where
    pub rows-are : rows ≡ rows_over n ms g s.events rows₀
    pub state : c ≡ state_after_all ms g (times_over n s.events)
    pub answer : o ≡ outcome_over n s

  -- the same of the rows, the tables and the state that a run has, with so many rows
  abbrev written : ℕ → Tables → Cells → List Row → List Row
  written k t d xs =
      let es : List Event = (script k bytes 0).events in
      rows_of es (replies ms t d es) ++ drop (length es) xs

  abbrev reached : ℕ → Tables → Cells → Cells
  reached k t d = after ms t d (script k bytes 0).events

  drop_over : (n : ℕ) → drop (length s.events) (rows_over n ms g s.events rows₀)
      ≡ drop (length s.events) rows₀
  drop_over zero = refl
  drop_over (suc n) =
      let c = state_after_all ms g (times_over n s.events) in
      let new = rows_of s.events (replies ms (tables_of g) c s.events) in
      ap (λ k. drop k (new ++ drop (length s.events) rows₀))
      (sym (length-rows ms (tables_of g) c s.events))
      ∙ drop_front new (drop (length s.events) rows₀)

  pub run_again : (n : ℕ) (before : GovernedState) (rows rows' : List Row) (c : Cells)
      (o o' : Outcome) → RunsSoFar n rows (cells_of before) o
      → policy_of before ≡ policy_of g → length rows ≡ length rows₀
      → rows' ≡ rows_after ms before bytes rows → c ≡ state_run ms before bytes rows
      → o' ≡ outcome (script_of bytes rows) → RunsSoFar (n + 1) rows' c o'
  run_again n before rows rows' c o o' far same len er ec eo =
      subst (λ k. RunsSoFar k rows' c o') (one_more n) (record {
        rows-are =
            er ∙ ap (λ k. written k (tables_of before) (cells_of before) rows) len
            ∙ ap (λ p. written (length rows₀) (approved.tables_of p) (cells_of before) rows) same
            ∙ ap (λ k. written (length rows₀) (tables_of g) k rows) far.state
            ∙ ap (λ xs. rows_of s.events (replies ms (tables_of g)
            (state_after_all ms g (times_over n s.events)) s.events) ++ xs)
            (ap (drop (length s.events)) far.rows-are ∙ drop_over n);
        state =
            ec ∙ ap (λ k. reached k (tables_of before) (cells_of before)) len
            ∙ ap (λ p. reached (length rows₀) (approved.tables_of p) (cells_of before)) same
            ∙ ap (λ k. reached (length rows₀) (tables_of g) k) far.state
            ∙ sym (after_append ms (tables_of g) (cells_of g) (times_over n s.events) s.events);
        answer = eo ∙ ap (λ k. outcome (script k bytes 0)) len;
      })
