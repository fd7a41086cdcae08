-- The lines of the events, over the runs that write them: one run more, and the last line.
use Rattle.std.proofs.Common.{Bool, true, false, not, true≢false, ◌≡◌, ℕ, suc, ◌+◌, ◌-◌, ◌<◌, ◌≤◌, List, [], ◌∷◌, ◌++◌, length, take, drop, Ok, Err, codes, sym, refl, ap, ◌∙◌, subst, subst₂, append_assoc, append-nil, arith}
use Rattle.std.proofs.lemmas.List.{length-append, length-drop, take_all}
use Rattle.std.specs.Result.{result_eq}
use Rattle.records.specs.contracts.fault.FaultPartialEq.TheImpl as fault
use Rattle.monitor.specs.contracts.run.StopPartialEq.TheImpl as stop
use Rattle.records.specs.declared.event.Event.{Event}
use Rattle.policy.specs.Approved as approved
use Rattle.policy.specs.declared.tables.Tables.{Tables}
use Rattle.monitor.specs.declared.states.Cells.{Cells}
use Rattle.monitor.specs.declared.rows.Row.{Row}
use Rattle.monitor.specs.declared.run.Outcome.{Outcome}
use Rattle.monitor.specs.declared.run.Stop.TheVariants.{NoByteLeft, NoRowLeft}
use Rattle.monitor.specs.declared.monitors.Monitor.{Monitor}
use Rattle.monitor.specs.Governed.{tables_of, cells_of}
use Rattle.monitor.specs.History.{replies, after}
use Rattle.monitor.specs.Meaning.{Meaning}
use Rattle.monitor.specs.Monitors.{state_of, pile_of, SamePolicy}
use Rattle.monitor.specs.Rows.{rows_of, rows_after, state_run, outcome}
use Rattle.monitor.specs.Scripts.{End, end_number, Script, only_end, first, script, script_of}
use Rattle.monitor.specs.RowLaws.{first-first, first_none, length-rows, rows_append}
use Rattle.monitor.specs.ScriptLaws.{Similar, all_filled, similar_after, similar_same, similar_then, whole_goes_on, whole-settled, within}
use Rattle.monitor.specs.RunLaws.{after_append}
use Rattle.report.specs.declared.line.EndLine.{EndLine}
use Rattle.report.specs.Texts.{row_text, end_text, end_line}
use Rattle.report.specs.Roll.{rows_text, whole_script, events_text}

-- what the comparison with the end that no row is left says
abbrev other_end : End → Bool
other_end e = not (result_eq (stop.eq-value).it (fault.eq-value).it e (Ok NoRowLeft))

pub no_row_left : (e : End) {b : Bool} → b ≡ other_end e → b ≡ false → e ≡ Ok NoRowLeft
no_row_left (Ok NoRowLeft) eb ef = refl
no_row_left (Ok NoByteLeft) eb ef = absurd (true≢false (sym eb ∙ ef))
no_row_left (Err f) eb ef = absurd (true≢false (sym eb ∙ ef))

pub some_other_end : (e : End) {b : Bool} → b ≡ other_end e → b ≡ true → e ≡ Ok NoRowLeft → ⊥
some_other_end e eb et is = true≢false (sym et ∙ eb ∙ ap other_end is)

-- the lines of rows after rows
rows_text_append : (i : ℕ) (xs ys : List Row)
    → rows_text i (xs ++ ys) ≡ rows_text i xs ++ rows_text (i + length xs) ys
rows_text_append i [] ys = ap (λ k. rows_text k ys) {x = i} {y = i + 0} (omega arith)
rows_text_append i (x ∷ xs) ys =
    ap (λ text. (row_text i x ++ codes "\n") ++ text)
    (rows_text_append (i + 1) xs ys ∙ ap (λ k. rows_text (i + 1) xs ++ rows_text k ys)
    {x = i + 1 + length xs} {y = i + suc (length xs)} (omega arith))
    ∙ sym (append_assoc (row_text i x ++ codes "\n") (rows_text (i + 1) xs)
    (rows_text (i + length (x ∷ xs)) ys))

take_front : {X : Type 0} (xs ys : List X) (n : ℕ) → n ≡ length xs → take n (xs ++ ys) ≡ xs
take_front {X} xs ys n e = ap (λ k. take k (xs ++ ys)) e ∙ go xs
  where
    go : (zs : List X) → take (length zs) (zs ++ ys) ≡ zs
    go [] = refl
    go (z ∷ zs) = ap (λ t. z ∷ t) (go zs)

pub tail_is : (n : ℕ) (rest : List ℕ) → take (length rest - n) (drop n rest) ≡ drop n rest
tail_is n rest = take_all (length rest - n) (drop n rest) (omega (arith, length-drop n rest))

-- the rest is shorter after a run that ends because no row is left
pub rest_shorter : (n : ℕ) (rest : List ℕ) (o : Outcome) → o ≡ outcome (script n rest 0) → 1 ≤ n
    → o.end ≡ Ok NoRowLeft
    → length (take (length rest - o.bytes) (drop o.bytes rest)) < length rest
rest_shorter n rest o eo l e =
    let s = script n rest 0 in
    let bytes : o.bytes ≡ s.bytes = ap (λ x. x.bytes) eo in
    let left : length (take (length rest - o.bytes) (drop o.bytes rest)) ≡ length rest - o.bytes =
    ap length (tail_is o.bytes rest) ∙ length-drop o.bytes rest in
    let full = all_filled n rest 0 (sym (ap (λ (x : Outcome). x.end) eo) ∙ e) in
    omega (arith, (within n rest 0).each, (within n rest 0).taken, full)

-- a script is its events and its end
by_parts : (s : Script) → Similar s (first s.events s.bytes (only_end s.end))
by_parts s = record { events = sym (append-nil s.events); bytes = omega arith; number = refl }

module _ (ms : List Meaning) (t : Tables) (c₀ : Cells) (bytes : List ℕ) (text₀ : List ℕ) where
  -- the runs so far filled so many rows and left this rest; what is still to come is the script
  pub record RunsSoFar (count : ℕ) (rest text : List ℕ) (c : Cells) (next : Script) : Type 0 where
    pub events : List Event
    pub taken : ℕ
    pub counted : count ≡ length events
    pub inside : taken + length rest ≡ length bytes
    pub few : count ≤ taken
    pub written : text ≡ text₀ ++ rows_text 0 (rows_of events (replies ms t c₀ events))
    pub reached : c ≡ after ms t c₀ events
    pub ahead : Similar (whole_script bytes) (first events taken next)

  pub none_so_far : RunsSoFar 0 bytes text₀ c₀ (whole_script bytes)
  none_so_far = record {
    events = [];
    taken = 0;
    counted = refl;
    inside = omega arith;
    few = omega arith;
    written = sym (append-nil text₀);
    reached = refl;
    ahead = similar_same (sym (first_none (whole_script bytes)));
  }

  -- a run with n rows over the rest, and what comes after it
  one_run_more : (n : ℕ) {count : ℕ} {rest text : List ℕ} {c : Cells}
      → RunsSoFar count rest text c (whole_script rest) → (old new : List Row)
      → new ≡ rows_of (script n rest 0).events (replies ms t c (script n rest 0).events) ++ old
      → (text' : List ℕ)
      → text' ≡ text ++ rows_text count (take (length (script n rest 0).events) new)
      → (c' : Cells) → c' ≡ after ms t c (script n rest 0).events
      → (next : Script)
      → Similar (whole_script rest) (first (script n rest 0).events (script n rest 0).bytes next)
      → RunsSoFar (count + length (script n rest 0).events)
      (drop (script n rest 0).bytes rest) text' c' next
  one_run_more n {count} {rest} {text} {c} far old new en text' et c' ec next like = record {
    events = far.events ++ s.events;
    taken = far.taken + s.bytes;
    counted = ap (λ k. k + length s.events) far.counted ∙ sym (length-append far.events s.events);
    inside = omega (arith, far.inside, length-drop s.bytes rest, (within n rest 0).taken);
    few = omega (arith, far.few, (within n rest 0).each);
    written = et ∙ ap (λ x. x ++ rows_text count (take (length s.events) new)) far.written
        ∙ append_assoc text₀ (rows_text 0 before) (rows_text count (take (length s.events) new))
        ∙ ap (λ x. text₀ ++ (rows_text 0 before ++ rows_text count x))
        (ap (take (length s.events)) en ∙ take_front later old (length s.events)
        (sym (length-rows ms t c s.events)))
        ∙ ap (λ k. text₀ ++ (rows_text 0 before ++ rows_text k later)) {x = count}
        {y = 0 + length before} (omega (arith, far.counted, length-rows ms t c₀ far.events))
        ∙ ap (λ x. text₀ ++ x) (sym (rows_text_append 0 before later)
        ∙ ap (λ rs. rows_text 0 (before ++ rs))
        (ap (λ k. rows_of s.events (replies ms t k s.events)) far.reached)
        ∙ ap (rows_text 0) (sym (rows_append ms t c₀ far.events s.events)));
    reached = ec ∙ ap (λ k. after ms t k s.events) far.reached
        ∙ sym (after_append ms t c₀ far.events s.events);
    ahead = similar_then far.ahead
        (similar_then (similar_after far.events far.taken like)
        (similar_same (first-first far.events s.events far.taken s.bytes next)));
  }
    where
      s : Script
      s = script n rest 0

      before : List Row
      before = rows_of far.events (replies ms t c₀ far.events)

      later : List Row
      later = rows_of s.events (replies ms t c s.events)

  -- the last line
  with_last_line : {count : ℕ} {rest text : List ℕ} {c : Cells} {end : End}
      → RunsSoFar count rest text c (only_end end) → (why : End) → end_number why ≡ end_number end
      → (taken : ℕ) → taken ≡ length bytes - length rest → (text' : List ℕ)
      → text' ≡ text ++ (end_text count taken (end_number why) ++ codes "\n")
      → text' ≡ text₀ ++ events_text ms t c₀ bytes
  with_last_line {count} {rest} {text} {c} {end} far why ew taken et text' e =
      let lines = λ (es : List Event) (k number : ℕ). text₀
      ++ (rows_text 0 (rows_of es (replies ms t c₀ es))
      ++ (end_text (length es) k number ++ codes "\n")) in
      e ∙ ap (λ x. x ++ (end_text count taken (end_number why) ++ codes "\n")) far.written
      ∙ append_assoc text₀ (rows_text 0 (rows_of far.events (replies ms t c₀ far.events)))
      (end_text count taken (end_number why) ++ codes "\n")
      ∙ ap (λ k. text₀ ++ (rows_text 0 (rows_of far.events (replies ms t c₀ far.events))
      ++ (end_text k taken (end_number why) ++ codes "\n"))) far.counted
      ∙ ap (λ es. lines es taken (end_number why))
      (sym (append-nil far.events) ∙ sym far.ahead.events)
      ∙ ap (λ k. lines (whole_script bytes).events k (end_number why)) {x = taken}
      {y = (whole_script bytes).bytes} (omega (arith, et, far.inside, far.ahead.bytes))
      ∙ ap (lines (whole_script bytes).events (whole_script bytes).bytes)
      (ew ∙ sym far.ahead.number)

-- the same as the loop has it, over a monitor that keeps its policy and its pile
module _ {P : Type 0} (rules : P → List Meaning) (m before later : Monitor P)
    (same : SamePolicy m before) (bytes text₀ : List ℕ) (rows new : List Row)
    {count : ℕ} {rest text : List ℕ}
    (far : RunsSoFar (rules (pile_of m)) (tables_of (state_of m))
    (cells_of (state_of m)) bytes text₀ count rest text (cells_of (state_of before))
    (whole_script rest))
    (o : Outcome) (eo : o ≡ outcome (script_of rest rows))
    (en : new ≡ rows_after (rules (pile_of before)) (state_of before) rest rows)
    (ec : cells_of (state_of later) ≡ state_run (rules (pile_of before))
    (state_of before) rest rows)
    (text' : List ℕ) (et : text' ≡ text ++ rows_text count (take o.rows new)) where
  abbrev ms : List Meaning
  ms = rules (pile_of m)

  abbrev t : Tables
  t = tables_of (state_of m)

  abbrev c : Cells
  c = cells_of (state_of before)

  abbrev s : Script
  s = script_of rest rows

  abbrev left : List ℕ
  left = take (length rest - o.bytes) (drop o.bytes rest)

  abbrev SoFar : Script → Type 0
  SoFar next = RunsSoFar ms t (cells_of (state_of m)) bytes text₀ (count + o.rows) left text'
      (cells_of (state_of later)) next

  written : new ≡ rows_of s.events (replies ms t c s.events) ++ drop (length s.events) rows
  written =
      subst₂ (λ x p. new ≡ rows_of s.events (replies (rules x) (approved.tables_of p) c s.events)
      ++ drop (length s.events) rows) same.pile same.policy en

  reached : cells_of (state_of later) ≡ after ms t c s.events
  reached = subst₂ (λ x p. cells_of (state_of later)
      ≡ after (rules x) (approved.tables_of p) c s.events) same.pile same.policy ec

  run_before : (next : Script) → Similar (whole_script rest) (first s.events s.bytes next)
      → SoFar next
  run_before next like =
      subst (λ r. RunsSoFar ms t (cells_of (state_of m)) bytes text₀ (count + o.rows) r text'
      (cells_of (state_of later)) next) (sym (tail_is o.bytes rest))
      (subst (λ (x : Outcome). text' ≡ text ++ rows_text count (take x.rows new)
      → RunsSoFar ms t (cells_of (state_of m)) bytes text₀ (count + x.rows)
      (drop x.bytes rest) text' (cells_of (state_of later)) next)
      (sym eo) (λ et'. one_run_more ms t (cells_of (state_of m)) bytes text₀ (length rows) far
      (drop (length s.events) rows) new written text' et'
      (cells_of (state_of later)) reached next like) et)

  -- no row was left
  pub runs_go_on : o.end ≡ Ok NoRowLeft → SoFar (whole_script left)
  runs_go_on e =
      run_before (whole_script left)
      (subst (λ r. Similar (whole_script rest) (first s.events s.bytes (whole_script r)))
      (ap (λ (x : Outcome). drop x.bytes rest) (sym eo) ∙ sym (tail_is o.bytes rest))
      (whole_goes_on (length rows) rest (sym (ap (λ (x : Outcome). x.end) eo) ∙ e)))

  -- it ends for another reason, and the last line is written
  pub runs_end : (o.end ≡ Ok NoRowLeft → ⊥) → (taken : ℕ) → taken ≡ length bytes - length left
      → (line : EndLine)
      → line ≡ end_line (record { rows = count + o.rows; bytes = taken; end = o.end })
      → (text'' : List ℕ)
      → text'' ≡ text' ++ (end_text line.rows line.bytes line.number ++ codes "\n")
      → text'' ≡ text₀ ++ events_text ms t (cells_of (state_of m)) bytes
  runs_end other taken et line el text'' e'' =
      let settled = λ (e : s.end ≡ Ok NoRowLeft). other (ap (λ (x : Outcome). x.end) eo ∙ e) in
      let like = similar_then (similar_same (whole-settled (length rows) rest settled))
      (by_parts s) in
      with_last_line ms t (cells_of (state_of m)) bytes text₀
      (run_before (only_end s.end) like) o.end
      (ap (λ (x : Outcome). end_number x.end) eo) taken et text''
      (e'' ∙ ap (λ (l : EndLine). text' ++ (end_text l.rows l.bytes l.number ++ codes "\n")) el)
