-- One row more, and the end of a run. It proves, for the run, and assumes nothing.
use Rattle.std.proofs.Common.{◌≡◌, ℕ, zero, suc, ◌+◌, ◌-◌, ◌<◌, ◌≤◌, List, [], ◌∷◌, ◌++◌, length, get_or, drop, set, Ok, Err, sym, refl, ap, ◌∙◌, append_assoc, append-nil, arith}
use Rattle.std.proofs.lemmas.List.{drop_more, length-append, length-drop}
use Rattle.records.specs.declared.event.Event.{Event}
use Rattle.records.specs.declared.fault.Fault.{Fault}
use Rattle.records.specs.Events.{event_taken}
use Rattle.policy.specs.declared.tables.Tables.{Tables}
use Rattle.monitor.specs.Answers.{Answer}
use Rattle.monitor.specs.declared.states.Cells.{Cells}
use Rattle.monitor.specs.declared.governed.GovernedState.{GovernedState}
use Rattle.monitor.specs.declared.rows.Row.{Row}
use Rattle.monitor.specs.declared.run.Stop.TheVariants.{NoByteLeft, NoRowLeft}
use Rattle.monitor.specs.History.{reply, step, replies, after}
use Rattle.monitor.specs.Meaning.{Meaning}
use Rattle.monitor.specs.declared.run.Outcome.{Outcome}
use Rattle.monitor.specs.Rows.{row_of, rows_of, outcome}
use Rattle.monitor.specs.Scripts.{End, Script, only_end, first, onward, script, script_of}
use Rattle.monitor.specs.RunLaws.{after_append}

pub length-rows : (ms : List Meaning) (t : Tables) (c : Cells) (es : List Event)
    → length (rows_of es (replies ms t c es)) ≡ length es
length-rows ms t c [] = refl
length-rows ms t c (e ∷ es) = ap suc (length-rows ms t (step ms t c e) es)

pub rows_append : (ms : List Meaning) (t : Tables) (c : Cells) (es fs : List Event)
    → rows_of (es ++ fs) (replies ms t c (es ++ fs))
    ≡ rows_of es (replies ms t c es) ++ rows_of fs (replies ms t (after ms t c es) fs)
rows_append ms t c [] fs = refl
rows_append ms t c (e ∷ es) fs =
    ap (λ rows. row_of e (reply ms t c e) ∷ rows) (rows_append ms t (step ms t c e) es fs)

-- a row written where the first untouched one stands
set_next : (xs ys : List Row) (n : ℕ) (v : Row) → length xs ≡ n → n < length ys
    → set (xs ++ drop n ys) n v ≡ (xs ++ v ∷ []) ++ drop (n + 1) ys
set_next xs ys n v e l =
    ap (λ zs. set (xs ++ zs) n v) (drop_more ys n v l)
    ∙ ap (λ k. set (xs ++ get_or ys n v ∷ drop (n + 1) ys) k v) (sym e) ∙ go xs
  where
    go : (zs : List Row)
        → set (zs ++ get_or ys n v ∷ drop (n + 1) ys) (length zs) v
        ≡ (zs ++ v ∷ []) ++ drop (n + 1) ys
    go [] = refl
    go (z ∷ zs) = ap (λ rest. z ∷ rest) (go zs)

-- the script where it ends, and where it goes on
pub no_byte : (n : ℕ) (bytes : List ℕ) (at : ℕ) → length bytes ≡ 0
    → script n bytes at ≡ only_end (Ok NoByteLeft)
unfolding script
no_byte zero [] at e = refl
no_byte (suc n) [] at e = refl
no_byte n (b ∷ bs) at e = absurd (omega arith)

pub no_row : (n : ℕ) (bytes : List ℕ) (at : ℕ) → n ≡ 0 → 1 ≤ length bytes
    → script n bytes at ≡ only_end (Ok NoRowLeft)
unfolding script
no_row zero [] at e l = absurd (omega arith)
no_row zero (b ∷ bs) at e l = refl
no_row (suc n) bytes at e l = absurd (omega arith)

pub one_more : (n : ℕ) (bytes : List ℕ) (at : ℕ) → 1 ≤ length bytes
    → script (suc n) bytes at
    ≡ onward (event_taken bytes at)
    (λ e rest. first (e ∷ []) (length bytes - length rest)
    (script n rest (at + (length bytes - length rest))))
unfolding script
one_more n [] at l = absurd (omega arith)
one_more n (b ∷ bs) at l = refl

pub no_event : (n : ℕ) (bytes : List ℕ) (at : ℕ) (f : Fault) → 1 ≤ n → 1 ≤ length bytes
    → event_taken bytes at ≡ Err f → script n bytes at ≡ only_end (Err f)
no_event zero bytes at f l k e = absurd (omega arith)
no_event (suc n) bytes at f l k e =
    one_more n bytes at k
    ∙ ap (λ x. onward x
    (λ e rest. first (e ∷ []) (length bytes - length rest)
    (script n rest (at + (length bytes - length rest))))) e

-- the rest of a script after more of its events
pub first-first : (es fs : List Event) (m n : ℕ) (s : Script)
    → first es m (first fs n s) ≡ first (es ++ fs) (m + n) s
first-first es fs m n s =
    ap (λ xs. shaped xs (m + (n + s.bytes))) (sym (append_assoc es fs s.events))
    ∙ ap (shaped ((es ++ fs) ++ s.events)) (omega arith)
  where
    shaped : List Event → ℕ → Script
    shaped xs k = record { events = xs; bytes = k; end = s.end }

pub first_none : (s : Script) → first [] 0 s ≡ s
first_none s = ap (λ (k : ℕ). record { events = s.events; bytes = k; end = s.end }) (omega arith)

module _ (ms : List Meaning) (g : GovernedState) (rows₀ : List Row) (bytes : List ℕ) where
  abbrev t : Tables
  t = g.policy.draft.tables

  abbrev c₀ : Cells
  c₀ = g.state.cells

  -- so many rows and bytes are done, and the rest of the bytes, the rows and the state are these
  pub record Filling (count taken : ℕ) (rest : List ℕ) (rows : List Row) (c : Cells) : Type 0 where
    pub events : List Event
    pub left : ℕ
    pub counted : count ≡ length events
    pub room : count + left ≡ length rows₀
    pub whole : script (length rows₀) bytes 0 ≡ first events taken (script left rest taken)
    pub inside : taken + length rest ≡ length bytes
    pub reached : c ≡ after ms t c₀ events
    pub written : rows ≡ rows_of events (replies ms t c₀ events) ++ drop count rows₀

  pub unfilled : Filling 0 0 bytes rows₀ c₀
  unfilled = record {
    events = [];
    left = length rows₀;
    counted = refl;
    room = omega arith;
    whole = sym (first_none (script (length rows₀) bytes 0));
    inside = omega arith;
    reached = refl;
    written = refl;
  }

  pub long : {count taken : ℕ} {rest : List ℕ} {rows : List Row} {c : Cells}
      → Filling count taken rest rows c → length rows ≡ length rows₀
  long {count} f =
      ap length f.written
      ∙ length-append (rows_of f.events (replies ms t c₀ f.events)) (drop count rows₀)
      ∙ omega (arith, length-rows ms t c₀ f.events, length-drop count rows₀, f.counted, f.room)

  -- where the rest of the script ends at once
  pub record Filled (count taken : ℕ) (rows : List Row) (c : Cells) (why : End) : Type 0 where
    pub end : why ≡ (script (length rows₀) bytes 0).end
    pub counted : count ≡ length (script (length rows₀) bytes 0).events
    pub bytes-taken : taken ≡ (script (length rows₀) bytes 0).bytes
    pub reached : c ≡ after ms t c₀ (script (length rows₀) bytes 0).events
    pub written : rows
        ≡ rows_of (script (length rows₀) bytes 0).events
        (replies ms t c₀ (script (length rows₀) bytes 0).events)
        ++ drop (length (script (length rows₀) bytes 0).events) rows₀

  pub filled : {count taken : ℕ} {rest : List ℕ} {rows : List Row} {c : Cells} (why : End)
      → (f : Filling count taken rest rows c)
      → script f.left rest taken ≡ only_end why → Filled count taken rows c why
  filled {count} {taken} {rest} {rows} {c} why f e = record {
    end = sym (ap (λ s. s.end) whole);
    counted = f.counted ∙ ap length (sym events);
    bytes-taken = sym (ap (λ s. s.bytes) whole ∙ omega arith);
    reached = f.reached ∙ ap (after ms t c₀) (sym events);
    written =
        f.written ∙ ap (λ n. rows_of f.events (replies ms t c₀ f.events) ++ drop n rows₀) f.counted
        ∙ ap (λ es. rows_of es (replies ms t c₀ es) ++ drop (length es) rows₀) (sym events);
  }
    where
      whole : script (length rows₀) bytes 0 ≡ first f.events taken (only_end why)
      whole = f.whole ∙ ap (first f.events taken) e

      events : (script (length rows₀) bytes 0).events ≡ f.events
      events = ap (λ s. s.events) whole ∙ append-nil f.events

  pub answered : {count taken : ℕ} {rows : List Row} {c : Cells} {why : End}
      → Filled count taken rows c why
      → ◌≡◌ {A = Outcome} (record { rows = count; bytes = taken; end = why })
      (outcome (script_of bytes rows₀))
  answered f = let a = f.counted in let b = f.bytes-taken in let e = f.end in cc

  -- one event more
  pub refilled : {count taken : ℕ} {rest : List ℕ} {rows : List Row} {c : Cells}
      → Filling count taken rest rows c
      → count < length rows → (e : Event) (tail : List ℕ) → event_taken rest taken ≡ Ok (e, tail)
      → length tail < length rest
      → (a : Answer) (d : Cells) (row : Row) → a ≡ reply ms t c e → d ≡ step ms t c e
      → row ≡ row_of e a
      → Filling (count + 1) (taken + (length rest - length tail)) tail (set rows count row) d
  refilled {count} {taken} {rest} {rows} {c} f low e tail took shorter a d row ea ed er = record {
    events = f.events ++ e ∷ [];
    left = f.left - 1;
    counted = omega (arith, f.counted, length-append f.events (e ∷ []));
    room = omega (arith, f.room, long f);
    whole =
        f.whole ∙ ap (λ n. first f.events taken (script n rest taken))
        (omega (arith, f.room, long f))
        ∙ ap (first f.events taken) (one_more (f.left - 1) rest taken (omega arith)
        ∙ ap (λ k. onward k
        (λ e rest'. first (e ∷ []) (length rest - length rest')
        (script (f.left - 1) rest' (taken + (length rest - length rest'))))) took)
        ∙ first-first f.events (e ∷ []) taken (length rest - length tail)
        (script (f.left - 1) tail (taken + (length rest - length tail)));
    inside = omega (arith, f.inside);
    reached = ed ∙ ap (λ k. step ms t k e) f.reached ∙ sym (after_append ms t c₀ f.events (e ∷ []));
    written = ap (λ rs. set rs count row) f.written
        ∙ set_next (rows_of f.events (replies ms t c₀ f.events)) rows₀ count row
        (length-rows ms t c₀ f.events ∙ sym f.counted) (omega (arith, long f))
        ∙ ap (λ rs. rs ++ drop (count + 1) rows₀)
        (ap (λ r. rows_of f.events (replies ms t c₀ f.events) ++ r ∷ []) new
        ∙ sym (rows_append ms t c₀ f.events (e ∷ [])));
  }
    where
      new : row ≡ row_of e (reply ms t (after ms t c₀ f.events) e)
      new = er ∙ ap (row_of e) (ea ∙ ap (λ k. reply ms t k e) f.reached)
