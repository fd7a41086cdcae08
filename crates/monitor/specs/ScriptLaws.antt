-- A script cut at a row, and one with rows to spare. It proves, for the crates above, and assumes
-- nothing.
use Rattle.std.proofs.Common.{◌≡◌, ℕ, zero, suc, ◌+◌, ◌-◌, ◌≤◌, List, [], ◌∷◌, ◌++◌, length, drop, Ok, Err, sym, refl, ap, ◌∙◌, subst, arith}
use Rattle.std.proofs.lemmas.List.{drop-drop, length-drop}
use Rattle.records.specs.declared.event.Event.{Event}
use Rattle.records.specs.declared.fault.Fault.{Fault}
use Rattle.records.specs.declared.kinds.Reader.TheVariants.{Events}
use Rattle.records.specs.Events.{event_of, event_taken}
use Rattle.records.specs.Parts.{Taken}
use Rattle.records.specs.PlaceLaws.{Alike, elsewhere, rest_of}
use Rattle.policy.specs.declared.tables.Tables.{Tables}
use Rattle.monitor.specs.declared.states.Cells.{Cells}
use Rattle.monitor.specs.declared.run.Stop.TheVariants.{NoByteLeft, NoRowLeft}
use Rattle.monitor.specs.History.{replies, after}
use Rattle.monitor.specs.Meaning.{Meaning}
use Rattle.monitor.specs.OneRun.{Joins}
use Rattle.monitor.specs.Rows.{rows_of}
use Rattle.monitor.specs.Scripts.{End, end_number, Script, first, onward, script}
use Rattle.monitor.specs.RowLaws.{first_none, first-first, rows_append}
use Rattle.monitor.specs.RunLaws.{after_append}

-- the end is not that no row is left
abbrev pub Settled : Script → Type 0
Settled s = s.end ≡ Ok NoRowLeft → ⊥

byte_end : {X : Type 0} → ◌≡◌ {A = End} (Ok NoByteLeft) (Ok NoRowLeft) → X
byte_end e = absurd (let z : 0 ≡ 10 = ap end_number e in omega arith)

fault_end : {X : Type 0} (f : Fault) → ◌≡◌ {A = End} (Err f) (Ok NoRowLeft) → X
fault_end f e = absurd (let z : ◌≡◌ {A = ℕ} 0 1 = cc in omega arith)

-- the script after one event, with n rows left for the rest
abbrev on_from : ℕ → List ℕ → ℕ → Event → List ℕ → Script
on_from n bytes at e rest =
    first (e ∷ []) (length bytes - length rest) (script n rest (at + (length bytes - length rest)))

-- n rows that do not suffice, and then m more
abbrev GoesOn : ℕ → ℕ → List ℕ → ℕ → Type 0
GoesOn n m bytes at =
    (script n bytes at).end ≡ Ok NoRowLeft
    → script (n + m) bytes at
    ≡ first (script n bytes at).events (script n bytes at).bytes
    (script m (drop (script n bytes at).bytes bytes) (at + (script n bytes at).bytes))

pub joined : (n m : ℕ) (bytes : List ℕ) (at : ℕ) → GoesOn n m bytes at
unfolding script
joined zero m [] at e = byte_end e
joined (suc n) m [] at e = byte_end e
joined zero m (b ∷ bs) at e =
    ap (λ k. script k (b ∷ bs) at) {x = 0 + m} {y = m} (omega arith)
    ∙ ap (script m (b ∷ bs)) {x = at} {y = at + 0} (omega arith)
    ∙ sym (first_none (script m (b ∷ bs) (at + 0)))
joined (suc n) m (b ∷ bs) at e =
    ap (λ k. script k (b ∷ bs) at) {x = suc n + m} {y = suc (n + m)} (omega arith)
    ∙ go (joined n m) (event_taken (b ∷ bs) at) refl e
  where
    bytes : List ℕ
    bytes = b ∷ bs

    go : ((rest : List ℕ) (place : ℕ) → GoesOn n m rest place) → (k : Taken Event)
        → event_taken bytes at ≡ k → (onward k (on_from n bytes at)).end ≡ Ok NoRowLeft
        → onward k (on_from (n + m) bytes at)
        ≡ first (onward k (on_from n bytes at)).events (onward k (on_from n bytes at)).bytes
        (script m (drop (onward k (on_from n bytes at)).bytes bytes)
        (at + (onward k (on_from n bytes at)).bytes))
    go later (Err f) ek ee = fault_end f ee
    go later (Ok (x, rest)) ek ee =
        let k = length bytes - length rest in
        let s = script n rest (at + k) in
        let skip = ap (drop s.bytes) (rest_of Events event_of bytes at x rest ek).0
        ∙ drop-drop s.bytes k bytes in
        ap (first (x ∷ []) k) (later rest (at + k) ee)
        ∙ first-first (x ∷ []) s.events k s.bytes (script m (drop s.bytes rest) (at + k + s.bytes))
        ∙ ap (λ left. first (x ∷ s.events) (k + s.bytes) (script m left (at + k + s.bytes))) skip
        ∙ ap (λ place. first (x ∷ s.events) (k + s.bytes)
        (script m (drop (k + s.bytes) bytes) place)) (omega arith)

-- rows that suffice, and m more to spare
pub spared : (n m : ℕ) (bytes : List ℕ) (at : ℕ) → Settled (script n bytes at)
    → script (n + m) bytes at ≡ script n bytes at
unfolding script
spared zero zero [] at enough = refl
spared zero (suc m) [] at enough =
    ap (λ k. script k [] at) {x = 0 + suc m} {y = suc m} (omega arith)
spared (suc n) m [] at enough =
    ap (λ k. script k [] at) {x = suc n + m} {y = suc (n + m)} (omega arith)
spared zero m (b ∷ bs) at enough = absurd (enough refl)
spared (suc n) m (b ∷ bs) at enough =
    ap (λ k. script k (b ∷ bs) at) {x = suc n + m} {y = suc (n + m)} (omega arith)
    ∙ go (spared n m) (event_taken (b ∷ bs) at) enough
  where
    go : ((rest : List ℕ) (place : ℕ) → Settled (script n rest place)
        → script (n + m) rest place ≡ script n rest place)
        → (k : Taken Event) → Settled (onward k (on_from n (b ∷ bs) at))
        → onward k (on_from (n + m) (b ∷ bs) at) ≡ onward k (on_from n (b ∷ bs) at)
    go later (Err f) enough' = refl
    go later (Ok (x, rest)) enough' =
        let k = length (b ∷ bs) - length rest in ap (first (x ∷ []) k) (later rest (at + k) enough')

-- as many rows as bytes suffice
pub suffices : (n : ℕ) (bytes : List ℕ) (at : ℕ) → length bytes ≤ n → Settled (script n bytes at)
unfolding script
suffices zero [] at l = byte_end
suffices (suc n) [] at l = byte_end
suffices zero (b ∷ bs) at l = absurd (omega arith)
suffices (suc n) (b ∷ bs) at l = go (suffices n) (event_taken (b ∷ bs) at) refl
  where
    go : ((rest : List ℕ) (place : ℕ) → length rest ≤ n → Settled (script n rest place))
        → (k : Taken Event) → event_taken (b ∷ bs) at ≡ k
        → Settled (onward k (on_from n (b ∷ bs) at))
    go later (Err f) ek = fault_end f
    go later (Ok (x, rest)) ek =
        later rest (at + (length (b ∷ bs) - length rest))
        (omega (arith, (rest_of Events event_of (b ∷ bs) at x rest ek).1))

-- two scripts alike in all but the place of a fault
pub record Similar (s z : Script) : Type 0 where
  pub events : s.events ≡ z.events
  pub bytes : s.bytes ≡ z.bytes
  pub number : end_number s.end ≡ end_number z.end

pub similar_elsewhere : (n : ℕ) (bytes : List ℕ) (a b : ℕ)
    → Similar (script n bytes a) (script n bytes b)
unfolding script
similar_elsewhere zero [] a b = record { events = refl; bytes = refl; number = refl }
similar_elsewhere (suc n) [] a b = record { events = refl; bytes = refl; number = refl }
similar_elsewhere zero (x ∷ xs) a b = record { events = refl; bytes = refl; number = refl }
similar_elsewhere (suc n) (x ∷ xs) a b =
    go (similar_elsewhere n) (event_taken (x ∷ xs) a) (event_taken (x ∷ xs) b)
    (elsewhere Events event_of (x ∷ xs) a b)
  where
    go : ((rest : List ℕ) (a b : ℕ) → Similar (script n rest a) (script n rest b))
        → (k l : Taken Event) → Alike k l
        → Similar (onward k (on_from n (x ∷ xs) a)) (onward l (on_from n (x ∷ xs) b))
    go later (Err f) (Err g) e = record { events = refl; bytes = refl; number = e }
    go later (Ok p) (Err g) e = absurd e
    go later (Err f) (Ok q) e = absurd e
    go later (Ok p) (Ok q) e =
        subst (λ r. Similar (on_from n (x ∷ xs) a p.0 p.1) (on_from n (x ∷ xs) b r.0 r.1)) e
        (same p)
      where
        same : (p : Event × List ℕ)
            → Similar (on_from n (x ∷ xs) a p.0 p.1) (on_from n (x ∷ xs) b p.0 p.1)
        same p =
            let k = length (x ∷ xs) - length p.1 in
            let like = later p.1 (a + k) (b + k) in
            record {
              events = ap (λ es. p.0 ∷ es) like.events;
              bytes = ap (λ m. k + m) like.bytes;
              number = like.number;
            }

-- no more rows are filled than there are, every event takes a byte at least, and no more bytes are
-- taken than there are
pub record Within (n : ℕ) (bytes : List ℕ) (s : Script) : Type 0 where
  pub rows : length s.events ≤ n
  pub each : length s.events ≤ s.bytes
  pub taken : s.bytes ≤ length bytes

pub within : (n : ℕ) (bytes : List ℕ) (at : ℕ) → Within n bytes (script n bytes at)
unfolding script
within zero [] at = record { rows = omega arith; each = omega arith; taken = omega arith }
within (suc n) [] at = record { rows = omega arith; each = omega arith; taken = omega arith }
within zero (b ∷ bs) at = record { rows = omega arith; each = omega arith; taken = omega arith }
within (suc n) (b ∷ bs) at = go (within n) (event_taken (b ∷ bs) at) refl
  where
    go : ((rest : List ℕ) (place : ℕ) → Within n rest (script n rest place)) → (k : Taken Event)
        → event_taken (b ∷ bs) at ≡ k
        → Within (suc n) (b ∷ bs) (onward k (on_from n (b ∷ bs) at))
    go later (Err f) ek = record { rows = omega arith; each = omega arith; taken = omega arith }
    go later (Ok (x, rest)) ek =
        let l = later rest (at + (length (b ∷ bs) - length rest)) in
        let short = (rest_of Events event_of (b ∷ bs) at x rest ek).1 in
        record {
          rows = omega (arith, l.rows);
          each = omega (arith, l.each, short);
          taken = omega (arith, l.taken, short);
        }

-- where no row is left, all of them are filled
pub all_filled : (n : ℕ) (bytes : List ℕ) (at : ℕ) → (script n bytes at).end ≡ Ok NoRowLeft
    → length (script n bytes at).events ≡ n
unfolding script
all_filled zero [] at e = byte_end e
all_filled (suc n) [] at e = byte_end e
all_filled zero (b ∷ bs) at e = refl
all_filled (suc n) (b ∷ bs) at e = go (all_filled n) (event_taken (b ∷ bs) at) e
  where
    go : ((rest : List ℕ) (place : ℕ) → (script n rest place).end ≡ Ok NoRowLeft
        → length (script n rest place).events ≡ n)
        → (k : Taken Event) → (onward k (on_from n (b ∷ bs) at)).end ≡ Ok NoRowLeft
        → length (onward k (on_from n (b ∷ bs) at)).events ≡ suc n
    go later (Err f) ee = fault_end f ee
    go later (Ok (x, rest)) ee = ap suc (later rest (at + (length (b ∷ bs) - length rest)) ee)

pub similar_after : (es : List Event) (n : ℕ) {s z : Script} → Similar s z
    → Similar (first es n s) (first es n z)
similar_after es n like = record {
  events = ap (λ xs. es ++ xs) like.events;
  bytes = ap (λ k. n + k) like.bytes;
  number = like.number;
}

pub similar_then : {s y z : Script} → Similar s y → Similar y z → Similar s z
similar_then a b =
    record { events = a.events ∙ b.events; bytes = a.bytes ∙ b.bytes; number = a.number ∙ b.number }

pub similar_same : {s z : Script} → s ≡ z → Similar s z
similar_same e = record {
  events = ap (λ s. s.events) e;
  bytes = ap (λ s. s.bytes) e;
  number = ap (λ s. end_number s.end) e;
}

-- as many rows as bytes are as good as any greater number
pub plenty : (n : ℕ) (bytes : List ℕ) (at : ℕ) → length bytes ≤ n
    → script n bytes at ≡ script (length bytes) bytes at
plenty n bytes at l =
    ap (λ k. script k bytes at) {x = n} {y = length bytes + (n - length bytes)} (omega arith)
    ∙ spared (length bytes) (n - length bytes) bytes at
    (suffices (length bytes) bytes at (omega arith))

-- all the events of the bytes: those of one run, and where no row was left those of the rest
pub whole-settled : (n : ℕ) (bytes : List ℕ) → Settled (script n bytes 0)
    → script (length bytes) bytes 0 ≡ script n bytes 0
whole-settled n bytes enough =
    sym (plenty (n + length bytes) bytes 0 (omega arith)) ∙ spared n (length bytes) bytes 0 enough

pub whole_goes_on : (n : ℕ) (bytes : List ℕ) → (script n bytes 0).end ≡ Ok NoRowLeft
    → let one = script n bytes 0 in let rest = drop one.bytes bytes in
    Similar (script (length bytes) bytes 0)
    (first one.events one.bytes (script (length rest) rest 0))
whole_goes_on n bytes e =
    let one = script n bytes 0 in
    let rest = drop one.bytes bytes in
    similar_then (similar_same
    (sym (plenty (n + length bytes) bytes 0 (omega arith)) ∙ joined n (length bytes) bytes 0 e))
    (similar_after one.events one.bytes (similar_then
    (similar_elsewhere (length bytes) rest (0 + one.bytes) 0)
    (similar_same (plenty (length bytes) rest 0 (omega (arith, length-drop one.bytes bytes))))))

pub joins : (ms : List Meaning) (t : Tables) (c : Cells) (bytes : List ℕ) (n : ℕ)
    → (script n bytes 0).end ≡ Ok NoRowLeft → Joins ms t c bytes n
joins ms t c bytes n e m = record {
  rows =
      ap (λ es. rows_of es (replies ms t c es)) events ∙ rows_append ms t c one.events two.events;
  state = ap (after ms t c) events ∙ after_append ms t c one.events two.events;
  bytes = ap (λ s. s.bytes) whole ∙ ap (λ k. one.bytes + k) like.bytes;
  number = ap (λ s. end_number s.end) whole ∙ like.number;
}
  where
    one : Script
    one = script n bytes 0

    two : Script
    two = script m (drop one.bytes bytes) 0

    whole : script (n + m) bytes 0
        ≡ first one.events one.bytes (script m (drop one.bytes bytes) (0 + one.bytes))
    whole = joined n m bytes 0 e

    like : Similar (script m (drop one.bytes bytes) (0 + one.bytes)) two
    like = similar_elsewhere m (drop one.bytes bytes) (0 + one.bytes) 0

    events : (script (n + m) bytes 0).events ≡ one.events ++ two.events
    events = ap (λ s. s.events) whole ∙ ap (λ es. one.events ++ es) like.events
