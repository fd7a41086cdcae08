-- One turn of reading: a fault, the end record, or a record entered. Assumes nothing.
use Rattle.std.proofs.Common.{◌≡◌, ℕ, zero, suc, ◌+◌, ◌-◌, ◌<◌, Bool, true, false, cond, List, length, Ok, Err, Result, sym, refl, ap, subst, ◌∙◌, arith}
use Rattle.std.proofs.lemmas.Bool.{cond-true, cond-false}
use Rattle.records.specs.Parts.{Taken, then}
use Rattle.records.specs.Entries.{entry_taken}
use Rattle.records.specs.declared.entry.Entry.{Entry}
use Rattle.records.specs.declared.fault.Fault.{Fault}
use Rattle.policy.specs.declared.tables.Tables.{Tables}
use Rattle.policy.specs.Reading.{after_entry, is_end, read_from, reading, draft_of}
use Rattle.policy.specs.Updates.{bare}
use Rattle.policy.specs.WellFormed.{WellFormed}
use Rattle.policy.specs.WellFormedLaws.{bare_well_formed, after_entry_well_formed}

abbrev Read : Type 0
Read = Result (Tables × ℕ) Fault

-- what is left to do once the record x is taken, and once it is entered
abbrev goes_on : ℕ → Entry → List ℕ → ℕ → Tables → Read
goes_on k x tail next u = cond (is_end x) (Ok (u, next)) (read_from k u tail next)

abbrev goes : ℕ → Tables → List ℕ → ℕ → Taken Entry → Read
goes k t s at taken =
    then taken (λ p. then (after_entry t p.0 at) (goes_on k p.0 p.1 (at + (length s - length p.1))))

-- the reading of s, of which some k records are left
pub record Left (t : Tables) (s : List ℕ) (at : ℕ) (out : Read) : Type 0 where
  pub k : ℕ
  pub enough : length s < suc k
  pub same : goes k t s at (entry_taken s at) ≡ out

pub opened : (k : ℕ) (t : Tables) (s : List ℕ) (at : ℕ) (out : Read) → length s < k
    → read_from k t s at ≡ out → Left t s at out
unfolding read_from
opened zero t s at out h e = absurd (omega arith)
opened (suc k) t s at out h e = record { k = k; enough = h; same = e }

pub faulty : (t : Tables) (s : List ℕ) (at : ℕ) (out : Read) (f : Fault) → Left t s at out
    → entry_taken s at ≡ Err f → Err f ≡ out
faulty t s at out f l e = sym (ap (goes l.k t s at) e) ∙ l.same

module _ (t : Tables) (s : List ℕ) (at : ℕ) (out : Read) (x : Entry) (tail : List ℕ)
    (l : Left t s at out) (e : entry_taken s at ≡ Ok (x, tail)) where
  -- what is left, whatever the questions answer
  possible : (r : Result Tables Fault) → after_entry t x at ≡ r
      → then r (goes_on l.k x tail (at + (length s - length tail))) ≡ out
  possible r a =
      sym (ap (goes l.k t s at) e
      ∙ ap (λ (q : Result Tables Fault). then q
      (goes_on l.k x tail (at + (length s - length tail)))) a) ∙ l.same

  pub refused : (f : Fault) → after_entry t x at ≡ Err f → Err f ≡ out
  refused f a = possible (Err f) a

  -- the place after the record, however it is counted
  module _ (next : ℕ) (counted : at + (length s - length tail) ≡ next) where
    placed : (u : Tables) → after_entry t x at ≡ Ok u → goes_on l.k x tail next u ≡ out
    placed u a = subst (λ (n : ℕ). goes_on l.k x tail n u ≡ out) counted (possible (Ok u) a)

    pub ended : (u : Tables) → after_entry t x at ≡ Ok u → true ≡ is_end x → Ok (u, next) ≡ out
    ended u a h =
        sym (cond-true (is_end x) (Ok (u, next)) (read_from l.k u tail next) (sym h)) ∙ placed u a

    pub turned : (u : Tables) → after_entry t x at ≡ Ok u → false ≡ is_end x
        → length tail < length s
        → (k : ℕ) × (length tail < k) × (read_from k u tail next ≡ out)
    turned u a h lt = (
      l.k,
      omega (arith, l.enough),
      sym (cond-false (is_end x) (Ok (u, next)) (read_from l.k u tail next) (sym h))
          ∙ placed u a,
    )

-- what is read is well formed
then_well_formed : (k : ℕ) (t : Tables) (x : Entry) (tail : List ℕ) (at next : ℕ) → WellFormed t
    → ((u : Tables) → WellFormed u → WellFormed (draft_of (read_from k u tail next)))
    → WellFormed (draft_of (then (after_entry t x at) (goes_on k x tail next)))
then_well_formed k t x tail at next w rest = go (after_entry t x at) refl
  where
    go : (r : Result Tables Fault) → after_entry t x at ≡ r
        → WellFormed (draft_of (then r (goes_on k x tail next)))
    go (Err f) e = bare_well_formed
    go (Ok u) e = ends (is_end x)
      where
        entered : WellFormed u
        entered = after_entry_well_formed t u x at w e

        ends : (b : Bool) → WellFormed (draft_of (cond b (Ok (u, next)) (read_from k u tail next)))
        ends true = entered
        ends false = rest u entered

read_well_formed : (k : ℕ) (t : Tables) (s : List ℕ) (at : ℕ) → WellFormed t
    → WellFormed (draft_of (read_from k t s at))
unfolding read_from
read_well_formed zero t s at w = bare_well_formed
read_well_formed (suc k) t s at w =
    go (entry_taken s at) (λ u tail next. read_well_formed k u tail next)
  where
    go : (r : Taken Entry)
        → ((u : Tables) (tail : List ℕ) (next : ℕ) → WellFormed u
        → WellFormed (draft_of (read_from k u tail next)))
        → WellFormed (draft_of (goes k t s at r))
    go (Err f) ih = bare_well_formed
    go (Ok p) ih =
        then_well_formed k t p.0 p.1 at (at + (length s - length p.1)) w
        (λ u h. ih u p.1 (at + (length s - length p.1)) h)

pub reading_well_formed : (bytes : List ℕ) → WellFormed (draft_of (reading bytes))
reading_well_formed bytes = read_well_formed (length bytes + 1) bare bytes 0 bare_well_formed
