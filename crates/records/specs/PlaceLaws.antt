-- A record at any place, and what is left. It proves, for the crates above, and assumes nothing.
use Rattle.std.proofs.Common.{◌≡◌, ℕ, suc, ◌-◌, ◌<◌, Bool, true, false, cond, leb, List, [], ◌∷◌, length, take, drop, Some, None, Ok, Err, Option, refl, ap, subst, arith}
use Rattle.std.proofs.lemmas.List.{length-drop}
use Rattle.std.proofs.lemmas.Bool.{leb-true}
use Rattle.records.specs.Faults.{number_of}
use Rattle.records.specs.Kinds.{body_length, reads}
use Rattle.records.specs.Parts.{Taken, cut_after, then, known, taken}
use Rattle.records.specs.declared.kinds.Reader.{Reader}
use Rattle.records.specs.declared.fault.Fault.TheVariants.{UnknownKind, CutBody}

-- the same record with the same rest, or faults of the same number
abbrev pub Alike : {A : Type 0} → Taken A → Taken A → Type 0
Alike (Ok p) (Ok q) = p ≡ q
Alike (Err f) (Err g) = number_of f ≡ number_of g
Alike (Ok p) (Err g) = ⊥
Alike (Err f) (Ok q) = ⊥

pub elsewhere : {A : Type 0} (reader : Reader) (decode : ℕ → List ℕ → Option A)
    (bytes : List ℕ) (a b : ℕ)
    → Alike (taken reader decode bytes a) (taken reader decode bytes b)
elsewhere reader decode [] a b = refl
elsewhere {A} reader decode (k ∷ after) a b = by_kind (reads reader k) (body_length k)
  where
    here : ℕ → ℕ × List ℕ × List ℕ → Taken A
    here at p = known at p.2 (decode p.0 p.1)

    by_decode : (o : Option A) (rest : List ℕ) → Alike (known a rest o) (known b rest o)
    by_decode None rest = refl
    by_decode (Some x) rest = refl

    by_length : (n : ℕ) (w : Bool)
        → Alike (then (cond w (Ok (k, take n after, drop n after)) (Err (CutBody a))) (here a))
        (then (cond w (Ok (k, take n after, drop n after)) (Err (CutBody b))) (here b))
    by_length n true = by_decode (decode k (take n after)) (drop n after)
    by_length n false = refl

    by_kind : (r : Bool) (o : Option ℕ)
        → Alike (then (cond r (cut_after a k after o) (Err (UnknownKind a))) (here a))
        (then (cond r (cut_after b k after o) (Err (UnknownKind b))) (here b))
    by_kind true (Some n) = by_length n (leb n (length after))
    by_kind true None = refl
    by_kind false o = refl

-- where a record was taken, what is left is the end of the bytes, and shorter
abbrev Left : {A : Type 0} → List ℕ → Taken A → Type 0
Left bytes (Ok p) = (p.1 ≡ drop (length bytes - length p.1) bytes) × (length p.1 < length bytes)
Left bytes (Err f) = Unit {0}

left_over : {A : Type 0} (reader : Reader) (decode : ℕ → List ℕ → Option A)
    (bytes : List ℕ) (at : ℕ) → Left bytes (taken reader decode bytes at)
left_over reader decode [] at = tt
left_over {A} reader decode (k ∷ after) at = by_kind (reads reader k) (body_length k)
  where
    here : ℕ × List ℕ × List ℕ → Taken A
    here p = known at p.2 (decode p.0 p.1)

    by_decode : (n : ℕ) → leb n (length after) ≡ true → (o : Option A)
        → Left (k ∷ after) (known at (drop n after) o)
    by_decode n e None = tt
    by_decode n e (Some x) =
        let l = leb-true n (length after) e in
        let d = length-drop n after in
        let m : suc n ≡ length (k ∷ after) - length (drop n after) = omega arith in
        (ap (λ i. drop i (k ∷ after)) m, omega arith)

    by_length : (n : ℕ) (w : Bool) → leb n (length after) ≡ w
        → Left (k ∷ after)
        (then (cond w (Ok (k, take n after, drop n after)) (Err (CutBody at))) here)
    by_length n true e = by_decode n e (decode k (take n after))
    by_length n false e = tt

    by_kind : (r : Bool) (o : Option ℕ)
        → Left (k ∷ after) (then (cond r (cut_after at k after o) (Err (UnknownKind at))) here)
    by_kind true (Some n) = by_length n (leb n (length after)) refl
    by_kind true None = tt
    by_kind false o = tt

pub rest_of : {A : Type 0} (reader : Reader) (decode : ℕ → List ℕ → Option A)
    (bytes : List ℕ) (at : ℕ) (x : A) (rest : List ℕ)
    → taken reader decode bytes at ≡ Ok (x, rest)
    → (rest ≡ drop (length bytes - length rest) bytes) × (length rest < length bytes)
rest_of reader decode bytes at x rest e = subst (Left bytes) e (left_over reader decode bytes at)
