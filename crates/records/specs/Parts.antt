-- A record taken apart into its kind, its body and the bytes after it. Assumes nothing.
--
--   parts reader bytes at           the record at the front, in parts, or the fault at its place
--   taken reader decode bytes at    the record of some type at the front, or the fault at its place
--   TakenApart, Took                the same of what the code answers, whose bytes are references
use Rattle.std.specs.Prelude.{◌≡◌, ℕ, if◌then◌else◌, List, [], ◌∷◌, length, take, drop, Some, None, Ok, Err, Option, Result, nat_le}
use Rattle.std.specs.Borrow.{Bor}
use Rattle.records.specs.Kinds.{body_length, reads}
use Rattle.records.specs.declared.kinds.Reader.{Reader}
use Rattle.records.specs.declared.fault.Fault.{Fault}
use Rattle.records.specs.declared.fault.Fault.TheVariants.{UnknownKind, CutBody, NoByte}

-- a record's kind, its body and the bytes after it, or the fault at its place
abbrev pub Parts : Type 0
Parts = Result (ℕ × List ℕ × List ℕ) Fault

-- the body is whole where that many bytes are left
abbrev pub cut_after : ℕ → ℕ → List ℕ → Option ℕ → Parts
cut_after at k after None = Err (UnknownKind at)
cut_after at k after (Some n) =
    if nat_le n (length after) then Ok (k, take n after, drop n after) else Err (CutBody at)

-- the record at the front taken apart
abbrev pub parts : Reader → List ℕ → ℕ → Parts
parts reader [] at = Err (NoByte at)
parts reader (k ∷ after) at =
    if reads reader k then cut_after at k after (body_length k) else Err (UnknownKind at)

-- what the code answers, whose body and rest are references
abbrev pub TakenApart : Reader → List ℕ → ℕ → Result (ℕ × Bor (List ℕ) × Bor (List ℕ)) Fault
    → Type 0
TakenApart reader bytes at (Ok p) = parts reader bytes at ≡ Ok (p.0, p.1.now, p.2.now)
TakenApart reader bytes at (Err f) = parts reader bytes at ≡ Err f

-- what a `?` does: go on with the value, or hand the fault on
abbrev pub then : {A B E : Type 0} → Result A E → (A → Result B E) → Result B E
(then) (Ok x) f = f x
(then) (Err e) f = Err e

-- a record of some type with the bytes after it, or a fault
abbrev pub Taken : Type 0 → Type 0
Taken A = Result (A × List ℕ) Fault

-- the record that was decoded with the bytes after it, or the fault of an unknown kind
abbrev pub known : {A : Type 0} → ℕ → List ℕ → Option A → Taken A
known at rest None = Err (UnknownKind at)
known at rest (Some x) = Ok (x, rest)

-- the record that stands at the front, where `decode` says what a kind and a body are
abbrev pub taken : {A : Type 0} → Reader → (ℕ → List ℕ → Option A) → List ℕ → ℕ → Taken A
taken reader decode bytes at = (then) (parts reader bytes at) (λ p. known at p.2 (decode p.0 p.1))

-- what the code answers, whose rest is a reference
abbrev pub Took : {A : Type 0} → Taken A → Result (A × Bor (List ℕ)) Fault → Type 0
Took defined (Ok p) = defined ≡ Ok (p.0, p.1.now)
Took defined (Err f) = defined ≡ Err f
