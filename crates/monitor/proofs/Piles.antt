-- What two piles rule together.
use Rattle.std.specs.Prelude.{◌≡◌, ℕ, suc, ◌+◌, min, true, false, cond, List, [], ◌∷◌, ◌++◌, length, Ok, Err, refl}
use Rattle.std.proofs.Common.{sym, ap, ◌∙◌, arith}
use Rattle.std.specs.Result.{MatchResult, IsErrAnd}
use Rattle.std.proofs.lemmas.Result.{err_from_is_err_and}
use Rattle.records.specs.declared.event.Event.{Event}
use Rattle.policy.specs.declared.tables.Tables.{Tables}
use Rattle.monitor.specs.declared.answers.Reason.{Reason}
use Rattle.monitor.specs.declared.states.Cells.{Cells}
use Rattle.monitor.specs.Meaning.{Meaning, Ruling, ruling, lowered, deeper, own_reason}

-- the upper ruling where it refuses, else the lower
abbrev first_refusal : Ruling → Ruling → Ruling
first_refusal (Err r) below = Err r
first_refusal (Ok x) below = below

deeper-deeper : (n m k : ℕ) → ((p : ℕ) → min 255 (n + min 255 (m + p)) ≡ min 255 (k + p))
    → (o : Ruling) → deeper n (deeper m o) ≡ deeper k o
deeper-deeper n m k h (Ok x) = refl
deeper-deeper n m k h (Err r) =
    ap {B = Ruling} (λ (p : ℕ). Err (record { number = r.number; subject = r.subject; place = p }))
    (h r.place)

deeper-first : (n : ℕ) (a b : Ruling)
    → deeper n (first_refusal a b) ≡ first_refusal (deeper n a) (deeper n b)
deeper-first n (Ok x) b = refl
deeper-first n (Err r) b = refl

-- a ruling whose reason is mapped to one further down
pub mapped_deeper : (n : ℕ) (o v : Ruling) (P : Reason → Reason → Type 0)
    → ((r z : Reason) → P r z → z ≡ lowered n r)
    → MatchResult o (λ x. v ≡ Ok x) (λ r. IsErrAnd v (P r)) → v ≡ deeper n o
mapped_deeper n (Ok x) v P f h = h
mapped_deeper n (Err r) v P f h =
    let p = err_from_is_err_and v h in p.1 ∙ ap {B = Ruling} (λ (z : Reason). Err z) (f r p.0 p.2)

module _ (t : Tables) (c : Cells) (e : Event) where
  -- a ruling's place is at most 255
  deeper_none : (ms : List Meaning) → deeper 0 (ruling ms t c e) ≡ ruling ms t c e
  deeper_none [] = refl
  deeper_none (m ∷ ms) =
      elim (m.admits t c e) as (λ b.
      deeper 0 (cond b (deeper 1 (ruling ms t c e)) (Err (own_reason m t c e)))
      ≡ cond b (deeper 1 (ruling ms t c e)) (Err (own_reason m t c e))) [
        | true ↦ deeper-deeper 0 1 1 (λ p. omega arith) (ruling ms t c e)
        | false ↦ refl
      ]

  pub ruling_append : (xs ys : List Meaning)
      → ruling (xs ++ ys) t c e
      ≡ first_refusal (ruling xs t c e) (deeper (min 255 (length xs)) (ruling ys t c e))
  ruling_append [] ys = sym (deeper_none ys)
  ruling_append (m ∷ xs) ys =
      let rest = ruling_append xs ys in
      let lower =
      deeper-deeper 1 (min 255 (length xs)) (min 255 (suc (length xs))) (λ p. omega arith)
      (ruling ys t c e) in
      elim (m.admits t c e) as (λ b.
      cond b (deeper 1 (ruling (xs ++ ys) t c e)) (Err (own_reason m t c e))
      ≡ first_refusal (cond b (deeper 1 (ruling xs t c e)) (Err (own_reason m t c e)))
      (deeper (min 255 (suc (length xs))) (ruling ys t c e))) [
        | true ↦
            ap (deeper 1) rest
            ∙ deeper-first 1 (ruling xs t c e) (deeper (min 255 (length xs)) (ruling ys t c e))
            ∙ ap (first_refusal (deeper 1 (ruling xs t c e))) lower
        | false ↦ refl
      ]

  -- what the pair's code answers, by what its parts answered
  module _ (xs ys : List Meaning) where
    pub ruling_upper : (r : Reason) → Err r ≡ ruling xs t c e → Err r ≡ ruling (xs ++ ys) t c e
    ruling_upper r h =
        sym (ruling_append xs ys
        ∙ ap (λ o. first_refusal o (deeper (min 255 (length xs)) (ruling ys t c e))) (sym h))

    pub ruling_lower : (n : ℕ) (o : Ruling) → Ok tt ≡ ruling xs t c e → n ≡ min 255 (length xs)
        → o ≡ ruling ys t c e → deeper n o ≡ ruling (xs ++ ys) t c e
    ruling_lower n o h p k =
        sym (ruling_append xs ys
        ∙ ap (λ q. first_refusal q (deeper (min 255 (length xs)) (ruling ys t c e))) (sym h)
        ∙ ap (deeper (min 255 (length xs))) (sym k) ∙ ap (λ m. deeper m o) (sym p))
