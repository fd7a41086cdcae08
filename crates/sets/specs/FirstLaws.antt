-- The first answer, and the least number. It proves, for the crates above, and assumes nothing.
use Rattle.std.proofs.Common.{◌≡◌, ℕ, zero, suc, ◌+◌, ◌<◌, ◌≤◌, Bool, true, false, cond, ◌⊎◌, Some, None, Option, sym, refl, ap, ◌∙◌, inl, inr, arith}
use mathlib.Core.Path.{fun_ext}
use Rattle.std.specs.Option.{option_or, option_map}
use Rattle.std.proofs.lemmas.Bool.{cases_lt, cond-true, cond-false}
use Rattle.std.proofs.lemmas.Option.{none-some, cond_some}
use Rattle.sets.specs.First.{first_of, first_below}

-- no number below k has an answer
pub none_all : {A : Type 0} (k : ℕ) (f : ℕ → Option A) → ((j : ℕ) → j < k → f j ≡ None)
    → first_of k f ≡ None
unfolding first_of
none_all zero f h = refl
none_all {A} (suc k) f h =
    ap (λ (o : Option A). option_or o (f k)) (none_all k f (λ j l. h j (omega arith)))
    ∙ h k (omega arith)

-- the first answer is at k
pub found_at : {A : Type 0} (n : ℕ) (f : ℕ → Option A) (k : ℕ) (x : A) → k < n
    → ((j : ℕ) → j < k → f j ≡ None) → f k ≡ Some x → first_of n f ≡ Some x
unfolding first_of
found_at zero f k x l b e = absurd (omega arith)
found_at {A} (suc n) f k x l b e =
    elim (cases_lt k n) [
      | inl p ↦ ap (λ (o : Option A). option_or o (f n)) (found_at n f k x p b e)
      | inr p ↦ let q : n ≡ k = omega arith in
          ap (λ (o : Option A). option_or o (f n)) (none_all n f (λ j m. b j (omega arith)))
          ∙ ap f q ∙ e
    ]

-- x is the answer at some number below k, and nothing lower has one
pub record Found {A : Type 0} (k : ℕ) (f : ℕ → Option A) (x : A) : Type 0 where
  pub at : ℕ
  pub within : at < k
  pub answers : f at ≡ Some x
  pub before : (j : ℕ) → j < at → f j ≡ None

is_some : {A : Type 0} (o : Option A) → ((x : A) × (o ≡ Some x)) ⊎ (o ≡ None)
is_some None = inr refl
is_some (Some x) = inl (x, refl)

found_or_none : {A : Type 0} (k : ℕ) (f : ℕ → Option A)
    → ((x : A) × Found k f x) ⊎ ((j : ℕ) → j < k → f j ≡ None)
found_or_none zero f = inr (λ j l. absurd (omega arith))
found_or_none (suc k) f =
    elim (found_or_none k f) [
      | inl s ↦ inl (
        s.0,
        record {
          at = s.1.at;
          within = omega (arith, s.1.within);
          answers = s.1.answers;
          before = s.1.before;
        },
      )
      | inr n ↦ elim (is_some (f k)) [
        | inl t ↦ inl (t.0, record { at = k; within = omega arith; answers = t.1; before = n })
        | inr t ↦ inr (λ j l. elim (cases_lt j k) [
          | inl p ↦ n j p
          | inr p ↦ ap f (let e : j ≡ k = omega arith in e) ∙ t
        ])
      ]
    ]

pub found : {A : Type 0} (k : ℕ) (f : ℕ → Option A) (x : A) → first_of k f ≡ Some x → Found k f x
found k f x e =
    elim (found_or_none k f) [
      | inl s ↦ let y = found_at k f s.1.at s.0 s.1.within s.1.before s.1.answers in
          record {
            at = s.1.at;
            within = s.1.within;
            answers = s.1.answers ∙ sym y ∙ e;
            before = s.1.before;
          }
      | inr n ↦ absurd (none-some x (sym (none_all k f n) ∙ e))
    ]

pub all_none : {A : Type 0} (k : ℕ) (f : ℕ → Option A) → first_of k f ≡ None → (j : ℕ) → j < k
    → f j ≡ None
all_none k f e =
    elim (found_or_none k f) [
      | inl s ↦ let y = found_at k f s.1.at s.0 s.1.within s.1.before s.1.answers in
          absurd (none-some s.0 (sym e ∙ y))
      | inr n ↦ n
    ]

-- a loop's step, and its end
pub none_more : {A : Type 0} (k : ℕ) (f : ℕ → Option A) → first_of k f ≡ None → f k ≡ None
    → first_of (k + 1) f ≡ None
none_more k f e h = none_all (k + 1) f (λ j l. elim (cases_lt j k) [
  | inl p ↦ all_none k f e j p
  | inr p ↦ ap f (let q : j ≡ k = omega arith in q) ∙ h
])

pub none_end : {A : Type 0} (n : ℕ) (f : ℕ → Option A) (k : ℕ) → n ≤ k → first_of k f ≡ None
    → first_of n f ≡ None
none_end n f k l e = none_all n f (λ j m. all_none k f e j (omega arith))

pub found_here : {A : Type 0} (n : ℕ) (f : ℕ → Option A) (k : ℕ) (x : A) → k < n
    → first_of k f ≡ None → f k ≡ Some x → first_of n f ≡ Some x
found_here n f k x l e h = found_at n f k x l (all_none k f e) h

-- m is the least number below k that passes
pub record First (k : ℕ) (f : ℕ → Bool) (m : ℕ) : Type 0 where
  pub within : m < k
  pub passes : f m ≡ true
  pub before : (j : ℕ) → j < m → f j ≡ false

left_out : (b : Bool) (i : ℕ) → cond b (Some i) None ≡ None → b ≡ false
left_out true i e = absurd (none-some i (sym e))
left_out false i e = refl

pub first_never : (k : ℕ) (f : ℕ → Bool) → ((j : ℕ) → j < k → f j ≡ false) → first_below k f ≡ None
first_never k f h =
    none_all k (λ i. cond (f i) (Some i) None) (λ j l. cond-false (f j) (Some j) None (h j l))

pub first_is : (k : ℕ) (f : ℕ → Bool) (m : ℕ) → m < k → f m ≡ true → ((j : ℕ) → j < m → f j ≡ false)
    → first_below k f ≡ Some m
first_is k f m l t b =
    found_at k (λ i. cond (f i) (Some i) None) m m l
    (λ j p. cond-false (f j) (Some j) None (b j p)) (cond-true (f m) (Some m) None t)

pub first_some : (k : ℕ) (f : ℕ → Bool) (m : ℕ) → first_below k f ≡ Some m → First k f m
first_some k f m e =
    let s = found k (λ i. cond (f i) (Some i) None) m e in
    let c = cond_some (f s.at) s.at m s.answers in
    record {
      within = omega (arith, s.within, c.1);
      passes = ap f (sym c.1) ∙ c.0;
      before = λ j l. left_out (f j) j (s.before j (omega (arith, c.1)));
    }

pub first_none : (k : ℕ) (f : ℕ → Bool) → first_below k f ≡ None → (j : ℕ) → j < k → f j ≡ false
first_none k f e j l = left_out (f j) j (all_none k (λ i. cond (f i) (Some i) None) e j l)

-- the least that passes, handed on
pub mapped_first : {A : Type 0} (k : ℕ) (p : ℕ → Bool) (g : ℕ → A)
    → option_map g (first_below k p) ≡ first_of k (λ i. cond (p i) (Some (g i)) None)
unfolding first_of
mapped_first zero p g = refl
mapped_first {A} (suc k) p g =
    over (first_below k p) (p k)
    ∙ ap (λ (o : Option A). option_or o (cond (p k) (Some (g k)) None)) (mapped_first k p g)
  where
    over : (o : Option ℕ) (b : Bool)
        → option_map g (option_or o (cond b (Some k) None))
        ≡ option_or (option_map g o) (cond b (Some (g k)) None)
    over (Some x) b = refl
    over None true = refl
    over None false = refl

-- the same, where another test that passes alike was searched
pub told-first : {A : Type 0} (k : ℕ) (p q : ℕ → Bool) (g : ℕ → A) (o : Option ℕ)
    → o ≡ first_below k q → ((i : ℕ) → q i ≡ p i)
    → option_map g o ≡ first_of k (λ i. cond (p i) (Some (g i)) None)
told-first k p q g o e same =
    ap (option_map g) e ∙ ap (λ (h : ℕ → Bool). option_map g (first_below k h)) (fun_ext same)
    ∙ mapped_first k p g

-- tests that agree below k have the same least number
pub first-same : (k : ℕ) (p q : ℕ → Bool) → ((i : ℕ) → i < k → p i ≡ q i)
    → first_below k p ≡ first_below k q
unfolding first_of
first-same zero p q same = refl
first-same (suc k) p q same =
    ap (λ (o : Option ℕ). option_or o (cond (p k) (Some k) None))
    (first-same k p q (λ i l. same i (omega arith)))
    ∙ ap (λ (b : Bool). option_or (first_below k q) (cond b (Some k) None)) (same k (omega arith))
