-- How many numbers pass a test. It proves, for the crates above, and assumes nothing.
use Rattle.std.proofs.Common.{◌≡◌, ℕ, zero, suc, ◌+◌, ◌<◌, ◌≤◌, Bool, true, false, cond, refl, ap, ◌∙◌, add-one, arith}
use Rattle.sets.specs.Sets.{count_below}

-- a test that passes wherever another does counts as many or more
pub count_more : (k : ℕ) (f g : ℕ → Bool) → ((i : ℕ) → i < k → f i ≡ true → g i ≡ true)
    → count_below k f ≤ count_below k g
unfolding count_below
count_more zero f g h = omega arith
count_more (suc k) f g h =
    let ih = count_more k f g (λ i l. h i (omega arith)) in
    let here = one (f k) (g k) (h k (omega arith)) in
    omega arith
  where
    one : (a b : Bool) → (a ≡ true → b ≡ true) → cond a 1 0 ≤ cond b 1 0
    one true b e =
        let q : ◌≡◌ {A = ℕ} (cond b 1 0) 1 = ap (λ (x : Bool). cond x 1 0) (e refl) in omega arith
    one false b e = omega arith

-- nothing passes
pub count_none : (k : ℕ) (f : ℕ → Bool) → ((i : ℕ) → i < k → f i ≡ false) → count_below k f ≡ 0
unfolding count_below
count_none zero f h = refl
count_none (suc k) f h =
    let ih = count_none k f (λ i l. h i (omega arith)) in
    let here : ◌≡◌ {A = ℕ} (cond (f k) 1 0) 0 = ap (λ (x : Bool). cond x 1 0) (h k (omega arith)) in
    omega arith

-- no more pass than there are
pub count_most : (k : ℕ) (f : ℕ → Bool) → count_below k f ≤ k
unfolding count_below
count_most zero f = omega arith
count_most (suc k) f = let ih = count_most k f in let here = one (f k) in omega arith
  where
    one : (a : Bool) → cond a 1 0 ≤ 1
    one true = omega arith
    one false = omega arith

-- a loop's start and its step
pub count_start : (f : ℕ → Bool) → count_below 0 f ≡ 0
unfolding count_below
count_start f = refl

pub count_next : (k : ℕ) (f : ℕ → Bool) → count_below (k + 1) f ≡ count_below k f + cond (f k) 1 0
unfolding count_below
count_next k f = ap (λ (n : ℕ). count_below n f) (add-one k) ∙ omega arith
