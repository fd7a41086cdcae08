-- What is sought among the members of a set, one after the other.
use Rattle.std.proofs.Common.{◌≡◌, ℕ, ◌<◌, Bool, true, false, ◌&&◌, ◌||◌, Some, None, sym, refl, ap, ◌∙◌, inl, inr, arith}
use Rattle.std.proofs.lemmas.Bool.{both_ways, cases_eq, ne_eqb, and_from, and_parts, or_cases, or_left, or_right, not_from_false, false_from_ne_true}
use Rattle.sets.specs.Aliases.{RoleSet}
use Rattle.sets.specs.Sets.{has, without_member}
use Rattle.sets.specs.SetLaws.{has_without_low, has-without_member}
use Rattle.sets.specs.First.{first_below}
use Rattle.sets.specs.FirstLaws.{First, first_never, first_is}
use Rattle.families.specs.Separation.{some_below}
use Rattle.families.specs.SeparationLaws.{some_at, some_found}

-- all that pass a test are members of a set
abbrev pub Remaining : (ℕ → Bool) → RoleSet → Type 0
Remaining test s = (k : ℕ) → k < 32 → test k ≡ true → has s.bits k ≡ true

-- and still so without one that does not pass
pub still_remaining : (test : ℕ → Bool) (s z : RoleSet) (r : ℕ) → test r ≡ false
    → z ≡ record { bits = without_member 32 s.bits r } → Remaining test s → Remaining test z
still_remaining test s z r f e all k l h =
    ap (λ (x : RoleSet). has x.bits k) e ∙ has_without_low 32 s.bits r k l
    ∙ and_from (has s.bits k) _ (all k l h)
    (not_from_false _ (ne_eqb k r (λ is. both_ways (test k) (ap test is ∙ f) h)))

-- the lowest member, if it passes, is the first that does; and where there is none, none does
pub lowest_remaining : (test : ℕ → Bool) (s : RoleSet) (r : ℕ) → First 32 (has s.bits) r
    → test r ≡ true → Remaining test s → Some r ≡ first_below 32 test
lowest_remaining test s r low h all =
    sym (first_is 32 test r low.within h (λ j l. false_from_ne_true (test j) (λ q.
    both_ways (has s.bits j) (low.before j l) (all j (omega (arith, low.within)) q))))

pub none_remaining : (test : ℕ → Bool) (s : RoleSet) → ((k : ℕ) → k < 32 → has s.bits k ≡ false)
    → Remaining test s → None ≡ first_below 32 test
none_remaining test s none all =
    sym (first_never 32 test (λ j l. false_from_ne_true (test j) (λ q.
    both_ways (has s.bits j) (none j l) (all j l q))))

-- some member of a set passes a test: the one that is taken out, or one of the rest

either_way : (a b : Bool) → (a ≡ true → b ≡ true) → (b ≡ true → a ≡ true) → a ≡ b
either_way true true f g = refl
either_way true false f g = sym (f refl)
either_way false true f g = g refl
either_way false false f g = refl

pub some_but_one : (test : ℕ → Bool) (b : Bool) (s z : RoleSet) (r : ℕ) → r < 32
    → has s.bits r ≡ true → z ≡ record { bits = without_member 32 s.bits r }
    → ((b || test r) || some_below 32 (λ k. has z.bits k && test k))
    ≡ (b || some_below 32 (λ k. has s.bits k && test k))
some_but_one test b s z r l h e = either_way _ _ on back
  where
    all : ℕ → Bool
    all k = has s.bits k && test k

    rest : ℕ → Bool
    rest k = has z.bits k && test k

    kept : (k : ℕ) → has z.bits k ≡ true → has s.bits k ≡ true
    kept k q = has-without_member 32 s.bits r k (ap (λ (x : RoleSet). has x.bits k) (sym e) ∙ q)

    left : (k : ℕ) → k < 32 → (k ≡ r → ⊥) → has s.bits k ≡ true → has z.bits k ≡ true
    left k lk ne q =
        ap (λ (x : RoleSet). has x.bits k) e ∙ has_without_low 32 s.bits r k lk
        ∙ and_from (has s.bits k) _ q (not_from_false _ (ne_eqb k r ne))

    on : ((b || test r) || some_below 32 rest) ≡ true → (b || some_below 32 all) ≡ true
    on q = elim (or_cases (b || test r) _ q) [
      | inl p ↦ elim (or_cases b (test r) p) [
        | inl x ↦ or_left b _ x
        | inr x ↦ or_right b _ (some_at 32 all r l (and_from (has s.bits r) (test r) h x))
      ]
      | inr p ↦
          let f = some_found 32 rest p in
          let x = and_parts (has z.bits f.0) (test f.0) f.1 in
          or_right b _ (some_at 32 all f.0 f.2 (and_from (has s.bits f.0) (test f.0) (kept f.0 x.0) x.1))
    ]

    back : (b || some_below 32 all) ≡ true → ((b || test r) || some_below 32 rest) ≡ true
    back q = elim (or_cases b _ q) [
      | inl p ↦ or_left (b || test r) _ (or_left b (test r) p)
      | inr p ↦
          let f = some_found 32 all p in
          let x = and_parts (has s.bits f.0) (test f.0) f.1 in
          elim (cases_eq f.0 r) [
            | inl is ↦ or_left (b || test r) _ (or_right b (test r) (ap test (sym is) ∙ x.1))
            | inr ne ↦ or_right (b || test r) _
                (some_at 32 rest f.0 f.2 (and_from (has z.bits f.0) (test f.0) (left f.0 f.2 ne x.0) x.1))
          ]
    ]

-- no member of nothing does
pub some_of_none : (test : ℕ → Bool) (s : RoleSet) → ((k : ℕ) → k < 32 → has s.bits k ≡ false)
    → some_below 32 (λ k. has s.bits k && test k) ≡ false
some_of_none test s none = false_from_ne_true _ (λ h.
    let f = some_found 32 (λ k. has s.bits k && test k) h in
    both_ways (has s.bits f.0) (none f.0 f.2) (and_parts (has s.bits f.0) (test f.0) f.1).0)

pub or_last : (a b : Bool) → b ≡ false → (a || b) ≡ a
or_last true b e = refl
or_last false b e = e
