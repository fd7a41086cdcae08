-- `find_map` over the numbers below n gives the first answer.
use Rattle.std.proofs.Common.{◌≡◌, ℕ, ◌+◌, ◌<◌, true, Some, None, Option, sym, ap, ◌∙◌, subst, arith}
use Rattle.std.proofs.iter.Yields.{nat_range_steps}
use Rattle.std.proofs.iter.runs.Sources.{range_runs}
use Rattle.std.specs.Fn.{Called}
use Rattle.std.specs.Iterator.Runs.{Run, SomeRun, AllItemsGive, IsFirstToGive}
use Rattle.std.specs.Option.{option_map, IfSome, IsSomeAnd, MatchOption}
use denote.Param.Members.{Mut}
use Rattle.sets.specs.First.{first_of}
use Rattle.sets.specs.FirstLaws.{none_all, found_at}

read_back : (o : Option ℕ) (m : ℕ) → option_map (λ y. y) o ≡ Some m → o ≡ Some m
read_back None m e = e
read_back (Some x) m e = e

module _ {F B : Type 0} (g : Mut F (ℕ × Unit {0}) (Option B)) (f : F) (n : ℕ) where
  -- what the contract of `find_map` says of its run and its result
  abbrev pub Found : Run nat_range_steps → Option B → Type 0
  Found p r = MatchOption r ((p.whole ≡ true) × AllItemsGive p g f None) (λ y. (i : ℕ) × (i < p.len) × (p.len ≡ i + 1) × IsFirstToGive p g f (Some y) None i)

  -- where the closure answers h at each number, and stays as it is
  pub first_from_find_map : (h : ℕ → Option B) (r : Option B) → SomeRun nat_range_steps (record { start = 0; end = n }) (λ p. Found p r)
      → ((x : ℕ) (a : Option B) (q : F) → Called g f (x, tt) a q → (q ≡ f) × (a ≡ h x)) → r ≡ first_of n h
  first_from_find_map h r e does = go r e.2
    where
      p : Run nat_range_steps
      p = e.0

      keeps : (a : ℕ × Unit {0}) (o : Option B) (q : F) → Called g f a o q → q ≡ f
      keeps a o q c = (does a.0 o q c).0

      start : p.from.start ≡ 0
      start = ap (λ s. s.start) e.1

      end : p.from.end ≡ n
      end = ap (λ s. s.end) e.1

      at : (k : ℕ) → k < p.len → p.at k ≡ Some k
      at k l = read_back (p.at k) k ((range_runs p p.seen).3 k l ∙ ap (λ (m : ℕ). Some m) (omega (arith, start)))

      go : (r : Option B) → Found p r → r ≡ first_of n h
      go None m = sym (none_all n h (λ k l. sym (does k None f (subst (λ o. IfSome o (λ x. Called g f (x, tt) None f)) (at k (let w = (range_runs p p.seen).1 m.0 in omega (arith, w, start, end))) (m.1 keeps k))).1))
      go (Some y) m =
          let i : ℕ = m.0 in
          let w = m.3 keeps in
          sym (found_at n h i y (let b = (range_runs p p.seen).0 in omega (arith, b, start, end, m.1))
          (λ k l. sym (does k None f (subst (λ o. IsSomeAnd o (λ x. Called g f (x, tt) None f)) (at k (omega (arith, m.1, l))) (w.1 k l))).1)
          (sym (does i (Some y) f (subst (λ o. IsSomeAnd o (λ x. Called g f (x, tt) (Some y) f)) (at i m.1) w.0)).1))
