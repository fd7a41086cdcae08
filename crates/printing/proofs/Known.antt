-- What is known of the bytes that were read and written.
use Rattle.std.proofs.Common.{◌≡◌, ℕ, List, [], ◌++◌, take, None, Some, Option, ap, ◌∙◌, subst}
use Rattle.std.specs.Option.{IfSome, option_map}
use Rattle.std.specs.Io.KnownBytes.{Appends, Keeps}

-- as many of the bytes as were asked for
pub taken : (r s : Option (List ℕ)) (n m : ℕ) (zs ys : List ℕ) → n ≡ m → r ≡ s → zs ≡ [] → IfSome (option_map (take n) r) (λ xs. ys ≡ zs ++ xs) → IfSome s (λ xs. ys ≡ take m xs)
taken r s n m zs ys en er ez is = subst (λ o. IfSome o (λ xs. ys ≡ take m xs)) er (known r is)
  where
    known : (o : Option (List ℕ)) → IfSome (option_map (take n) o) (λ xs. ys ≡ zs ++ xs) → IfSome o (λ xs. ys ≡ take m xs)
    known None e = tt
    known (Some xs) e = e ∙ ap (λ k. k ++ take n xs) ez ∙ ap (λ k. take k xs) en

-- what was written stays
pub grown : (old mid new : Option (List ℕ)) (bs cs : List ℕ) → bs ≡ cs → Appends old mid bs → Keeps mid new → Appends old new cs
grown None mid new bs cs e a k = tt
grown (Some xs) None new bs cs e a k = absurd a
grown (Some xs) (Some ys) None bs cs e a k = absurd k
grown (Some xs) (Some ys) (Some zs) bs cs e a k = k ∙ a ∙ ap (λ l. xs ++ l) e
