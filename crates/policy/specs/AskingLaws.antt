-- What questions that are passed say. Assumes nothing.
use Rattle.std.specs.Prelude.{◌≡◌, Bool, true, false, Some, None, Option, refl}
use Rattle.std.specs.Option.{option_map, option_or}
use Rattle.std.proofs.Common.{ap, ◌∙◌}
use Rattle.std.proofs.lemmas.Bool.{cond-true}
use Rattle.policy.specs.Asking.{question}

-- a question that is passed holds, and so do those after it
pub passed : {E : Type 0} (b : Bool) (e : E) (rest : Option E) → question b e rest ≡ None
    → (b ≡ true) × (rest ≡ None)
passed true e rest h = (refl, h)
passed false e rest h = cc

pub passes : {E : Type 0} (b : Bool) (e : E) (rest : Option E) → b ≡ true → rest ≡ None
    → question b e rest ≡ None
passes b e rest h k = cond-true b rest (Some e) h ∙ k

-- nothing that is mapped is found where nothing is
pub mapped_none : {X Y : Type 0} (f : X → Y) (o : Option X) → option_map f o ≡ None → o ≡ None
mapped_none f None e = refl
mapped_none f (Some x) e = cc

-- of two questions one after the other
pub none_first : {X : Type 0} (o p : Option X) → option_or o p ≡ None → (o ≡ None) × (p ≡ None)
none_first None p e = (refl, e)
none_first (Some x) p e = cc

pub first_none_of : {X : Type 0} (o p : Option X) → o ≡ None → p ≡ None → option_or o p ≡ None
first_none_of {X} o p e f = ap (λ (q : Option X). option_or q p) e ∙ f
