-- What a program prints of its input. Assumes nothing.
use Rattle.std.specs.Prelude.{◌≡◌, ℕ, List, take, String, string_bytes, IfSome, Ok, Option, Result}
use Rattle.std.specs.Borrow.{Bor}
use Rattle.std.specs.Fn.{Once, FnOnceReturnsAt}
use Rattle.std.specs.Io.KnownBytes.{Appends}

-- the output grew by a text that the closure gives of the first 65,537 bytes of the input
pub record Printed {F A E : Type 0} (g : Once F (Bor (List ℕ) × Unit {0}) (Result (String A) E))
    (roll : F) (input old new : Option (List ℕ)) : Type 0 where
  pub bytes : List ℕ
  pub text : String A
  pub read : IfSome input (λ xs. bytes ≡ take 65537 xs)
  pub rolled : FnOnceReturnsAt g roll bytes (Ok text)
  pub written : Appends old new (string_bytes text)
