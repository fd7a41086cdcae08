-- One rule that separates makes its whole pile separate. It proves, and assumes nothing.
use Rattle.std.proofs.Common.{ℕ, zero, suc, List, [], ◌∷◌}
use Rattle.policy.specs.declared.tables.Tables.{Tables}
use Rattle.monitor.specs.declared.states.Cells.{Cells}
use Rattle.monitor.specs.Apart.{StaticallyApart, allowed_at, SeparatesAt}
use Rattle.monitor.specs.Authority.{Fits}
use Rattle.monitor.specs.Meaning.{Meaning, Every}

at_place : (ms : List Meaning) (k : ℕ) (t : Tables) (c : Cells) → Every (λ m. m.allowed t c) ms
    → allowed_at ms k t c
at_place [] k t c all = tt
at_place (m ∷ ms) zero t c all = all.0
at_place (m ∷ ms) (suc k) t c all = at_place ms k t c all.1

pub pile_apart : (ms : List Meaning) (t : Tables) (c : Cells) → Fits t c
    → Every (λ m. m.allowed t c) ms → (k : ℕ) → SeparatesAt ms k t → StaticallyApart t c
pile_apart ms t c fits all k separates = separates c fits (at_place ms k t c all)
