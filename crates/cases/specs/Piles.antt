-- The pile that decides an input, by the input's name. Assumes nothing.
use Rattle.std.specs.Prelude.{ℕ, Bool, true, false, List, [], ◌∷◌, ◌++◌, codes, nat_eq}
use Rattle.std.specs.List.{starts_with}
use Rattle.families.specs.House.{house_rules}
use Rattle.monitor.specs.Meaning.{Meaning}
use Rattle.own.specs.OneOpen.{one_open_session}
use Rattle.own.specs.Once.{once_per_user}

-- the own rule above the house pile: that role 1 is never active in two sessions of one user, that
-- at most one session is open, or none
abbrev pub own_rules : Bool → Bool → List Meaning
own_rules true _ = once_per_user 1 ∷ []
own_rules false true = one_open_session ∷ []
own_rules false false = []

-- names that start with `own-` ask for the first, and those with `one-` for the second
abbrev pub rules_for : List ℕ → List Meaning
rules_for name =
    own_rules (starts_with nat_eq name (codes "own-")) (starts_with nat_eq name (codes "one-"))
    ++ house_rules
