-- Laws of tables of roles, role pairs and user pairs: empty, and with one more. Assumes nothing.
use Rattle.std.proofs.Common.{◌≡◌, ℕ, ◌<◌, ◌≤◌, true, false, List, [], length, get_or, replicate, sym, ap, ◌∙◌, arith}
use Rattle.std.proofs.lemmas.List.{length-set, length-replicate, get_or-replicate}
use Rattle.std.proofs.lemmas.Bool.{both_ways}
use Rattle.sets.specs.Aliases.{RoleSet, UserSet}
use Rattle.policy.specs.declared.tables.Sizes.{Sizes}
use Rattle.policy.specs.Entries.{no_roles, no_users, holds, holds_user}
use Rattle.policy.specs.WellFormed.{Within, RolePairs, UserPairs}
use Rattle.policy.specs.Updates.{with_role, with_pair, with_users}
use Rattle.policy.specs.RowLaws.{both, set_each, replicate_each, no_member, more_within, both_within, both_apart, both_length, both_symmetric}

-- tables of roles

pub within-no_roles : (n : ℕ) → Within n (replicate 32 no_roles)
within-no_roles n a b t =
    absurd (both_ways (holds (replicate 32 no_roles) a b) (no_member 32 a b) t)

pub within-with_role : (n : ℕ) (rows : List RoleSet) (a b : ℕ) → (a < n) × (b < n) → Within n rows
    → Within n (with_role rows a b)
within-with_role n rows a b h w = more_within 32 (λ x y. (x < n) × (y < n)) rows a b h w

-- tables of pairs of roles

pub no_role_pairs : (n : ℕ) → RolePairs n (replicate 32 no_roles)
no_role_pairs n = record {
  wide = length-replicate 32 no_roles;
  within = within-no_roles n;
  symmetric = λ a b. no_member 32 a b ∙ sym (no_member 32 b a);
}

pub role_pairs-with_pair : (n : ℕ) (rows : List RoleSet) (a b : ℕ) → n ≤ 32 → (a < n) × (b < n)
    → RolePairs n rows → RolePairs n (with_pair rows a b)
role_pairs-with_pair n rows a b l h p = record {
  wide = both_length 32 rows a b ∙ p.wide;
  within = both_within 32 (λ x y. (x < n) × (y < n)) rows a b h (h.1, h.0) p.within;
  symmetric = both_symmetric 32 rows a b p.wide (omega arith) (omega arith) p.symmetric;
}

-- tables of pairs of users, by the row of each role

abbrev Row : Sizes → ℕ → List UserSet → Type 0
Row s r row =
    (r < 32 → length row ≡ 64)
    × ((u v : ℕ) → holds row u v ≡ true → (r < s.roles) × (u < s.users) × (v < s.users))
    × ((u v : ℕ) → holds row u v ≡ holds row v u)
    × ((u : ℕ) → holds row u u ≡ false)

from_rows : (s : Sizes) (rows : List (List UserSet)) → length rows ≡ 32
    → ((r : ℕ) → Row s r (get_or rows r [])) → UserPairs s rows
from_rows s rows l each = record {
  wide = (l, λ r. (each r).0);
  within = λ e. (each e.0).1 e.1 e.2;
  symmetric = λ r. (each r).2;
  apart = λ r. (each r).3;
}

row_of : (s : Sizes) (rows : List (List UserSet)) → UserPairs s rows → (r : ℕ)
    → Row s r (get_or rows r [])
row_of s rows p r = (p.wide.1 r, (λ u v. p.within (r, u, v)), p.symmetric r, p.apart r)

pub no_user_pairs : (s : Sizes) → UserPairs s (replicate 32 (replicate 64 no_users))
no_user_pairs s =
    from_rows s (replicate 32 (replicate 64 no_users)) (length-replicate 32 (replicate 64 no_users))
    (λ r. (
      (λ l. ap length (get_or-replicate 32 r (replicate 64 no_users) [] l)
          ∙ length-replicate 64 no_users),
      (λ u v t. absurd (both_ways (holds_user (replicate 32 (replicate 64 no_users)) r u v)
          (none r u v) t)),
      (λ u v. none r u v ∙ sym (none r v u)),
      λ u. none r u u,
    ))
  where
    none : (r u v : ℕ) → holds_user (replicate 32 (replicate 64 no_users)) r u v ≡ false
    none r u v =
        replicate_each (λ row. holds row u v ≡ false) 32 (replicate 64 no_users) []
        (no_member 64 u v) (no_member 0 u v) r

pub user_pairs-with_users : (s : Sizes) (rows : List (List UserSet)) (r u v : ℕ) → s.roles ≤ 32
    → s.users ≤ 64
    → r < s.roles → (u < s.users) × (v < s.users) → (u ≡ v → ⊥) → UserPairs s rows
    → UserPairs s (with_users rows r u v)
user_pairs-with_users s rows r u v lr lu hr h ne p =
    from_rows s (with_users rows r u v) (let wide = p.wide.0 in simp length-set wide)
    (set_each (Row s) rows r new [] (row_of s rows p) new_row)
  where
    row : List UserSet
    row = get_or rows r []

    new : List UserSet
    new = both 64 row u v

    new_row : Row s r new
    new_row =
        let old : Row s r row = row_of s rows p r in
        let w : length row ≡ 64 = old.0 (omega arith) in (
          (λ _. both_length 64 row u v ∙ w),
          both_within 64 (λ x y. (r < s.roles) × (x < s.users) × (y < s.users)) row u v
              (hr, h.0, h.1) (hr, h.1, h.0) old.1,
          both_symmetric 64 row u v w (omega arith) (omega arith) old.2,
          both_apart 64 row u v ne old.3,
        )
