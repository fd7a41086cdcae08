-- The users who have a role active, session by session and once another session is put.
use Rattle.std.proofs.Common.{◌≡◌, ℕ, suc, ◌+◌, ◌-◌, ◌<◌, Bool, true, false, ◌&&◌, ◌||◌, ◌⊎◌, eqb, ltb, List, [], ◌∷◌, length, take, drop, set, sym, ap, ◌∙◌, inl, inr, arith}
use Rattle.std.proofs.Math.Bool.{or-false, or_assoc}
use Rattle.std.proofs.lemmas.Bool.{false_from_ne_true, cases_Bool, cases_eq, cond_both, cond-true, cond-false, eq-eqb, ne_eqb, lt-ltb, and_from, and_left}
use Rattle.std.specs.List.{fold, filter}
use Rattle.sets.specs.Sets.{has, union, with_member}
use Rattle.sets.specs.Aliases.{UserSet}
use Rattle.sets.specs.SetLaws.{has-zero, has-with, has-union}
use Rattle.monitor.specs.declared.sessions.Session.{Session}
use Rattle.monitor.specs.declared.sessions.Whose.{Whose}
use Rattle.monitor.specs.declared.sessions.Whose.TheVariants.{User}
use Rattle.monitor.specs.SessionLaws.{active_in-set, rest_from, owner_is_meant, meant_is_owner, where_from, where_parts}
use Rattle.monitor.specs.Sessions.{active, active_where, owner, is_meant, active_in}

abbrev pub has_active : ℕ → Session → Bool
has_active role x = has (active x) role

-- the users with the owner of a session
abbrev pub with_owner : UserSet → Session → UserSet
with_owner users x = record { bits = with_member 64 users.bits (owner x) }

-- the role is active for the user in this session
abbrev active_here : Session → ℕ → ℕ → Bool
active_here x role v = has (active_where (User v) x) role

-- in a session that has the role active it is so for the owner, and in another for nobody
for_owner : (x : Session) (role v : ℕ) → v < 64 → has_active role x ≡ true
    → (eqb v (owner x) && ltb v 64) ≡ active_here x role v
for_owner x role v l h =
    elim (cases_eq v (owner x)) [
      | inl e ↦
          and_from _ _ (eq-eqb v (owner x) e) (lt-ltb v 64 l)
          ∙ sym (where_from (User v) x role
          (ap (λ o. is_meant (User o) x) e ∙ owner_is_meant x role h) h)
      | inr ne ↦
          and_left _ _ (ne_eqb v (owner x) ne)
          ∙ sym (false_from_ne_true _
          (λ g. ne (meant_is_owner v x (where_parts (User v) x role g).0)))
    ]

for_nobody : (x : Session) (role v : ℕ) → has_active role x ≡ false → active_here x role v ≡ false
for_nobody x role v h =
    cond_both (is_meant (User v) x) (active x) 0 (λ n. has n role ≡ false)
    (λ _. h) (λ _. has-zero role)

-- the role is active for the user in one of the sessions
abbrev active_in_one : List Session → ℕ → ℕ → Bool
active_in_one xs role v = has (active_in (User v) xs) role

owner_more : (x : Session) (xs : List Session) (users : UserSet) (role v : ℕ) → v < 64
    → has (fold with_owner (with_owner users x) (filter (has_active role) xs)).bits v
    ≡ (has (with_owner users x).bits v || active_in_one xs role v)
    → has (fold with_owner users (filter (has_active role) xs)).bits v
    ≡ (has users.bits v || active_in_one xs role v)
    → has (fold with_owner users (filter (has_active role) (x ∷ xs))).bits v
    ≡ (has users.bits v || active_in_one (x ∷ xs) role v)
owner_more x xs users role v l taken passed = go (cases_Bool (has_active role x))
  where
    rest : Bool
    rest = active_in_one xs role v

    of : List Session → Bool
    of ys = has (fold with_owner users ys).bits v

    both : (has users.bits v || (active_here x role v || rest))
        ≡ (has users.bits v || active_in_one (x ∷ xs) role v)
    both =
        ap (λ (b : Bool). has users.bits v || b)
        (sym (has-union (active_where (User v) x) (active_in (User v) xs) role))

    go : (has_active role x ≡ true) ⊎ (has_active role x ≡ false)
        → of (filter (has_active role) (x ∷ xs))
        ≡ (has users.bits v || active_in_one (x ∷ xs) role v)
    go (inl h) =
        ap of (cond-true (has_active role x) (x ∷ filter (has_active role) xs)
        (filter (has_active role) xs) h)
        ∙ taken
        ∙ ap (λ (b : Bool). b || rest) (has-with 64 users.bits (owner x) v)
        ∙ or_assoc (has users.bits v) _ rest
        ∙ ap (λ (b : Bool). has users.bits v || (b || rest)) (for_owner x role v l h)
        ∙ both
    go (inr h) =
        ap of (cond-false (has_active role x) (x ∷ filter (has_active role) xs)
        (filter (has_active role) xs) h)
        ∙ passed
        ∙ ap (λ (b : Bool). has users.bits v || (b || rest)) (sym (for_nobody x role v h))
        ∙ both

pub owners : (xs : List Session) (users : UserSet) (role v : ℕ) → v < 64
    → has (fold with_owner users (filter (has_active role) xs)).bits v
    ≡ (has users.bits v || has (active_in (User v) xs) role)
owners [] users role v l =
    sym (ap (λ (b : Bool). has users.bits v || b) (has-zero role) ∙ or-false (has users.bits v))
owners (x ∷ xs) users role v l =
    owner_more x xs users role v l (owners xs (with_owner users x) role v l)
    (owners xs users role v l)

one_session : (w : Whose) (x : Session) (role : ℕ)
    → has (active_in w (x ∷ [])) role ≡ has (active_where w x) role
one_session w x role =
    has-union (active_where w x) 0 role ∙ ap (λ b. has (active_where w x) role || b) (has-zero role)
    ∙ or-false (has (active_where w x) role)

-- of the sessions before a place, of one that is put there and of those after it
pub put_users : (v role : ℕ) (xs : List Session) (p : ℕ) (to : Session) → p < length xs
    → (a b d ab abd : Bool)
    → a ≡ has (active_in (User v) (take p xs)) role → b ≡ has (active_in (User v) (to ∷ [])) role
    → d ≡ has (active_in (User v) (take (length xs - (p + 1)) (drop (p + 1) xs))) role
    → ab ≡ (a || b) → abd ≡ (ab || d)
    → abd ≡ has (active_in (User v) (set xs p to)) role
put_users v role xs p to l a b d ab abd ea eb ed eab eabd =
    let w = User v in
    let rest : d ≡ has (active_in w (drop (suc p) xs)) role =
    ed ∙ ap (λ ys. has (active_in w ys) role) (rest_from (p + 1) xs)
    ∙ ap (λ k. has (active_in w (drop k xs)) role) {x = p + 1} {y = suc p} (omega arith) in
    let here : b ≡ has (active_where w to) role = eb ∙ one_session w to role in
    let both : ab ≡ has (union (active_in w (take p xs)) (active_where w to)) role =
    eab ∙ ap (λ k. k || b) ea ∙ ap (λ k. has (active_in w (take p xs)) role || k) here
    ∙ sym (has-union (active_in w (take p xs)) (active_where w to) role) in
    eabd ∙ ap (λ k. k || d) both
    ∙ ap (λ k. has (union (active_in w (take p xs)) (active_where w to)) role || k) rest
    ∙ sym (has-union (union (active_in w (take p xs)) (active_where w to))
    (active_in w (drop (suc p) xs)) role)
    ∙ ap (λ n. has n role) (sym (active_in-set w xs p to l))
