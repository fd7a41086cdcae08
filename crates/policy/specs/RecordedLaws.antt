-- What is read of a policy's bytes is what its records say. Assumes nothing.
use Rattle.std.proofs.Common.{◌≡◌, ℕ, zero, suc, ◌+◌, ◌-◌, ◌<◌, ◌≤◌, Bool, true, false, cond, not, ◌⊎◌, eqb, List, [], ◌∷◌, length, Contains, is_some, Some, None, Option, Ok, Err, Result, sym, refl, ap, ◌∙◌, subst, inl, inr, arith}
use Rattle.std.proofs.lemmas.Bool.{both_ways, eqb-true, eq-eqb, ne_eqb, or_cases, or_left, or_right, or_from, not-true}
use Rattle.records.specs.Entries.{entry_of, entry_taken}
use Rattle.records.specs.Parts.{Taken}
use Rattle.records.specs.PlaceLaws.{rest_of}
use Rattle.records.specs.declared.entry.Entry.{Entry}
use Rattle.records.specs.declared.entry.Entry.TheVariants.{Sizes, LimitOfRoleUsers, LimitOfUserRoles, LimitOfUserActive, LimitOfRoleSessions, End}
use Rattle.records.specs.declared.fault.Fault.{Fault}
use Rattle.records.specs.declared.fault.Fault.TheVariants.{MisplacedSizes, OutOfRange, EqualPair, RepeatedLimit}
use Rattle.records.specs.declared.kinds.Reader.TheVariants.{Policy}
use Rattle.policy.specs.declared.tables.Sizes.{Sizes as Counts}
use Rattle.policy.specs.declared.tables.Tables.{Tables}
use Rattle.policy.specs.Asking.{question}
use Rattle.policy.specs.AskingLaws.{passed}
use Rattle.policy.specs.Limits.{limit_of_users, limit_of_roles, limit_of_active, limit_of_sessions}
use Rattle.policy.specs.Reading.{same, is_sizes, is_end, in_range, has_distinct_pair, is_unlimited, with_entry, after_entry, read_from, reading, answer_of, draft_of}
use Rattle.policy.specs.Recorded.{sizes_given, limits_same, is_limited, fault_of, place, IsNext, Before, SaysLimit, TablesSay, FirstGives, Recorded, AtFault, ReadingLaw}
use Rattle.policy.specs.ReadingLaws.{Left, opened, faulty, refused, ended, turned}
use Rattle.policy.specs.Updates.{only, bare}
use Rattle.policy.specs.WellFormed.{WellFormed}
use Rattle.policy.specs.WellFormedLaws.{bare_well_formed, with_entry_well_formed}
use Rattle.policy.specs.SaysLaws.{among, among_cases}
use Rattle.policy.specs.TablesSayLaws.{Long, tables_say_after, tables_say_nothing, tables_say_sizes, long_only, long_after}

-- what the questions answer, by the records and by the tables

abbrev outcome : Option Fault → Tables → Result Tables Fault
outcome None u = Ok u
outcome (Some f) u = Err f

by_answers : (a i d l : Bool) (at : ℕ) (u : Tables)
    → cond (not a) (Err (MisplacedSizes at)) (cond (not i) (Err (OutOfRange at))
    (cond (not d) (Err (EqualPair at)) (cond (not l) (Err (RepeatedLimit at)) (Ok u))))
    ≡ outcome (question a (MisplacedSizes at) (question i (OutOfRange at)
    (question d (EqualPair at) (question l (RepeatedLimit at) None)))) u
by_answers true true true true at u = refl
by_answers true true true false at u = refl
by_answers true true false l at u = refl
by_answers true false d l at u = refl
by_answers false i d l at u = refl

-- a subject is limited by the records exactly where it has a limit in the tables
module _ (limit : ℕ → Option ℕ) (entry : ℕ → ℕ → Entry)
    (alike : (s m n : ℕ) → limits_same (entry s m) (entry s n) ≡ true)
    (only_alike : (y : Entry) (s n : ℕ) → limits_same y (entry s n) ≡ true
    → (m : ℕ) × (y ≡ entry s m)) where
  limits : (xs : List Entry) (s m n : ℕ) → Contains xs (entry s m)
      → is_limited xs (entry s n) ≡ true
  limits [] s m n c = absurd (omega (arith, c.1))
  limits (y ∷ ys) s m n c = elim (among_cases y ys (entry s m) c) [
    | inl e ↦ or_left (limits_same y (entry s n)) (is_limited ys (entry s n))
        (ap (λ z. limits_same z (entry s n)) e ∙ alike s m n)
    | inr d ↦ or_right (limits_same y (entry s n)) (is_limited ys (entry s n)) (limits ys s m n d)
  ]

  limited_by : (xs : List Entry) (s n : ℕ) → is_limited xs (entry s n) ≡ true
      → (m : ℕ) × Contains xs (entry s m)
  limited_by [] s n e = cc
  limited_by (y ∷ ys) s n e =
      elim (or_cases (limits_same y (entry s n)) (is_limited ys (entry s n)) e) [
        | inl h ↦ let o = only_alike y s n h in (o.0, among y ys (entry s o.0) (inl o.1))
        | inr h ↦ let o = limited_by ys s n h in (o.0, among y ys (entry s o.0) (inr o.1))
      ]

  limited_same : (xs : List Entry) (s n : ℕ) → SaysLimit limit xs entry
      → is_some (limit s) ≡ is_limited xs (entry s n)
  limited_same xs s n says = by_limit (limit s) refl (is_limited xs (entry s n)) refl
    where
      by_limit : (o : Option ℕ) → limit s ≡ o → (b : Bool) → is_limited xs (entry s n) ≡ b
          → is_some o ≡ b
      by_limit (Some m) e true k = refl
      by_limit None e false k = refl
      by_limit (Some m) e false k = sym (limits xs s m n ((says s m).0 e)) ∙ k
      by_limit None e true k =
          let o = limited_by xs s n k in let t = (says s o.0).1 o.1 in cc

-- a record that sets no limit is never limited
abbrev is_limit : Entry → Bool
is_limit (LimitOfRoleUsers r n) = true
is_limit (LimitOfUserRoles u n) = true
is_limit (LimitOfUserActive u n) = true
is_limit (LimitOfRoleSessions r n) = true
is_limit x = false

unlike : (y x : Entry) → is_limit x ≡ false → limits_same y x ≡ false
unlike (LimitOfRoleUsers a m) (LimitOfRoleUsers b n) e = cc
unlike (LimitOfUserRoles a m) (LimitOfUserRoles b n) e = cc
unlike (LimitOfUserActive a m) (LimitOfUserActive b n) e = cc
unlike (LimitOfRoleSessions a m) (LimitOfRoleSessions b n) e = cc
unlike y x e = refl

never_limited : (xs : List Entry) (x : Entry) → is_limit x ≡ false → is_limited xs x ≡ false
never_limited [] x e = refl
never_limited (y ∷ ys) x e =
    or_from (limits_same y x) (is_limited ys x) (unlike y x e) (never_limited ys x e)

unlimited_same : (t : Tables) (xs : List Entry) → TablesSay xs t → (x : Entry)
    → is_unlimited t.limits x ≡ not (is_limited xs x)
unlimited_same t xs h (LimitOfRoleUsers r n) =
    ap not (limited_same (limit_of_users t.limits) LimitOfRoleUsers (λ s m n. eq-eqb s s refl)
    only_alike xs r n h.role_users)
  where
    only_alike : (y : Entry) (s n : ℕ) → limits_same y (LimitOfRoleUsers s n) ≡ true
        → (m : ℕ) × (y ≡ LimitOfRoleUsers s m)
    only_alike (LimitOfRoleUsers a m) s n e = (m, ap (λ i. LimitOfRoleUsers i m) (eqb-true a s e))
    only_alike y s n e = cc
unlimited_same t xs h (LimitOfUserRoles u n) =
    ap not (limited_same (limit_of_roles t.limits) LimitOfUserRoles (λ s m n. eq-eqb s s refl)
    only_alike xs u n h.user_roles)
  where
    only_alike : (y : Entry) (s n : ℕ) → limits_same y (LimitOfUserRoles s n) ≡ true
        → (m : ℕ) × (y ≡ LimitOfUserRoles s m)
    only_alike (LimitOfUserRoles a m) s n e = (m, ap (λ i. LimitOfUserRoles i m) (eqb-true a s e))
    only_alike y s n e = cc
unlimited_same t xs h (LimitOfUserActive u n) =
    ap not (limited_same (limit_of_active t.limits) LimitOfUserActive (λ s m n. eq-eqb s s refl)
    only_alike xs u n h.user_active)
  where
    only_alike : (y : Entry) (s n : ℕ) → limits_same y (LimitOfUserActive s n) ≡ true
        → (m : ℕ) × (y ≡ LimitOfUserActive s m)
    only_alike (LimitOfUserActive a m) s n e = (m, ap (λ i. LimitOfUserActive i m) (eqb-true a s e))
    only_alike y s n e = cc
unlimited_same t xs h (LimitOfRoleSessions r n) =
    ap not (limited_same (limit_of_sessions t.limits) LimitOfRoleSessions (λ s m n. eq-eqb s s refl)
    only_alike xs r n h.role_sessions)
  where
    only_alike : (y : Entry) (s n : ℕ) → limits_same y (LimitOfRoleSessions s n) ≡ true
        → (m : ℕ) × (y ≡ LimitOfRoleSessions s m)
    only_alike (LimitOfRoleSessions a m) s n e =
        (m, ap (λ i. LimitOfRoleSessions i m) (eqb-true a s e))
    only_alike y s n e = cc
unlimited_same t xs h x = sym (ap not (never_limited xs x refl))

-- the state of reading before the bytes that are left

record SoFar (bytes : List ℕ) (xs : List Entry) (left : List ℕ) (t : Tables) : Type 0 where
  within : length left ≤ length bytes
  begun : eqb (place bytes left) 0 ≡ eqb (length xs) 0
  before : Before bytes xs left
  formed : WellFormed t
  long : Long t
  sizes : t.sizes ≡ sizes_given xs
  first : (length xs ≡ 0) ⊎ FirstGives bytes t.sizes
  said : TablesSay xs t

bare_sizes : bare.sizes ≡ sizes_given []
unfolding only
bare_sizes = refl

beginning : (bytes : List ℕ) → SoFar bytes [] bytes bare
beginning bytes = record {
  within = omega arith;
  begun = let z : place bytes bytes ≡ 0 = omega arith in ap (λ n. eqb n 0) z;
  before = refl;
  formed = bare_well_formed;
  long = long_only (record { users = 1; roles = 1; sessions = 1 });
  sizes = bare_sizes;
  first = inl refl;
  said = tables_say_nothing (record { users = 1; roles = 1; sessions = 1 });
}

-- the tables' questions are those of the records
agrees : (bytes : List ℕ) (xs : List Entry) (left : List ℕ) (t : Tables) → SoFar bytes xs left t
    → (x : Entry) → after_entry t x (place bytes left)
    ≡ outcome (fault_of xs x (place bytes left)) (with_entry t x)
agrees bytes xs left t m x =
    by_answers (same (is_sizes x) (eqb at 0)) (in_range t.sizes x) (has_distinct_pair x)
    (is_unlimited t.limits x) at (with_entry t x)
    ∙ ap (λ b. answers (same (is_sizes x) b) (in_range t.sizes x) (is_unlimited t.limits x)) m.begun
    ∙ ap (λ s. answers (same (is_sizes x) (eqb (length xs) 0)) (in_range s x)
    (is_unlimited t.limits x)) m.sizes
    ∙ ap (λ b. answers (same (is_sizes x) (eqb (length xs) 0)) (in_range (sizes_given xs) x) b)
    (unlimited_same t xs m.said x)
  where
    at : ℕ
    at = place bytes left

    answers : Bool → Bool → Bool → Result Tables Fault
    answers a i l =
        outcome (question a (MisplacedSizes at) (question i (OutOfRange at)
        (question (has_distinct_pair x) (EqualPair at) (question l (RepeatedLimit at) None))))
        (with_entry t x)

-- what a record without fault was asked
record Asked (bytes : List ℕ) (xs : List Entry) (left : List ℕ) (t : Tables) (x : Entry)
    : Type 0 where
  placed : same (is_sizes x) (eqb (length xs) 0) ≡ true
  ranged : in_range t.sizes x ≡ true
  distinct : has_distinct_pair x ≡ true
  free : is_unlimited t.limits x ≡ true

asked : (bytes : List ℕ) (xs : List Entry) (left : List ℕ) (t : Tables) → SoFar bytes xs left t
    → (x : Entry) → fault_of xs x (place bytes left) ≡ None → Asked bytes xs left t x
asked bytes xs left t m x e =
    let at = place bytes left in
    let p = passed (same (is_sizes x) (eqb (length xs) 0)) (MisplacedSizes at) _ e in
    let q = passed (in_range (sizes_given xs) x) (OutOfRange at) _ p.1 in
    let r = passed (has_distinct_pair x) (EqualPair at) _ q.1 in
    let s = passed (not (is_limited xs x)) (RepeatedLimit at) _ r.1 in
    record {
      placed = p.0;
      ranged = ap (λ (c : Counts). in_range c x) m.sizes ∙ q.0;
      distinct = r.0;
      free = unlimited_same t xs m.said x ∙ s.0;
    }

-- the sizes after one more record

sizes_after : (t : Tables) (xs : List Entry) (x : Entry) → t.sizes ≡ sizes_given xs
    → (with_entry t x).sizes ≡ sizes_given (x ∷ xs)
unfolding only
sizes_after t xs (Sizes u r n) e = refl
sizes_after t xs x e = e

later : (bytes : List ℕ) (t : Tables) (x : Entry) → is_sizes x ≡ false → FirstGives bytes t.sizes
    → FirstGives bytes (with_entry t x).sizes
later bytes t (Sizes u r n) z f = cc
later bytes t x z f = f

only_first : (bytes : List ℕ) (u r n : ℕ) (rest : List ℕ)
    → entry_taken bytes 0 ≡ Ok (Sizes u r n, rest)
    → FirstGives bytes (only (record { users = u; roles = r; sessions = n })).sizes
unfolding only
only_first bytes u r n rest e = (rest, e)

-- one more record without fault

module _ (bytes : List ℕ) (left : List ℕ) (t : Tables) (rest : List ℕ) where
  first_after : (xs : List Entry) (x : Entry) → SoFar bytes xs left t
      → Asked bytes xs left t x → entry_taken left (place bytes left) ≡ Ok (x, rest)
      → FirstGives bytes (with_entry t x).sizes
  first_after [] (Sizes u r n) m a e =
      only_first bytes u r n rest
      (subst (λ s. entry_taken s 0 ≡ Ok (Sizes u r n, rest)) m.before
      (let z : place bytes left ≡ 0 = eqb-true (place bytes left) 0 (m.begun ∙ eq-eqb 0 0 refl) in
      subst (λ n'. entry_taken left n' ≡ Ok (Sizes u r n, rest)) z e))
  first_after [] x m a e = let p = a.placed in cc
  first_after (y ∷ ys) x m a e = elim m.first [
    | inl z ↦ absurd (omega (arith, z))
    | inr f ↦ by_kind (is_sizes x) refl f
  ]
    where
      by_kind : (b : Bool) → is_sizes x ≡ b → FirstGives bytes t.sizes
          → FirstGives bytes (with_entry t x).sizes
      by_kind true k f =
          let p : same true (eqb (length (y ∷ ys)) 0) ≡ true
          = ap (λ b. same b (eqb (length (y ∷ ys)) 0)) (sym k) ∙ a.placed in
          absurd (omega (arith, eqb-true (length (y ∷ ys)) 0 p))
      by_kind false k f = later bytes t x k f

  said_after : (xs : List Entry) (x : Entry) → SoFar bytes xs left t
      → Asked bytes xs left t x → TablesSay (x ∷ xs) (with_entry t x)
  said_after [] (Sizes u r n) m a = tables_say_sizes u r n
  said_after [] x m a = tables_say_after t m.formed m.long [] m.said x refl a.ranged a.free
  said_after (y ∷ ys) x m a = by_kind (is_sizes x) refl
    where
      by_kind : (b : Bool) → is_sizes x ≡ b → TablesSay (x ∷ y ∷ ys) (with_entry t x)
      by_kind true k =
          let p : same true (eqb (length (y ∷ ys)) 0) ≡ true
          = ap (λ b. same b (eqb (length (y ∷ ys)) 0)) (sym k) ∙ a.placed in
          absurd (omega (arith, eqb-true (length (y ∷ ys)) 0 p))
      by_kind false k =
          tables_say_after t m.formed m.long (y ∷ ys) m.said x k a.ranged a.free

  step : (xs : List Entry) (x : Entry) → SoFar bytes xs left t → IsNext bytes xs left x rest
      → is_end x ≡ false → SoFar bytes (x ∷ xs) rest (with_entry t x)
  step xs x m s e =
      let a = asked bytes xs left t m x s.faultless in
      let shorter = (rest_of Policy entry_of left (place bytes left) x rest s.taken).1 in
      let w = m.within in record {
        within = omega arith;
        begun =
            ne_eqb (place bytes rest) 0 (λ z. omega arith)
            ∙ sym (ne_eqb (length (x ∷ xs)) 0 (λ z. omega arith));
        before = (left, m.before, s, e);
        formed = with_entry_well_formed t x m.formed a.ranged a.distinct;
        long = long_after t x m.long;
        sizes = sizes_after t xs x m.sizes;
        first = inr (first_after xs x m a s.taken);
        said = said_after xs x m a;
      }

-- from the answer to the records

abbrev Lawful : List ℕ → Result (Tables × ℕ) Fault → Type 0
Lawful bytes (Ok p) = Recorded bytes p.1 p.0
Lawful bytes (Err f) = AtFault bytes f

entered : (bytes : List ℕ) (xs : List Entry) (left : List ℕ) (t : Tables) → SoFar bytes xs left t
    → (x : Entry) → fault_of xs x (place bytes left) ≡ None
    → after_entry t x (place bytes left) ≡ Ok (with_entry t x)
entered bytes xs left t m x n =
    agrees bytes xs left t m x ∙ ap (λ o. outcome o (with_entry t x)) n

counted : (bytes left rest : List ℕ) → length left ≤ length bytes → length rest < length left
    → place bytes left + (length left - length rest) ≡ place bytes rest
counted bytes left rest w l = omega arith

ended_by : (x : Entry) → is_end x ≡ true → x ≡ End
ended_by End e = refl
ended_by x e = cc

-- the end record ends the policy
finished : (bytes : List ℕ) (xs : List Entry) (left : List ℕ) (t : Tables) → SoFar bytes xs left t
    → (rest : List ℕ) → IsNext bytes xs left End rest → Recorded bytes (place bytes rest) t
finished bytes xs left t m rest s = record {
  records = xs;
  left = left;
  rest = rest;
  before = m.before;
  ended = s;
  count = refl;
  sizes = elim m.first [
    | inl z ↦
        let a = asked bytes xs left t m End s.faultless in
        let b : not (eqb (length xs) 0) ≡ true = a.placed in
        absurd (both_ways (eqb (length xs) 0) (not-true (eqb (length xs) 0) b)
        (eq-eqb (length xs) 0 z))
    | inr f ↦ f
  ];
  said = m.said;
}

lawful : (bytes : List ℕ) (n : ℕ) (xs : List Entry) (left : List ℕ) (t : Tables)
    → length left < n → SoFar bytes xs left t → (k : ℕ) → length left < k
    → (out : Result (Tables × ℕ) Fault) → read_from k t left (place bytes left) ≡ out
    → Lawful bytes out
lawful bytes zero xs left t l m k h out e = absurd (omega arith)
lawful bytes (suc n) xs left t l m k h out e =
    by_record (entry_taken left at) refl
    (λ rest lt u m' k' h' e'. lawful bytes n (u.0 ∷ xs) rest u.1 lt m' k' h' out e')
  where
    at : ℕ
    at = place bytes left

    going : Left t left at out
    going = opened k t left at out h e

    by_record : (r : Taken Entry) → entry_taken left at ≡ r
        → ((rest : List ℕ) → length rest < n → (u : Entry × Tables)
        → SoFar bytes (u.0 ∷ xs) rest u.1 → (k' : ℕ) → length rest < k'
        → read_from k' u.1 rest (place bytes rest) ≡ out → Lawful bytes out)
        → Lawful bytes out
    by_record (Err f) q again =
        subst (Lawful bytes) (faulty t left at out f going q) (record {
          records = xs;
          left = left;
          before = m.before;
          fault = inl q;
        })
    by_record (Ok p) q again = by_questions (fault_of xs p.0 at) refl
      where
        x : Entry
        x = p.0

        rest : List ℕ
        rest = p.1

        shorter : length rest < length left
        shorter = (rest_of Policy entry_of left at x rest q).1

        next : at + (length left - length rest) ≡ place bytes rest
        next = counted bytes left rest m.within shorter

        by_end : fault_of xs x at ≡ None → (b : Bool) → is_end x ≡ b → Lawful bytes out
        by_end z true o =
            let is = ended_by x o in
            subst (Lawful bytes)
            (ended t left at out x rest going q (place bytes rest) next (with_entry t x)
            (entered bytes xs left t m x z) (sym o))
            (subst (λ y. Recorded bytes (place bytes rest) (with_entry t y)) (sym is)
            (finished bytes xs left t m rest (record {
              taken = subst (λ y. entry_taken left at ≡ Ok (y, rest)) is q;
              faultless = subst (λ y. fault_of xs y at ≡ None) is z;
            })))
        by_end z false o =
            let g = turned t left at out x rest going q (place bytes rest) next (with_entry t x)
            (entered bytes xs left t m x z) (sym o) shorter in
            let less : length rest < length left = shorter in
            again rest (omega arith) (x, with_entry t x)
            (step bytes left t rest xs x m (record { taken = q; faultless = z }) o) g.0 g.1 g.2

        by_questions : (o : Option Fault) → fault_of xs x at ≡ o → Lawful bytes out
        by_questions None z = by_end z (is_end x) refl
        by_questions (Some f) z =
            subst (Lawful bytes)
            (refused t left at out x rest going q f
            (agrees bytes xs left t m x ∙ ap (λ o. outcome o (with_entry t x)) z)) (record {
              records = xs;
              left = left;
              before = m.before;
              fault = inr (x, rest, q, z);
            })

-- from the records to the answer

record Reached (bytes : List ℕ) (xs : List Entry) (left : List ℕ) : Type 0 where
  t : Tables
  so_far : SoFar bytes xs left t
  k : ℕ
  enough : length left < k
  reads : read_from k t left (place bytes left) ≡ reading bytes

reached : (bytes : List ℕ) (xs : List Entry) (left : List ℕ) → Before bytes xs left
    → Reached bytes xs left
reached bytes [] left e =
    subst (Reached bytes []) (sym e) (record {
      t = bare;
      so_far = beginning bytes;
      k = length bytes + 1;
      enough = omega arith;
      reads =
          let z : place bytes bytes ≡ 0 = omega arith in
          ap (λ n. read_from (length bytes + 1) bare bytes n) z;
    })
reached bytes (x ∷ xs) left (from, b, s, e) =
    let r = reached bytes xs from b in
    let at = place bytes from in
    let m = r.so_far in
    let shorter = (rest_of Policy entry_of from at x left s.taken).1 in
    let going = opened r.k r.t from at (reading bytes) r.enough r.reads in
    let g = turned r.t from at (reading bytes) x left going s.taken (place bytes left)
    (counted bytes from left m.within shorter) (with_entry r.t x)
    (entered bytes xs from r.t m x s.faultless) (sym e) shorter in record {
      t = with_entry r.t x;
      so_far = step bytes from r.t left xs x m s e;
      k = g.0;
      enough = g.1;
      reads = g.2;
    }

recorded_answer : (bytes : List ℕ) (n : ℕ) (t : Tables) → Recorded bytes n t
    → answer_of (reading bytes) ≡ Ok n
recorded_answer bytes n t d =
    let r = reached bytes d.records d.left d.before in
    let m = r.so_far in
    let at = place bytes d.left in
    let s = d.ended in
    let shorter = (rest_of Policy entry_of d.left at End d.rest s.taken).1 in
    let going = opened r.k r.t d.left at (reading bytes) r.enough r.reads in
    let e = ended r.t d.left at (reading bytes) End d.rest going s.taken (place bytes d.rest)
    (counted bytes d.left d.rest m.within shorter) r.t
    (entered bytes d.records d.left r.t m End s.faultless) refl in
    sym (ap answer_of e) ∙ ap (λ i. Ok i) d.count

fault_answer : (bytes : List ℕ) (f : Fault) → AtFault bytes f → reading bytes ≡ Err f
fault_answer bytes f a =
    let r = reached bytes a.records a.left a.before in
    let m = r.so_far in
    let at = place bytes a.left in
    let going = opened r.k r.t a.left at (reading bytes) r.enough r.reads in
    elim a.fault [
      | inl e ↦ sym (faulty r.t a.left at (reading bytes) f going e)
      | inr d ↦ sym (refused r.t a.left at (reading bytes) d.0 d.1 going d.2 f
          (agrees bytes a.records a.left r.t m d.0
          ∙ ap (λ o. outcome o (with_entry r.t d.0)) d.3))
    ]

law_of : (bytes : List ℕ) (r : Result (Tables × ℕ) Fault) → reading bytes ≡ r → Lawful bytes r
    → ReadingLaw bytes (answer_of r) (draft_of r)
law_of bytes (Ok p) e l = record {
  read = λ n. (
    (λ q. subst (λ m. Recorded bytes m p.0) (let z : p.1 ≡ n = cc in z) l),
    λ d. sym (ap answer_of e) ∙ recorded_answer bytes n p.0 d,
  );
  refused = λ f. ((λ q. cc), λ a. let z = fault_answer bytes f a in cc);
  unread = tt;
}
law_of bytes (Err f) e l = record {
  read = λ n. (
    (λ q. cc),
    λ d. let z = recorded_answer bytes n bare d in let y = ap answer_of e in cc,
  );
  refused = λ g. (
    (λ q. subst (AtFault bytes) (let z : f ≡ g = cc in z) l),
    λ a. let z = fault_answer bytes g a in sym (ap answer_of e) ∙ ap answer_of z,
  );
  unread = refl;
}

pub reading_lawful : (bytes : List ℕ)
    → ReadingLaw bytes (answer_of (reading bytes)) (draft_of (reading bytes))
reading_lawful bytes =
    law_of bytes (reading bytes) refl
    (lawful bytes (length bytes + 1) [] bytes bare (omega arith) (beginning bytes)
    (length bytes + 1) (omega arith) (reading bytes)
    (let z : place bytes bytes ≡ 0 = omega arith in
    ap (λ n. read_from (length bytes + 1) bare bytes n) z))
