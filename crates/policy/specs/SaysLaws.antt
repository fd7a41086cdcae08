-- What a table says after one more record, by the shape of the table. Assumes nothing.
use Rattle.std.proofs.Common.{◌≡◌, ℕ, zero, suc, ◌<◌, Bool, true, false, ◌&&◌, ◌⊎◌, ◌↔◌, eqb, List, [], ◌∷◌, length, get_or, set, Contains, Some, None, Option, sym, ap, ◌∙◌, subst, inl, inr, ⊎_elim, arith}
use Rattle.std.proofs.lemmas.List.{length-set, get_or-set_same, get_or-set_other}
use Rattle.std.proofs.lemmas.Bool.{eqb-true, eq-eqb, both_ways, cases_eq, and_parts, and_from, or_cases, or_left, or_right}
use Rattle.records.specs.declared.entry.Entry.{Entry}
use Rattle.sets.specs.Aliases.{RoleSet, UserSet}
use Rattle.policy.specs.Entries.{holds, holds_user}
use Rattle.policy.specs.Recorded.{Says, SaysEitherWay, SaysLimit}
use Rattle.policy.specs.RowLaws.{more, both, more_member}
use Rattle.policy.specs.Updates.{with_users}

-- a record among one more

pub among : (x : Entry) (xs : List Entry) (y : Entry) → (x ≡ y) ⊎ Contains xs y
    → Contains (x ∷ xs) y
among x xs y (inl e) = (0, omega arith, e)
among x xs y (inr c) = (suc c.0, omega (arith, c.1), c.2)

pub among_cases : (x : Entry) (xs : List Entry) (y : Entry) → Contains (x ∷ xs) y
    → (x ≡ y) ⊎ Contains xs y
among_cases x xs y (zero, l, e) = inl e
among_cases x xs y (suc k, l, e) = inr (k, omega arith, e)

-- a record that says nothing of a table

module _ (x : Entry) (xs : List Entry) (entry : ℕ → ℕ → Entry)
    (other : (a b : ℕ) → x ≡ entry a b → ⊥) where
  passed_over : (a b : ℕ) → Contains (x ∷ xs) (entry a b) → Contains xs (entry a b)
  passed_over a b c =
      ⊎_elim (λ e. absurd (other a b e)) (λ d. d) (among_cases x xs (entry a b) c)

  pub says_still : (test : ℕ → ℕ → Bool) → Says test xs entry → Says test (x ∷ xs) entry
  says_still test s a b = (
    λ t. among x xs (entry a b) (inr ((s a b).0 t)),
    λ c. (s a b).1 (passed_over a b c),
  )

  pub either_still : (test : ℕ → ℕ → Bool) → SaysEitherWay test xs entry
      → SaysEitherWay test (x ∷ xs) entry
  either_still test s a b = (
    λ t. ⊎_elim (λ c. inl (among x xs (entry a b) (inr c)))
        (λ c. inr (among x xs (entry b a) (inr c)))
        ((s a b).0 t),
    λ c. (s a b).1 (⊎_elim (λ d. inl (passed_over a b d)) (λ d. inr (passed_over b a d)) c),
  )

  pub limit_still : (limit : ℕ → Option ℕ) → SaysLimit limit xs entry
      → SaysLimit limit (x ∷ xs) entry
  limit_still limit s a n = (
    λ t. among x xs (entry a n) (inr ((s a n).0 t)),
    λ c. (s a n).1 (passed_over a n c),
  )

-- one more member says one more

abbrev Are : ℕ → ℕ → ℕ → ℕ → Type 0
Are x y a b = (x ≡ a) × (y ≡ b)

tests : (x y a b : ℕ) → (eqb x a && eqb y b) ≡ true → Are x y a b
tests x y a b t = let p = and_parts (eqb x a) (eqb y b) t in (eqb-true x a p.0, eqb-true y b p.1)

tested : (x y a b : ℕ) → Are x y a b → (eqb x a && eqb y b) ≡ true
tested x y a b (e, f) = and_from (eqb x a) (eqb y b) (eq-eqb x a e) (eq-eqb y b f)

module _ (w : ℕ) (rows : List RoleSet) (a b : ℕ) where
  one_more : a < length rows → b < w → (x y : ℕ)
      → (holds (more w rows a b) x y ≡ true) ↔ (Are x y a b ⊎ (holds rows x y ≡ true))
  one_more ha hb x y =
      let e = more_member w rows a b ha hb x y in (
        (λ t. elim (or_cases (holds rows x y) (eqb x a && eqb y b) (sym e ∙ t)) [
          | inl h ↦ inr h
          | inr h ↦ inl (tests x y a b h)
        ]),
        (λ s. e ∙ (elim s [
          | inl h ↦ or_right (holds rows x y) (eqb x a && eqb y b) (tested x y a b h)
          | inr h ↦ or_left (holds rows x y) (eqb x a && eqb y b) h
        ])),
      )

  pub says_more : (xs : List Entry) (entry : ℕ → ℕ → Entry)
      → ((x y : ℕ) → entry a b ≡ entry x y → Are x y a b)
      → a < length rows → b < w → Says (holds rows) xs entry
      → Says (holds (more w rows a b)) (entry a b ∷ xs) entry
  says_more xs entry inj ha hb s x y =
      let m = one_more ha hb x y in (
        (λ t. among (entry a b) xs (entry x y) (elim (m.0 t) [
          | inl h ↦ inl (ap (λ i. entry i b) (sym h.0) ∙ ap (entry x) (sym h.1))
          | inr h ↦ inr ((s x y).0 h)
        ])),
        (λ c. m.1 (elim (among_cases (entry a b) xs (entry x y) c) [
          | inl e ↦ inl (inj x y e)
          | inr d ↦ inr ((s x y).1 d)
        ])),
      )

module _ (w : ℕ) (rows : List RoleSet) (a b : ℕ) where
  pair_more : a < length rows → b < length rows → a < w → b < w → (x y : ℕ)
      → (holds (both w rows a b) x y ≡ true)
      ↔ (Are x y b a ⊎ (Are x y a b ⊎ (holds rows x y ≡ true)))
  pair_more ha hb la lb x y =
      let p = one_more w rows a b ha lb x y in
      let q = one_more w (more w rows a b) b a (simp length-set hb) la x y in (
        (λ t. elim (q.0 t) [ inl h ↦ inl h | inr h ↦ inr (p.0 h) ]),
        (λ s. q.1 (elim s [ inl h ↦ inl h | inr h ↦ inr (p.1 h) ])),
      )

  pub either_more : (xs : List Entry) (entry : ℕ → ℕ → Entry)
      → ((x y : ℕ) → entry a b ≡ entry x y → Are x y a b)
      → a < length rows → b < length rows → a < w → b < w → SaysEitherWay (holds rows) xs entry
      → SaysEitherWay (holds (both w rows a b)) (entry a b ∷ xs) entry
  either_more xs entry inj ha hb la lb s x y =
      let m = pair_more ha hb la lb x y in
      let same = λ (p : ℕ) (q : ℕ) (h : Are p q a b).
      among (entry a b) xs (entry p q)
      (inl (ap (λ i. entry i b) (sym h.0) ∙ ap (entry p) (sym h.1)))
      in (
        (λ t. elim (m.0 t) [
          | inl h ↦ inr (same y x (h.1, h.0))
          | inr k ↦ elim k [
            | inl h ↦ inl (same x y h)
            | inr h ↦ elim ((s x y).0 h) [
              | inl c ↦ inl (among (entry a b) xs (entry x y) (inr c))
              | inr c ↦ inr (among (entry a b) xs (entry y x) (inr c))
            ]
          ]
        ]),
        (λ c. m.1 (elim c [
          | inl d ↦ elim (among_cases (entry a b) xs (entry x y) d) [
            | inl e ↦ inr (inl (inj x y e))
            | inr o ↦ inr (inr ((s x y).1 (inl o)))
          ]
          | inr d ↦ elim (among_cases (entry a b) xs (entry y x) d) [
            | inl e ↦ let i = inj y x e in inl (i.1, i.0)
            | inr o ↦ inr (inr ((s x y).1 (inr o)))
          ]
        ])),
      )

-- one more pair of users of a role, in a table of such pairs for each role

abbrev pub SaysUsers : List (List UserSet) → List Entry → (ℕ → ℕ → ℕ → Entry) → ℕ → Type 0
SaysUsers rows xs entry q = SaysEitherWay (holds_user rows q) xs (entry q)

pub users_more : (rows : List (List UserSet)) (r u v : ℕ) (xs : List Entry)
    (entry : ℕ → ℕ → ℕ → Entry)
    → ((q a b : ℕ) → entry r u v ≡ entry q a b → (q ≡ r) × Are a b u v)
    → r < length rows → length (get_or rows r []) ≡ 64 → u < 64 → v < 64
    → ((q : ℕ) → SaysUsers rows xs entry q) → (q : ℕ)
    → SaysUsers (with_users rows r u v) (entry r u v ∷ xs) entry q
users_more rows r u v xs entry inj lr wide lu lv says q = elim (cases_eq q r) [
  | inl e ↦ subst (SaysUsers (with_users rows r u v) (entry r u v ∷ xs) entry) (sym e)
      (subst (λ row. SaysEitherWay (holds row) (entry r u v ∷ xs) (entry r))
      (sym (get_or-set_same rows r new [] lr))
      (either_more 64 (get_or rows r []) u v xs (entry r) (λ a b e. (inj r a b e).1)
      (omega arith) (omega arith) lu lv (says r)))
  | inr ne ↦ subst (λ row. SaysEitherWay (holds row) (entry r u v ∷ xs) (entry q))
      (sym (get_or-set_other rows r q new [] ne))
      (either_still (entry r u v) xs (entry q) (λ a b e. ne (inj q a b e).0)
      (holds_user rows q) (says q))
]
  where
    new : List UserSet
    new = both 64 (get_or rows r []) u v

-- a limit of a subject that had none

pub limit_more : (rows : List (Option ℕ)) (a n : ℕ) (xs : List Entry) (entry : ℕ → ℕ → Entry)
    → ((x y : ℕ) → entry a n ≡ entry x y → Are x y a n)
    → a < length rows → get_or rows a None ≡ None
    → SaysLimit (λ s. get_or rows s None) xs entry
    → SaysLimit (λ s. get_or (set rows a (Some n)) s None) (entry a n ∷ xs) entry
limit_more rows a n xs entry inj l none s x m = elim (cases_eq x a) [
  | inl e ↦
      let at : get_or (set rows a (Some n)) x None ≡ Some n
      = ap (λ i. get_or (set rows a (Some n)) i None) e ∙ get_or-set_same rows a (Some n) None l in
      let had : get_or rows x None ≡ None = ap (λ i. get_or rows i None) e ∙ none in (
        (λ t. among (entry a n) xs (entry x m)
            (inl (let q : n ≡ m = cc in ap (λ i. entry i n) (sym e) ∙ ap (entry x) q))),
        (λ c. elim (among_cases (entry a n) xs (entry x m) c) [
          | inl q ↦ at ∙ ap (λ i. Some i) (sym (inj x m q).1)
          | inr d ↦ let t = (s x m).1 d in cc
        ]),
      )
  | inr ne ↦
      let same : get_or (set rows a (Some n)) x None ≡ get_or rows x None
      = get_or-set_other rows a x (Some n) None ne in (
        (λ t. among (entry a n) xs (entry x m) (inr ((s x m).0 (sym same ∙ t)))),
        (λ c. elim (among_cases (entry a n) xs (entry x m) c) [
          | inl q ↦ absurd (ne (inj x m q).0)
          | inr d ↦ same ∙ (s x m).1 d
        ]),
      )
]

-- nothing is said where there is no record

pub says_nothing : (test : ℕ → ℕ → Bool) (entry : ℕ → ℕ → Entry)
    → ((a b : ℕ) → test a b ≡ false) → Says test [] entry
says_nothing test entry none a b = (
  λ t. absurd (both_ways (test a b) (none a b) t),
  λ c. absurd (omega (arith, c.1)),
)

pub either_nothing : (test : ℕ → ℕ → Bool) (entry : ℕ → ℕ → Entry)
    → ((a b : ℕ) → test a b ≡ false) → SaysEitherWay test [] entry
either_nothing test entry none a b = (
  λ t. absurd (both_ways (test a b) (none a b) t),
  λ s. elim s [ inl c ↦ absurd (omega (arith, c.1)) | inr c ↦ absurd (omega (arith, c.1)) ],
)

pub limit_nothing : (limit : ℕ → Option ℕ) (entry : ℕ → ℕ → Entry)
    → ((s : ℕ) → limit s ≡ None) → SaysLimit limit [] entry
limit_nothing limit entry none s n = (
  (λ t. let e = none s in cc),
  λ c. absurd (omega (arith, c.1)),
)
