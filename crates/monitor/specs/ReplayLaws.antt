-- A list of events decided one after the other, as far as a loop has come. It proves, for the code
-- that replays, and assumes nothing.
use Rattle.std.proofs.Common.{◌≡◌, ℕ, ◌+◌, ◌<◌, ◌≤◌, List, [], ◌∷◌, ◌++◌, length, get_or, take, sym, ap, ◌∙◌}
use Rattle.std.proofs.lemmas.List.{take_all, take_more}
use Rattle.records.specs.declared.event.Event.{Event}
use Rattle.policy.specs.declared.tables.Tables.{Tables}
use Rattle.monitor.specs.Answers.{Answer}
use Rattle.monitor.specs.declared.states.Cells.{Cells}
use Rattle.monitor.specs.History.{reply, step, replies, after}
use Rattle.monitor.specs.Meaning.{Meaning}
use Rattle.monitor.specs.RunLaws.{after_append, replies_append}

module _ (ms : List Meaning) (t : Tables) (c₀ : Cells) (es : List Event) where
  -- the first n of the events led to the state c
  abbrev pub Reached : ℕ → Cells → Type 0
  Reached n c = c ≡ after ms t c₀ (take n es)

  one_more : (n : ℕ) (other e : Event) → n < length es → e ≡ get_or es n other
      → take (n + 1) es ≡ take n es ++ e ∷ []
  one_more n other e l is = take_more es n other l ∙ ap (λ x. take n es ++ x ∷ []) (sym is)

  pub one_reached : {n : ℕ} {c : Cells} → Reached n c → (other e : Event) → n < length es
      → e ≡ get_or es n other → (d : Cells) → d ≡ step ms t c e → Reached (n + 1) d
  one_reached {n} so_far other e l is d ed =
      ed ∙ ap (λ k. step ms t k e) so_far
      ∙ sym (ap (after ms t c₀) (one_more n other e l is)
      ∙ after_append ms t c₀ (take n es) (e ∷ []))

  pub all_reached : {n : ℕ} {c : Cells} → Reached n c → length es ≤ n → c ≡ after ms t c₀ es
  all_reached {n} so_far l = so_far ∙ ap (after ms t c₀) (take_all n es l)

  -- and these are their answers
  pub record Replayed (n : ℕ) (rs : List Answer) (c : Cells) : Type 0 where
    pub answers : rs ≡ replies ms t c₀ (take n es)
    pub state : Reached n c

  pub one_decided : {n : ℕ} {rs : List Answer} {c : Cells} → Replayed n rs c
      → (other e : Event) → n < length es → e ≡ get_or es n other
      → (a : Answer) (rs' : List Answer) (d : Cells) → a ≡ reply ms t c e → rs' ≡ rs ++ a ∷ []
      → d ≡ step ms t c e → Replayed (n + 1) rs' d
  one_decided {n} so_far other e l is a rs' d ea er ed =
      let some = take n es in
      record {
        answers =
            er ∙ ap (λ x. x ++ a ∷ []) so_far.answers
            ∙ ap (λ x. replies ms t c₀ some ++ x ∷ [])
            (ea ∙ ap (λ k. reply ms t k e) so_far.state)
            ∙ sym (ap (replies ms t c₀) (one_more n other e l is)
            ∙ replies_append ms t c₀ some (e ∷ []));
        state = one_reached so_far.state other e l is d ed;
      }

  pub all_answered : {n : ℕ} {rs : List Answer} {c : Cells} → Replayed n rs c → length es ≤ n
      → rs ≡ replies ms t c₀ es
  all_answered {n} so_far l = so_far.answers ∙ ap (replies ms t c₀) (take_all n es l)
