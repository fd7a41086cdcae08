-- Granted events by themselves are granted again, and lead where the whole list led: what was
-- refused had changed nothing. It proves, for the crates above, and assumes nothing.
use Rattle.std.proofs.Common.{◌≡◌, true, List, [], ◌∷◌, Some, None, Ok, Option, refl, ap, ◌∙◌}
use Rattle.records.specs.declared.event.Event.{Event}
use Rattle.policy.specs.declared.tables.Tables.{Tables}
use Rattle.monitor.specs.Answers.{Answer}
use Rattle.monitor.specs.declared.answers.Refusal.{Refusal}
use Rattle.monitor.specs.declared.states.Cells.{Cells}
use Rattle.monitor.specs.Cells.{blank}
use Rattle.monitor.specs.Changes.{next, listed}
use Rattle.monitor.specs.History.{refusal, answer_unless, state_unless, step, replies, after}
use Rattle.monitor.specs.Journal.{granted_events, granted_answers, all_granted, GrantedAgain, Resumes}
use Rattle.monitor.specs.Meaning.{Meaning}

-- the same from any state
record Again (ms : List Meaning) (t : Tables) (c : Cells) (es : List Event) (rs : List Answer)
    (z : Cells) : Type 0 where
  answers : replies ms t c (granted_events es rs) ≡ granted_answers rs
  all : all_granted (granted_answers rs) ≡ true
  state : after ms t c (granted_events es rs) ≡ z

module _ (ms : List Meaning) (t : Tables) where
  -- one event before the others
  before : (c : Cells) (e : Event) (es : List Event) (rs : List Answer) (z : Cells)
      (o : Option Refusal) → refusal ms t c e ≡ o
      → Again ms t (state_unless o c (next t c e)) es rs z
      → Again ms t c (e ∷ es) (answer_unless o (listed c e) ∷ rs) z
  before c e es rs z (Some r) is later =
      record { answers = later.answers; all = later.all; state = later.state }
  before c e es rs z None is later =
      let left = granted_events es rs in
      record {
        answers =
            ap (λ o. answer_unless o (listed c e)
            ∷ replies ms t (state_unless o c (next t c e)) left) is
            ∙ ap {B = List Answer} (λ ls. Ok (record { bits = listed c e }) ∷ ls) later.answers;
        all = later.all;
        state = ap (λ o. after ms t (state_unless o c (next t c e)) left) is ∙ later.state;
      }

  again_from : (c : Cells) (es : List Event)
      → Again ms t c es (replies ms t c es) (after ms t c es)
  again_from c [] = record { answers = refl; all = refl; state = refl }
  again_from c (e ∷ es) =
      before c e es _ _ (refusal ms t c e) refl (again_from (step ms t c e) es)

  pub granted_again : (es : List Event)
      → GrantedAgain ms t es (replies ms t blank es) (after ms t blank es)
  granted_again es =
      let is = again_from blank es in
      record { answers = is.answers; all = ap all_granted is.answers ∙ is.all; state = is.state }

  pub resumes : (journal : List Event) (c : Cells) → c ≡ after ms t blank journal
      → Resumes ms t journal c
  resumes journal c reached es is =
      let g = granted_again es in (
        ap (λ fs. all_granted (replies ms t blank fs)) is ∙ g.all,
        reached ∙ ap (after ms t blank) is ∙ g.state,
      )
