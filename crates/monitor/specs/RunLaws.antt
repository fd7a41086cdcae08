-- The law over whole runs, from the laws of the pile's rules alone. It proves, for the crates
-- above, and assumes nothing.
use Rattle.std.proofs.Common.{◌≡◌, ℕ, zero, suc, ◌+◌, ◌<◌, ◌≤◌, min, Bool, true, false, cond, List, [], ◌∷◌, ◌++◌, get_or, Some, None, Ok, Err, Option, sym, refl, ap, ◌∙◌, subst, subst₂, arith}
use Rattle.std.specs.Result.{IsErrAnd}
use Rattle.std.proofs.lemmas.Bool.{both_ways}
use Rattle.std.proofs.lemmas.Result.{err_from_is_err_and}
use Rattle.sets.specs.Aliases.{RoleSet}
use Rattle.records.specs.declared.event.Event.{Event}
use Rattle.policy.specs.declared.tables.Tables.{Tables}
use Rattle.monitor.specs.Answers.{Answer}
use Rattle.monitor.specs.declared.answers.Refusal.TheVariants.{Impossible, Refused}
use Rattle.monitor.specs.declared.answers.Impossibility.{Impossibility}
use Rattle.monitor.specs.declared.answers.Reason.{Reason}
use Rattle.monitor.specs.declared.states.Cells.{Cells}
use Rattle.monitor.specs.declared.governed.GovernedState.{GovernedState}
use Rattle.monitor.specs.Authority.{Fits}
use Rattle.monitor.specs.Cells.{blank}
use Rattle.monitor.specs.Sessions.{sessions_using, tally}
use Rattle.monitor.specs.Counts.{activation, deactivation, closing, how_many}
use Rattle.monitor.specs.Changes.{next, listed}
use Rattle.monitor.specs.History.{first_refusal, answer_unless, state_unless, reply, step, replies, after}
use Rattle.monitor.specs.Governed.{Extends}
use Rattle.monitor.specs.RunLaw.{RunLaw, ExtendsRun}
use Rattle.monitor.specs.Meaning.{Meaning, Lawful, Law, Every, Ruling, ruling, deeper, own_reason}
use Rattle.monitor.specs.Possible.{impossibility, Possible}
use Rattle.monitor.specs.Runs.{admissions, Topmost, Ruled, Ran}
use Rattle.monitor.specs.Runs.Ran.{done, impossible, refused, admitted_by_all}
use Rattle.monitor.specs.Journal.{GrantedAgain}
use Rattle.monitor.specs.JournalLaws.{granted_again}
use Rattle.monitor.specs.ApartLaws.{pile_apart}
use Rattle.monitor.specs.AuthorityLaws.{by_relation}
use Rattle.monitor.specs.NewStateLaws.{blank-fits, none_using}
use Rattle.monitor.specs.CountLaws.{using_next}
use Rattle.monitor.specs.GovernedLaws.{approved_lawful}
use Rattle.monitor.specs.ChangeLaws.{next_fits}

-- the answer and the state, by what is said of the event and by the pile
abbrev reply_by : Option Impossibility → Ruling → ℕ → Answer
reply_by o v roles = answer_unless (first_refusal o v) roles

abbrev state_by : Option Impossibility → Ruling → Cells → Cells → Cells
state_by o v c n = state_unless (first_refusal o v) c n

-- the three ways of one event: not possible, refused by a rule, granted
by_way : (o : Option Impossibility) (v : Ruling) (roles : ℕ) (c n : Cells)
    (Q : Answer → Cells → Type 0)
    → ((h : Impossibility) → o ≡ Some h → Q (Err (Impossible h)) c)
    → ((r : Reason) → o ≡ None → v ≡ Err r → Q (Err (Refused r)) c)
    → (o ≡ None → v ≡ Ok tt → Q (Ok (record { bits = roles })) n)
    → Q (reply_by o v roles) (state_by o v c n)
by_way (Some h) v roles c n Q a b g = a h refl
by_way None (Err r) roles c n Q a b g = b r refl refl
by_way None (Ok x) roles c n Q a b g = g refl refl

-- what a ruling says: all admit the event, or which rule is the topmost that does not
abbrev Said : List Meaning → Tables → Cells → Event → Ruling → Type 0
Said ms t c e (Ok x) = Every (λ m. m.admits t c e ≡ true) ms
Said ms t c e (Err r) = Topmost ms t c e r.number r.subject r.place

-- a number of a reason is not that of a grant
abbrev Numbered : Ruling → Type 0
Numbered (Ok x) = Unit {0}
Numbered (Err r) = 1 ≤ r.number

under : (m : Meaning) (ms : List Meaning) (t : Tables) (c : Cells) (e : Event) (r : Reason)
    → m.admits t c e ≡ true
    → Topmost ms t c e r.number r.subject r.place
    → Topmost (m ∷ ms) t c e r.number r.subject (min 255 (1 + r.place))
under m ms t c e r h top = record {
  rule = suc top.rule;
  among = omega (arith, top.among);
  refuses = top.refuses;
  above = over;
  its_number = top.its_number;
  its_subject = top.its_subject;
  its_place = omega (arith, top.its_place);
}
  where
    over : (k : ℕ) → k < suc top.rule → get_or (admissions (m ∷ ms) t c e) k false ≡ true
    over zero lt = h
    over (suc k) lt = top.above k (omega arith)

said : (ms : List Meaning) (t : Tables) (c : Cells) (e : Event) → Said ms t c e (ruling ms t c e)
said [] t c e = tt
said (m ∷ ms) t c e = go (m.admits t c e) refl (ruling ms t c e) (said ms t c e)
  where
    go : (b : Bool) → m.admits t c e ≡ b → (v : Ruling) → Said ms t c e v
        → Said (m ∷ ms) t c e (cond b (deeper 1 v) (Err (own_reason m t c e)))
    go true h (Ok x) s = (h, s)
    go true h (Err r) s = under m ms t c e r h s
    go false h v s = record {
      rule = 0;
      among = omega arith;
      refuses = h;
      above = λ k lt. absurd (omega arith);
      its_number = refl;
      its_subject = refl;
      its_place = refl;
    }

numbered : (ms : List Meaning) → Every Law ms → (t : Tables) (c : Cells) (e : Event) → Lawful t
    → Fits t c → Possible t c e → Every (λ m. m.allowed t c) ms → Numbered (ruling ms t c e)
numbered [] law t c e ok fits can all = tt
numbered (m ∷ ms) law t c e ok fits can all =
    go (m.admits t c e) refl (ruling ms t c e) (numbered ms law.1 t c e ok fits can all.1)
  where
    go : (b : Bool) → m.admits t c e ≡ b → (v : Ruling) → Numbered v
        → Numbered (cond b (deeper 1 v) (Err (own_reason m t c e)))
    go true h (Ok x) n = tt
    go true h (Err r) n = n
    go false h v n = (law.0.named t c e ok fits can all.0 h).0

admitted : (ms : List Meaning) (t : Tables) (c : Cells) (e : Event)
    → Every (λ m. m.admits t c e ≡ true) ms → (k : ℕ) → get_or (admissions ms t c e) k true ≡ true
admitted [] t c e all k = refl
admitted (m ∷ ms) t c e all zero = all.0
admitted (m ∷ ms) t c e all (suc k) = admitted ms t c e all.1 k

module _ (ms : List Meaning) (law : Every Law ms) (t : Tables) (ok : Lawful t) where
  -- a state that the monitor can be in
  abbrev Good : Cells → Type 0
  Good c = Fits t c × Every (λ m. m.allowed t c) ms

  ruled : (c : Cells) (e : Event) → Good c → Possible t c e → Ruled ms t c e (reply ms t c e)
  ruled c e good can =
      subst (Ruled ms t c e) (sym (ap (λ o. reply_by o (ruling ms t c e) (listed c e)) can))
      (go (ruling ms t c e) (said ms t c e) (numbered ms law t c e ok good.0 can good.1))
    where
      go : (v : Ruling) → Said ms t c e v → Numbered v
          → Ruled ms t c e (reply_by None v (listed c e))
      go (Ok x) s n = record {
        refused_by = λ h. absurd (omega arith);
        refused_if = λ k lt f. absurd (both_ways _ f (admitted ms t c e s k));
      }
      go (Err r) s n = record { refused_by = λ h. s; refused_if = λ k lt f. n }

  kept : (ns : List Meaning) (c : Cells) (e : Event) → Fits t c → Possible t c e → Every Law ns
      → Every (λ m. m.allowed t c) ns → Every (λ m. m.admits t c e ≡ true) ns
      → Every (λ m. m.allowed t (next t c e)) ns
  kept [] c e fits can laws all adm = tt
  kept (m ∷ ns) c e fits can laws all adm =
      (laws.0.keeps t c e ok fits can all.0 adm.0, kept ns c e fits can laws.1 all.1 adm.1)

  new-allowed : (ns : List Meaning) → Every Law ns → Every (λ m. m.allowed t blank) ns
  new-allowed [] laws = tt
  new-allowed (m ∷ ns) laws = (laws.0.fresh t ok, new-allowed ns laws.1)

  good_step : (c : Cells) (e : Event) → Good c → Good (step ms t c e)
  good_step c e good =
      by_way (impossibility t c e) (ruling ms t c e) (listed c e) c (next t c e) (λ a n. Good n)
      (λ h eh. good) (λ r can er. good)
      (λ can none. (
        next_fits t ok.formed c good.0 e can,
        kept ms c e good.0 can law good.1 (subst (Said ms t c e) none (said ms t c e)),
      ))

  good_after : (es : List Event) (c : Cells) → Good c → Good (after ms t c es)
  good_after [] c good = good
  good_after (e ∷ es) c good = good_after es (step ms t c e) (good_step c e good)

  ran_from : (es : List Event) (c : Cells) → Good c
      → Ran ms t c es (replies ms t c es) (after ms t c es)
  ran_from [] c good = done c
  ran_from (e ∷ es) c good =
      by_way (impossibility t c e) (ruling ms t c e) (listed c e) c (next t c e)
      (λ a n. Ran ms t n es rs z → Ran ms t c (e ∷ es) (a ∷ rs) z)
      (λ h eh rest. impossible c z e es rs h eh rest)
      (λ r can er rest.
      refused c z e es rs r can good.1 (subst (Said ms t c e) er (said ms t c e)) rest)
      (λ can none rest.
      admitted_by_all c z e es rs can good.1 (subst (Said ms t c e) none (said ms t c e)) rest)
      (ran_from es (step ms t c e) (good_step c e good))
    where
      rs : List Answer
      rs = replies ms t (step ms t c e) es

      z : Cells
      z = after ms t (step ms t c e) es

  count-step : (c : Cells) (e : Event) (q : ℕ) → Fits t c
      → sessions_using (step ms t c e).sessions q
      + (tally (deactivation q e (reply ms t c e)) + tally (closing q e (reply ms t c e)))
      ≡ sessions_using c.sessions q + tally (activation q e (reply ms t c e))
  count-step c e q fits =
      by_way (impossibility t c e) (ruling ms t c e) (listed c e) c (next t c e)
      (λ a n. sessions_using n.sessions q + (tally (deactivation q e a) + tally (closing q e a))
      ≡ sessions_using c.sessions q + tally (activation q e a))
      (λ h eh. refl) (λ r can er. refl) (λ can none. using_next t ok.formed c fits q e can)

  count-after : (es : List Event) (c : Cells) (q : ℕ) → Good c
      → sessions_using (after ms t c es).sessions q
      + (how_many (deactivation q) es (replies ms t c es)
      + how_many (closing q) es (replies ms t c es))
      ≡ sessions_using c.sessions q + how_many (activation q) es (replies ms t c es)
  count-after [] c q good = refl
  count-after (e ∷ es) c q good =
      summed _ _ _ _ _ _ _ _ _ (count-after es (step ms t c e) q (good_step c e good))
      (count-step c e q good.0)
    where
      summed : (z n m d k a d' k' a' : ℕ) → z + (d' + k') ≡ n + a' → n + (d + k) ≡ m + a
          → z + ((d + d') + (k + k')) ≡ m + (a + a')
      summed z n m d k a d' k' a' later now = omega arith

  start : Good blank
  start = (blank-fits t, new-allowed ms law)

  pub run_law : (es : List Event) (rs : List Answer) (c : Cells) → rs ≡ replies ms t blank es
      → c ≡ after ms t blank es → RunLaw ms t es rs c
  run_law es rs c er ec = record {
    answered = er;
    reached = ec;
    ran = subst₂ (λ x y. Ran ms t blank es x y) (sym er) (sym ec) (ran_from es blank start);
    fits = fits;
    authorised = by_relation t ok.formed c fits;
    allowed = allowed;
    separated = pile_apart ms t c fits allowed;
    ruled = λ e. ruled c e (fits, allowed);
    counted =
        λ q. subst₂ (λ x y. sessions_using x.sessions q
        + (how_many (deactivation q) es y + how_many (closing q) es y)
        ≡ how_many (activation q) es y)
        (sym ec) (sym er) (count-after es blank q start ∙ from_none (none_using q));
    again = subst₂ (GrantedAgain ms t es) (sym er) (sym ec) (granted_again ms t es);
  }
    where
      good : Good (after ms t blank es)
      good = good_after es blank start

      fits : Fits t c
      fits = subst (Fits t) (sym ec) good.0

      allowed : Every (λ m. m.allowed t c) ms
      allowed = subst (λ x. Every (λ m. m.allowed t x) ms) (sym ec) good.1

      from_none : {n m : ℕ} → n ≡ 0 → n + m ≡ m
      from_none e = omega arith

-- one list of events after another

pub after_append : (ms : List Meaning) (t : Tables) (c : Cells) (old es : List Event)
    → after ms t c (old ++ es) ≡ after ms t (after ms t c old) es
after_append ms t c [] es = refl
after_append ms t c (o ∷ old) es = after_append ms t (step ms t c o) old es

pub replies_append : (ms : List Meaning) (t : Tables) (c : Cells) (old es : List Event)
    → replies ms t c (old ++ es) ≡ replies ms t c old ++ replies ms t (after ms t c old) es
replies_append ms t c [] es = refl
replies_append ms t c (o ∷ old) es =
    ap (λ rs. reply ms t c o ∷ rs) (replies_append ms t (step ms t c o) old es)

pub extends_run : (ms : List Meaning) → Every Law ms → (t : Tables) → Lawful t
    → (c d : Cells) (es : List Event) (rs : List Answer)
    → rs ≡ replies ms t c es → d ≡ after ms t c es → ExtendsRun ms t c es rs d
extends_run ms law t ok c d es rs er ed old said past =
    run_law ms law t ok (old ++ es) (said ++ rs) d
    (ap (λ x. x ++ rs) past.answered
    ∙ ap (λ x. replies ms t blank old ++ x) (er ∙ ap (λ k. replies ms t k es) past.reached)
    ∙ sym (replies_append ms t blank old es))
    (ed ∙ ap (λ k. after ms t k es) past.reached ∙ sym (after_append ms t blank old es))

-- a single event of a state under its policy, in each of its three ways as the code takes it
module _ (ms : List Meaning) (law : Every Law ms) (g : GovernedState) (e : Event) where
  abbrev t : Tables
  t = g.policy.draft.tables

  abbrev c : Cells
  c = g.state.cells

  one_more : (a : Answer) (d : Cells) → a ≡ reply ms t c e → d ≡ step ms t c e
      → Extends ms g (e ∷ []) (a ∷ []) d
  one_more a d ea ed =
      extends_run ms law t (approved_lawful g.policy) c d (e ∷ []) (a ∷ []) (ap (λ x. x ∷ []) ea) ed

  pub extends_impossible : (a : Answer) (h : Impossibility) → IsErrAnd a (λ r. r ≡ Impossible h)
      → Some h ≡ impossibility t c e → Extends ms g (e ∷ []) (a ∷ []) c
  extends_impossible a h is eh =
      let p = err_from_is_err_and a is in
      one_more a c (p.1 ∙ ap (λ r. Err r) p.2
      ∙ ap (λ o. reply_by o (ruling ms t c e) (listed c e)) eh)
      (ap (λ o. state_by o (ruling ms t c e) c (next t c e)) eh)

  pub extends_refused : (a : Answer) (r : Reason) → IsErrAnd a (λ x. x ≡ Refused r)
      → None ≡ impossibility t c e → Err r ≡ ruling ms t c e → Extends ms g (e ∷ []) (a ∷ []) c
  extends_refused a r is can er =
      let p = err_from_is_err_and a is in
      one_more a c
      (p.1 ∙ ap (λ x. Err x) p.2 ∙ ap (λ o. reply_by o (Err r) (listed c e)) can
      ∙ ap (λ v. reply_by (impossibility t c e) v (listed c e)) er)
      (ap (λ o. state_by o (Err r) c (next t c e)) can
      ∙ ap (λ v. state_by (impossibility t c e) v c (next t c e)) er)

  pub extends_granted : (roles : RoleSet) (d : Cells) → None ≡ impossibility t c e
      → Ok tt ≡ ruling ms t c e → roles ≡ record { bits = listed c e } → d ≡ next t c e
      → Extends ms g (e ∷ []) (Ok roles ∷ []) d
  extends_granted roles d can none er ed =
      one_more (Ok roles) d
      (ap (λ x. Ok x) er ∙ ap (λ o. reply_by o (Ok tt) (listed c e)) can
      ∙ ap (λ v. reply_by (impossibility t c e) v (listed c e)) none)
      (ed ∙ ap (λ o. state_by o (Ok tt) c (next t c e)) can
      ∙ ap (λ v. state_by (impossibility t c e) v c (next t c e)) none)
