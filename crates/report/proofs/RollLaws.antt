-- The roll of an input from its parts, and the law that holds of it.
use Rattle.std.proofs.Common.{Bool, false, true≢false, ◌≡◌, ℕ, ◌-◌, ◌≤◌, ltb, List, [], ◌++◌, length, take, drop, Ok, Err, codes, Result, sym, refl, ap, ◌∙◌, subst, arith}
use Rattle.std.proofs.lemmas.Bool.{cond-false, le-ltb, ne_eqb}
use Rattle.std.specs.Prelude.{if◌then◌else◌, is_ok, nat_eq}
use Rattle.std.specs.Result.{is_err}
use Rattle.records.specs.declared.event.Event.{Event}
use Rattle.records.specs.declared.fault.Fault.{Fault}
use Rattle.policy.specs.Approved as approved
use Rattle.policy.specs.declared.approved.Approved.{Approved}
use Rattle.policy.specs.declared.tables.Tables.{Tables}
use Rattle.policy.specs.Questions.{Passes, Vetted}
use Rattle.policy.specs.Reading.{reading, draft_of}
use Rattle.policy.specs.Search.{verdict}
use Rattle.policy.specs.Verdicts.{Verdict, failure_number, number_of}
use Rattle.policy.specs.WellFormed.{WellFormed}
use Rattle.policy.specs.ReadingLaws.{reading_well_formed}
use Rattle.policy.specs.VerdictLaws.{failure_has_number, verdict_right}
use Rattle.monitor.specs.Answers.{Answer}
use Rattle.monitor.specs.Apart.{StaticallyApart, SeparatesAt}
use Rattle.monitor.specs.declared.states.Cells.{Cells}
use Rattle.monitor.specs.Cells.{blank}
use Rattle.monitor.specs.History.{replies, after}
use Rattle.monitor.specs.Meaning.{Meaning, Every, Law}
use Rattle.monitor.specs.RunLaw.{RunLaw}
use Rattle.monitor.specs.RunLaws.{run_law}
use Rattle.report.specs.declared.judging.Judged.{Judged}
use Rattle.report.specs.Judging.{judgement_of, held_after}
use Rattle.report.specs.RollLaw.{RollLaw, KeptRollLaw, ApartRollLaw}
use Rattle.report.specs.declared.line.PolicyLine.{PolicyLine}
use Rattle.report.specs.Texts.{policy_line, policy_text, first_line, verdict_line}
use Rattle.report.specs.VerdictLaw.{VerdictLaw}
use Rattle.report.specs.Roll.{whole_script, events_text, events_part, roll_text}
use Rattle.report.proofs.EventLines.{tail_is}

-- a verdict passes where its number is 0
pub passed_by_number : {X : Type 0} (v : Verdict) (x y : X)
    → (if nat_eq (number_of v) 0 then x else y) ≡ (if is_ok v then x else y)
passed_by_number (Ok u) x y = refl
passed_by_number (Err f) x y =
    cond-false (nat_eq (failure_number f) 0) x y
    (ne_eqb (failure_number f) 0 (failure_has_number f))

abbrev judged_or : Result Judged Fault → Judged
judged_or (Ok j) = j
judged_or (Err f) = record { bytes = 0; verdict = Ok tt }

-- a verdict that is no failure
passed : (v : Verdict) {b : Bool} → b ≡ is_err v → b ≡ false → v ≡ Ok tt
passed (Ok x) eb ef = refl
passed (Err f) eb ef = absurd (true≢false (sym eb ∙ ef))

-- after the verdict on a policy that passes, the events of the bytes that it left
events_part-events : (ms : List Meaning) (bytes : List ℕ) (r : Result (Tables × ℕ) Fault)
    (held : Tables) (j : Judged) → judgement_of r ≡ Ok j → j.verdict ≡ Ok tt
    → events_part ms r bytes ≡ events_text ms (held_after r held) blank (drop j.bytes bytes)
events_part-events ms bytes (Err f) held j e ev =
    absurd (let z : ◌≡◌ {A = ℕ} 0 1 = cc in omega arith)
events_part-events ms bytes (Ok p) held j e ev =
    let is = ap (λ r. (judged_or r).verdict) e ∙ ev in
    ap (λ (v : Verdict). if is_ok v then events_text ms p.0 blank (drop p.1 bytes) else []) is
    ∙ ap (λ k. events_text ms p.0 blank (drop k bytes)) (ap (λ r. (judged_or r).bytes) e)
    ∙ sym (ap (λ (v : Verdict). events_text ms (if is_ok v then p.0 else held) blank
    (drop j.bytes bytes)) is)

-- where no question has a witness, the right verdict is that the policy passes
no_witness : (t : Tables) (v : Verdict) → Vetted t v → Passes t → v ≡ Ok tt
no_witness t (Ok u) right passes = refl
no_witness t (Err f) right passes = absurd (passes f right.0)

module _ (ms : List Meaning) (bytes : List ℕ) where
  well_formed : (t : Tables) (n : ℕ) → reading bytes ≡ Ok (t, n) → WellFormed t
  well_formed t n er = subst (λ r. WellFormed (draft_of r)) er (reading_well_formed bytes)

  short : length bytes ≤ 65536 → first_line (judgement_of (reading bytes))
      ++ events_part ms (reading bytes) bytes ≡ roll_text ms bytes
  short l = sym (cond-false (ltb 65536 (length bytes)) (codes "input 9\n")
      (first_line (judgement_of (reading bytes)) ++ events_part ms (reading bytes) bytes)
      (le-ltb 65536 (length bytes) l))

  pub roll_passed : (judged : Result Judged Fault) (j : Judged) (held t : Tables) (c : Cells)
      (text : List ℕ) {b : Bool} → length bytes ≤ 65536
      → judged ≡ judgement_of (reading bytes) → judged ≡ Ok j → b ≡ is_err j.verdict → b ≡ false
      → t ≡ held_after (reading bytes) held → c ≡ blank
      → text ≡ first_line judged ++ events_text ms t c
      (take (length bytes - j.bytes) (drop j.bytes bytes)) → text ≡ roll_text ms bytes
  roll_passed judged j held t c text l el ej eb ef et ec e =
      e ∙ ap (λ x. first_line judged ++ events_text ms t c x) (tail_is j.bytes bytes)
      ∙ ap (λ x. first_line judged ++ events_text ms x c (drop j.bytes bytes)) et
      ∙ ap (λ x. first_line judged ++ events_text ms (held_after (reading bytes) held) x
      (drop j.bytes bytes)) ec
      ∙ ap (λ x. first_line x ++ events_text ms (held_after (reading bytes) held) blank
      (drop j.bytes bytes)) el
      ∙ ap (λ x. first_line (judgement_of (reading bytes)) ++ x)
      (sym (events_part-events ms bytes (reading bytes) held j (sym el ∙ ej)
      (passed j.verdict eb ef))) ∙ short l

  -- the same as the code has it: the first line, and the lines of the events after it
  pub roll_written : {P : Type 0} (rules : P → List Meaning) (pile pile' : P) → pile' ≡ pile
      → ms ≡ rules pile
      → (judged : Result Judged Fault) (j : Judged) (held : Tables) (p q : Approved)
      (c : Cells) {b : Bool} → length bytes ≤ 65536
      → judged ≡ judgement_of (reading bytes) → judged ≡ Ok j → b ≡ is_err j.verdict → b ≡ false
      → q ≡ p → approved.tables_of p ≡ held_after (reading bytes) held → c ≡ blank
      → (line : PolicyLine) → line ≡ policy_line judged → (text₀ text₁ text : List ℕ) → text₀ ≡ []
      → text₁ ≡ text₀ ++ (policy_text line.number line.figure line.names ++ codes "\n")
      → text ≡ text₁ ++ events_text (rules pile') (approved.tables_of q) c
      (take (length bytes - j.bytes) (drop j.bytes bytes)) → text ≡ roll_text ms bytes
  roll_written rules pile pile' same em judged j held p q c l ej ok eb ef eq et ec line el text₀
      text₁ text e₀ e₁ e =
      let events = take (length bytes - j.bytes) (drop j.bytes bytes) in
      let first = e₁ ∙ ap (λ (x : PolicyLine). text₀
      ++ (policy_text x.number x.figure x.names ++ codes "\n")) el
      ∙ ap (λ x. x ++ first_line judged) e₀ in
      roll_passed judged j held (approved.tables_of q) c text l ej ok eb ef
      (ap approved.tables_of eq ∙ et) ec
      (e ∙ ap (λ x. x ++ events_text (rules pile') (approved.tables_of q) c events) first
      ∙ ap (λ x. first_line judged ++ events_text x (approved.tables_of q) c events)
      (ap rules same ∙ sym em))

  -- the text of a policy that was read, by the verdict on it
  with_verdict : (text : List ℕ) (t : Tables) (n : ℕ) (v : Verdict) → length bytes ≤ 65536
      → reading bytes ≡ Ok (t, n) → verdict t ≡ v → text ≡ roll_text ms bytes
      → text ≡ verdict_line n v
      ++ (if is_ok v then events_text ms t blank (drop n bytes) else [])
  with_verdict text t n v l er ev e =
      e ∙ sym (short l) ∙ ap (λ r. first_line (judgement_of r) ++ events_part ms r bytes) er
      ∙ ap (λ (w : Verdict). verdict_line n w
      ++ (if is_ok w then events_text ms t blank (drop n bytes) else [])) ev

  -- the laws follow from the text alone

  pub verdict_law : (text : List ℕ) → text ≡ roll_text ms bytes → VerdictLaw bytes text
  verdict_law text e t n l er = record {
    verdict = verdict t;
    right = verdict_right t (well_formed t n er);
    more = if is_ok (verdict t) then events_text ms t blank (drop n bytes) else [];
    printed = with_verdict text t n (verdict t) l er refl e;
    alone = λ f ef. ap (λ (v : Verdict).
        if is_ok v then events_text ms t blank (drop n bytes) else []) ef;
  }

  pub roll_law : (text : List ℕ) → Every Law ms → text ≡ roll_text ms bytes → RollLaw ms bytes text
  roll_law text law e t n l er passes = record {
    answers = replies ms t blank (whole_script (drop n bytes)).events;
    state = after ms t blank (whole_script (drop n bytes)).events;
    printed = with_verdict text t n (Ok tt) l er
        (no_witness t (verdict t) (verdict_right t (well_formed t n er)) passes) e;
    run_law = run_law ms law t (record { formed = well_formed t n er; passes = passes })
        (whole_script (drop n bytes)).events _ _ refl refl;
  }

-- what the law over whole runs gives of the tables and the state, the roll keeps

abbrev pub Gives : (Tables → Cells → Type 0) → List Meaning → Type 0
Gives Holds ms = (t : Tables) (es : List Event) (rs : List Answer) (c : Cells)
    → RunLaw ms t es rs c → Holds t c

pub kept_roll_law : (Holds : Tables → Cells → Type 0) (ms : List Meaning) → Gives Holds ms
    → (bytes text : List ℕ) → RollLaw ms bytes text → KeptRollLaw Holds ms bytes text
kept_roll_law Holds ms gives bytes text law t n l er passes =
    let roll = law t n l er passes in
    record { roll = roll; kept = gives t _ roll.answers roll.state roll.run_law }

-- separation stands in the pile, at the index k
pub apart_roll_law : (ms : List Meaning) (k : ℕ) → ((t : Tables) → SeparatesAt ms k t)
    → (bytes text : List ℕ) → RollLaw ms bytes text → ApartRollLaw ms bytes text
apart_roll_law ms k separates =
    kept_roll_law StaticallyApart ms (λ t es rs c run. run.separated k (separates t))
