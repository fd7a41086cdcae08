-- A desk whose monitor decided an event and whose rows have its row, and one asking after another.
use Rattle.std.proofs.Common.{◌≡◌, ℕ, zero, suc, Bool, true, false, ◌⊎◌, List, [], ◌∷◌, ◌++◌, take, sym, refl, ap, ◌∙◌, subst, append_assoc, append-nil, inl, inr}
use Rattle.std.specs.Prelude.{if◌then◌else◌, vec_capacity}
use Rattle.std.specs.declared.vec.Vec.{Vec}
use Rattle.records.specs.declared.event.Event.{Event}
use Rattle.policy.specs.Approved as approved
use Rattle.policy.specs.declared.tables.Tables.{Tables}
use Rattle.monitor.specs.Answers.{Answer}
use Rattle.monitor.specs.Counts.{granted}
use Rattle.monitor.specs.declared.states.Cells.{Cells}
use Rattle.monitor.specs.declared.rows.Row.{Row}
use Rattle.monitor.specs.Governed.{tables_of, cells_of, answers_to, state_after}
use Rattle.monitor.specs.History.{reply, step, replies, after}
use Rattle.monitor.specs.Journal.{granted_events}
use Rattle.monitor.specs.Meaning.{Meaning}
use Rattle.monitor.specs.MonitorLaws.{also_same}
use Rattle.monitor.specs.Monitors.{state_of, SamePolicy}
use Rattle.monitor.specs.RowLaws.{rows_append}
use Rattle.monitor.specs.Rows.{row_of, rows_of}
use Rattle.monitor.specs.RunLaws.{after_append}
use Rattle.families.specs.House.{house_rules}
use Rattle.shift.specs.declared.desk.Desk.{Desk}
use Rattle.shift.specs.Desks.{state_on, answer_on, SameMonitor, Added, Noted, Asked}
use Rattle.shift.specs.Day.{answer_after}

-- its monitor decided the event, and then it was noted
pub one_asked : (old mid new : Desk) (e : Event) (a : Answer) → mid.rows ≡ old.rows
    → mid.journal ≡ old.journal
    → a ≡ answer_on old e → cells_of (state_on mid) ≡ state_after house_rules (state_on old) e
    → SamePolicy old.monitor mid.monitor
    → Noted mid new (row_of e a ∷ []) (granted_events (e ∷ []) (a ∷ [])) → SameMonitor mid new
    → Asked old new (e ∷ [])
one_asked old mid new e a er ej ea ec keeps noted same = record {
  state = ap (λ m. cells_of (state_of m)) same ∙ ec;
  same = subst (SamePolicy old.monitor) (sym same) keeps;
  noted = subst (λ x. Noted old new (row_of e x ∷ []) (granted_events (e ∷ []) (x ∷ []))) ea
      (record {
        rows = subst (λ v. Added v new.rows (row_of e a ∷ [])) er noted.rows;
        journal = subst (λ v. Added v new.journal (granted_events (e ∷ []) (a ∷ []))) ej
            noted.journal;
      });
}

take_again : {X : Type 0} (n : ℕ) (xs ys : List X) → take n (take n xs ++ ys) ≡ take n (xs ++ ys)
take_again zero xs ys = refl
take_again (suc n) [] ys = refl
take_again (suc n) (x ∷ xs) ys = ap (λ zs. x ∷ zs) (take_again n xs ys)

added_then : {A Z : Type 0} {u v w : Vec A Z} {xs ys : List A} → Added u v xs → Added v w ys
    → Added u w (xs ++ ys)
added_then {A} {Z} {u} {v} {w} {xs} {ys} first next = record {
  items = next.items ∙ ap (λ n. take n (v.items ++ ys)) first.room
      ∙ ap (λ zs. take (vec_capacity u) (zs ++ ys)) first.items
      ∙ take_again (vec_capacity u) (u.items ++ xs) ys
      ∙ ap (take (vec_capacity u)) (append_assoc u.items xs ys);
  room = next.room ∙ first.room;
}

-- the granted events of one list after another

one_before : (b : Bool) (e : Event) (zs xs ys : List Event) → zs ≡ xs ++ ys
    → (if b then e ∷ zs else zs) ≡ (if b then e ∷ xs else xs) ++ ys
one_before true e zs xs ys is = ap (λ zs. e ∷ zs) is
one_before false e zs xs ys is = is

granted_append : (ms : List Meaning) (t : Tables) (c : Cells) (es fs : List Event)
    → granted_events (es ++ fs) (replies ms t c (es ++ fs))
    ≡ granted_events es (replies ms t c es)
    ++ granted_events fs (replies ms t (after ms t c es) fs)
granted_append ms t c [] fs = refl
granted_append ms t c (e ∷ es) fs =
    one_before (granted (reply ms t c e)) e _ _ _ (granted_append ms t (step ms t c e) es fs)

pub asked_then : {a b c : Desk} {es fs : List Event} → Asked a b es → Asked b c fs
    → Asked a c (es ++ fs)
asked_then {a} {b} {c} {es} {fs} first next = record {
  state = next.state ∙ ap (λ t. after house_rules t (cells_of (state_on b)) fs) tables
      ∙ ap (λ k. after house_rules (tables_of (state_on a)) k fs) first.state
      ∙ sym (after_append house_rules (tables_of (state_on a)) (cells_of (state_on a)) es fs);
  same = also_same first.same next.same;
  noted = record {
    rows = subst (Added a.rows c.rows)
        (ap (λ x. rows_of es (answers_to house_rules (state_on a) es) ++ x)
        (ap (rows_of fs) later)
        ∙ sym (rows_append house_rules t k es fs))
        (added_then first.noted.rows next.noted.rows);
    journal = subst (Added a.journal c.journal)
        (ap (λ x. granted_events es (answers_to house_rules (state_on a) es) ++ x)
        (ap (granted_events fs) later) ∙ sym (granted_append house_rules t k es fs))
        (added_then first.noted.journal next.noted.journal);
  };
}
  where
    t : Tables
    t = tables_of (state_on a)

    k : Cells
    k = cells_of (state_on a)

    tables : tables_of (state_on b) ≡ t
    tables = ap approved.tables_of first.same.policy

    -- what the later events are answered, from the state that the earlier ones led to
    later : answers_to house_rules (state_on b) fs
        ≡ replies house_rules t (after house_rules t k es) fs
    later = ap (λ u. replies house_rules u (cells_of (state_on b)) fs) tables
        ∙ ap (λ d. replies house_rules t d fs) first.state

-- what an event is answered after those that the desk was asked
pub answered_after : {a b : Desk} {es : List Event} → Asked a b es → (e : Event)
    → answer_on b e ≡ answer_after (state_on a) es e
answered_after {a} {b} {es} asked e =
    ap (λ p. reply house_rules (approved.tables_of p) (cells_of (state_on b)) e) asked.same.policy
    ∙ ap (λ c. reply house_rules (tables_of (state_on a)) c e) asked.state

-- rows written one after the other

pub rows_more : (xs all : List Row) (es ts : List Event) (rs us : List Answer) (e : Event)
    (a : Answer) (row : Row) → xs ++ rows_of es rs ≡ all → es ≡ e ∷ ts → rs ≡ a ∷ us
    → row ≡ row_of e a → (xs ++ row ∷ []) ++ rows_of ts us ≡ all
rows_more xs all es ts rs us e a row so_far ee ea er =
    append_assoc xs (row ∷ []) (rows_of ts us)
    ∙ ap (λ r. xs ++ r ∷ rows_of ts us) er
    ∙ ap (λ qs. xs ++ rows_of (e ∷ ts) qs) (sym ea) ∙ ap (λ ps. xs ++ rows_of ps rs) (sym ee)
    ∙ so_far

none_left : (es : List Event) → rows_of es [] ≡ []
none_left [] = refl
none_left (e ∷ es) = refl

pub rows_end : (xs all : List Row) (es : List Event) (rs : List Answer)
    → xs ++ rows_of es rs ≡ all → (es ≡ []) ⊎ (rs ≡ []) → xs ≡ all
rows_end xs all es rs so_far (inl e) =
    sym (ap (λ ps. xs ++ rows_of ps rs) e ∙ append-nil xs) ∙ so_far
rows_end xs all es rs so_far (inr e) =
    sym (ap (λ qs. xs ++ rows_of es qs) e ∙ ap (λ ys. xs ++ ys) (none_left es) ∙ append-nil xs)
    ∙ so_far
