-- A draft's tables are well formed, so the verdict on them is the right one; and they are what the
-- records say.
use Rattle.std.proofs.Common.{◌≡◌, ℕ, true, false, List, Ok, Err, Result, refl, sym, subst}
use Rattle.std.proofs.lemmas.Bool.{both_ways}
use Rattle.std.specs.Prelude.{is_ok}
use Rattle.records.specs.declared.fault.Fault.{Fault}
use Rattle.policy.specs.declared.draft.Draft.{Draft}
use Rattle.policy.specs.declared.tables.Tables.{Tables}
use Rattle.policy.specs.Questions.{Passes, Vetted}
use Rattle.policy.specs.Reading.{reading, answer_of, draft_of}
use Rattle.policy.specs.Recorded.{ReadingLaw}
use Rattle.policy.specs.RecordedLaws.{reading_lawful}
use Rattle.policy.specs.Search.{verdict}
use Rattle.policy.specs.Verdicts.{Verdict}
use Rattle.policy.specs.WellFormed.{WellFormed}
use Rattle.policy.specs.ApprovedLaws.{draft_well_formed}
use Rattle.policy.specs.VerdictLaws.{verdict_right}

pub well_formed : (d : Draft) → WellFormed d.tables
well_formed d = draft_well_formed d

pub vetted : (d : Draft) (v : Verdict) → v ≡ verdict d.tables → Vetted d.tables v
vetted d v e = subst (Vetted d.tables) (sym e) (verdict_right d.tables (draft_well_formed d))

-- so a draft that is passed fails no question
pub passes : (d : Draft) (v : Verdict) → v ≡ verdict d.tables → is_ok v ≡ true → Passes d.tables
passes d (Ok _) e h = vetted d _ e
passes d (Err f) e h = absurd (both_ways false refl h)

pub read_lawful : (bytes : List ℕ) (r : Result ℕ Fault) (t : Tables)
    → r ≡ answer_of (reading bytes) → t ≡ draft_of (reading bytes) → ReadingLaw bytes r t
read_lawful bytes r t e f =
    subst (λ s. ReadingLaw bytes s t) (sym e)
    (subst (ReadingLaw bytes (answer_of (reading bytes))) (sym f) (reading_lawful bytes))
