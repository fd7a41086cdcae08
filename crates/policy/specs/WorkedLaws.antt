-- What the written rules say of the five worked policies, by computation. Assumes nothing.
use Rattle.std.proofs.Common.{◌≡◌, ℕ, List, Ok, Err, refl, subst}
use Rattle.records.specs.Kinds.{body_length}
use Rattle.sets.specs.First.{first_of}
use Rattle.sets.specs.Sets.{has, union, with_member}
use Rattle.policy.specs.declared.verdict.Failure.TheVariants.{Cycle, SelfConflict, UninheritedConflict, UninheritedAssignmentConflict}
use Rattle.policy.specs.Questions.{Vetted}
use Rattle.policy.specs.Reading.{read_from, reading, answer_of, draft_of}
use Rattle.policy.specs.Search.{verdict}
use Rattle.policy.specs.Seniority.{rows_union, closed_below}
use Rattle.policy.specs.Updates.{only}
use Rattle.policy.specs.Verdicts.{Verdict}
use Rattle.policy.specs.Worked.{Judged, Worked, sample, unpaired, selfpaired, cyclic, unshared}
use Rattle.policy.specs.ReadingLaws.{reading_well_formed}
use Rattle.policy.specs.VerdictLaws.{verdict_right}

judged : (bytes : List ℕ) (count : ℕ) (v : Verdict) → answer_of (reading bytes) ≡ Ok count
    → verdict (draft_of (reading bytes)) ≡ v → Judged bytes count v
judged bytes count v e h = (
  e,
  subst (Vetted (draft_of (reading bytes))) h
      (verdict_right (draft_of (reading bytes)) (reading_well_formed bytes)),
)

pub policies : Worked
unfolding body_length read_from only first_of has union with_member rows_union closed_below
policies = record {
  the_sample_passes = judged sample 17 (Ok tt) refl refl;
  a_senior_lacks_a_conflict = judged unpaired 14 (Err (UninheritedConflict 0 1 2)) refl refl;
  in_conflict_with_itself = judged selfpaired 8 (Err (SelfConflict 2)) refl refl;
  inheriting_each_other = judged cyclic 11 (Err (Cycle 0 1)) refl refl;
  a_senior_may_be_shared =
      judged unshared 12 (Err (UninheritedAssignmentConflict 0 1 0 1)) refl refl;
}
