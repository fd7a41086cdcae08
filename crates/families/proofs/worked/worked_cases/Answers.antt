use Rattle.std.proofs.Common.{refl}
use Rattle.records.specs.Kinds.{body_length}
use Rattle.sets.specs.First.{first_of}
use Rattle.sets.specs.Sets.{has, union, difference, with_member, without_member, count_below}
use Rattle.policy.specs.Reading.{read_from}
use Rattle.policy.specs.Seniority.{rows_union, closed_below}
use Rattle.policy.specs.Updates.{only}
use Rattle.policy.specs.WorkedLaws.{policies}
use Rattle.monitor.specs.Cells.{blank}
use Rattle.monitor.specs.Scripts.{script}
use Rattle.families.specs.Separation.{some_below}
use Rattle.families.specs.Worked.{WorkedCases}
use Rattle.families.proofs.Rulings.{rulings}
use Rattle.families.proofs.worked.worked_cases.Goals as goal

worked : WorkedCases
unfolding body_length read_from only blank script first_of has union difference with_member
    without_member count_below some_below rows_union closed_below
worked = record {
  policies = policies;
  runs_sample = (refl, refl);
  runs_twice = (refl, refl);
  rulings = rulings;
}

pub returns : goal.returns
returns c = record { value = refl; law = worked }
