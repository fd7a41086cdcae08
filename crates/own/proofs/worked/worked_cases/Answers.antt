use Rattle.std.proofs.Common.{refl}
use Rattle.sets.specs.First.{first_of}
use Rattle.sets.specs.Sets.{has, union, difference, with_member}
use Rattle.policy.specs.Updates.{only}
use Rattle.own.specs.Cases.{Worked, WorkedOneOpen}
use Rattle.own.proofs.worked.worked_cases.Goals as goal

worked : Worked
unfolding has union difference with_member only
worked = record {
  both_possible = (refl, refl);
  alone = refl;
  above_another = refl;
  below_another = refl;
  below_254 = refl;
  below_300 = refl;
  another_role = refl;
}

worked_one_open : WorkedOneOpen
unfolding has union difference with_member only first_of
worked_one_open = record {
  possible = (refl, refl);
  second_opened = refl;
  active_there = refl;
  closed = refl;
}

pub returns : goal.returns
returns c = record { value = refl; law = worked; one_open = worked_one_open }
