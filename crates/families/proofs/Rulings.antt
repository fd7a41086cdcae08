-- The rulings at the boundaries of the five families: each is computed.
use Rattle.std.proofs.Common.{refl}
use Rattle.records.specs.Kinds.{body_length}
use Rattle.sets.specs.First.{first_of}
use Rattle.sets.specs.Sets.{has, union, difference, with_member, without_member, count_below}
use Rattle.policy.specs.Reading.{read_from}
use Rattle.policy.specs.Seniority.{rows_union, closed_below}
use Rattle.policy.specs.Updates.{only}
use Rattle.monitor.specs.Cells.{blank}
use Rattle.families.specs.Separation.{some_below}
use Rattle.families.specs.Worked.{WorkedRulings}

pub rulings : WorkedRulings
unfolding body_length read_from only blank first_of has union difference with_member
    without_member count_below some_below rows_union closed_below
rulings = record {
  users_at_limit = (refl, refl);
  users_over_lowest = (refl, refl);
  roles_at_limit = (refl, refl);
  roles_over = (refl, refl);
  seats_at_limit = (refl, refl);
  same_role_elsewhere = (refl, refl);
  other_role_elsewhere = (refl, refl);
  other_role_beside = (refl, refl);
  second_seat_beside = (refl, refl);
  third_seat_elsewhere = (refl, refl);
  seat_free_by_deactivation = (refl, refl);
  seats_free_by_closing = (refl, refl);
  seats_of_another = (refl, refl);
  seats_name_first = (refl, refl);
  sessions_at_limit = (refl, refl);
  sessions_over = (refl, refl);
  static_apart = (refl, refl);
  static_conflict_lowest = (refl, refl);
  dynamic_other_user = (refl, refl);
  dynamic_conflict = (refl, refl);
  users_without_conflict = (refl, refl);
  users_conflict_lowest = (refl, refl);
  same_role_unshared = (refl, refl);
  same_role_shared_lowest = (refl, refl);
  junior_shared_lowest = (refl, refl);
  senior_shared_lowest = (refl, refl);
  inherited_is_not_held = (refl, refl);
  listed_for_senior_only = (refl, refl);
  listed_for_senior_only_turned = (refl, refl);
  senior_itself_shared = (refl, refl);
  static_conflict_names_first = (refl, refl);
  deassigned_is_not_held = (refl, refl);
  enabled_stands = (refl, refl);
  enabled_missing = (refl, refl);
  assigned_stands = (refl, refl);
  assigned_missing = (refl, refl);
  anyone_assigned_stands = (refl, refl);
  anyone_assigned_missing = (refl, refl);
  active_stands = (refl, refl);
  active_missing = (refl, refl);
  in_session_stands = (refl, refl);
  in_session_missing = (refl, refl);
  for_owner_stands = (refl, refl);
  for_owner_missing_lowest = (refl, refl);
  dependency_met = (refl, refl);
  dependency_unmet = (refl, refl);
  deactivated_elsewhere_active = (refl, refl);
  deactivated_last = (refl, refl);
  closed_together = (refl, refl);
  closed_lower_alone = (refl, refl);
  closed_last = (refl, refl);
  sample_static = (refl, refl);
  sample_activate = (refl, refl);
  sample_deactivate = (refl, refl);
  sample_close = (refl, refl);
}
