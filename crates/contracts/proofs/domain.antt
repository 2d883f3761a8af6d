-- Each public function of domain has one answer and one lent memory. tools/contracts.py writes this file.
-- Assumes nothing.
use mathlib.Core.Path.{refl}
use base.Logic.{id⊢, emp}
use Rattle.domain.specs.contracts.beside.is_budget as beside_is_budget
use Rattle.domain.proofs.beside.is_budget.Symbol as beside_is_budget_symbol
use Rattle.domain.proofs.beside.is_budget.Met as beside_is_budget_met
use Rattle.domain.specs.contracts.beside.is_asked as beside_is_asked
use Rattle.domain.proofs.beside.is_asked.Symbol as beside_is_asked_symbol
use Rattle.domain.proofs.beside.is_asked.Met as beside_is_asked_met
use Rattle.domain.specs.contracts.beside.with_numbers_told as beside_with_numbers_told
use Rattle.domain.proofs.beside.with_numbers_told.Symbol as beside_with_numbers_told_symbol
use Rattle.domain.proofs.beside.with_numbers_told.Met as beside_with_numbers_told_met
use Rattle.domain.specs.contracts.beside.with_lent_told as beside_with_lent_told
use Rattle.domain.proofs.beside.with_lent_told.Symbol as beside_with_lent_told_symbol
use Rattle.domain.proofs.beside.with_lent_told.Met as beside_with_lent_told_met
use Rattle.domain.specs.contracts.beside.with_numbers as beside_with_numbers
use Rattle.domain.proofs.beside.with_numbers.Symbol as beside_with_numbers_symbol
use Rattle.domain.proofs.beside.with_numbers.Met as beside_with_numbers_met
use Rattle.domain.specs.contracts.beside.with_lent as beside_with_lent
use Rattle.domain.proofs.beside.with_lent.Symbol as beside_with_lent_symbol
use Rattle.domain.proofs.beside.with_lent.Met as beside_with_lent_met
use Rattle.domain.specs.contracts.calls.critical_distance as calls_critical_distance
use Rattle.domain.proofs.calls.critical_distance.Symbol as calls_critical_distance_symbol
use Rattle.domain.proofs.calls.critical_distance.Met as calls_critical_distance_met
use Rattle.domain.specs.contracts.calls.critical_distance_squared as calls_critical_distance_squared
use Rattle.domain.proofs.calls.critical_distance_squared.Symbol as calls_critical_distance_squared_symbol
use Rattle.domain.proofs.calls.critical_distance_squared.Met as calls_critical_distance_squared_met
use Rattle.domain.specs.contracts.calls.follow_distance as calls_follow_distance
use Rattle.domain.proofs.calls.follow_distance.Symbol as calls_follow_distance_symbol
use Rattle.domain.proofs.calls.follow_distance.Met as calls_follow_distance_met
use Rattle.domain.specs.contracts.calls.box_of_leg as calls_box_of_leg
use Rattle.domain.proofs.calls.box_of_leg.Symbol as calls_box_of_leg_symbol
use Rattle.domain.proofs.calls.box_of_leg.Met as calls_box_of_leg_met
use Rattle.domain.specs.contracts.calls.boxes_overlap as calls_boxes_overlap
use Rattle.domain.proofs.calls.boxes_overlap.Symbol as calls_boxes_overlap_symbol
use Rattle.domain.proofs.calls.boxes_overlap.Met as calls_boxes_overlap_met
use Rattle.domain.specs.contracts.limits.is_time as limits_is_time
use Rattle.domain.proofs.limits.is_time.Symbol as limits_is_time_symbol
use Rattle.domain.proofs.limits.is_time.Met as limits_is_time_met
use Rattle.domain.specs.contracts.limits.is_coordinate as limits_is_coordinate
use Rattle.domain.proofs.limits.is_coordinate.Symbol as limits_is_coordinate_symbol
use Rattle.domain.proofs.limits.is_coordinate.Met as limits_is_coordinate_met
use Rattle.domain.specs.contracts.limits.is_radius as limits_is_radius
use Rattle.domain.proofs.limits.is_radius.Symbol as limits_is_radius_symbol
use Rattle.domain.proofs.limits.is_radius.Met as limits_is_radius_met
use Rattle.domain.specs.contracts.limits.is_limit as limits_is_limit
use Rattle.domain.proofs.limits.is_limit.Symbol as limits_is_limit_symbol
use Rattle.domain.proofs.limits.is_limit.Met as limits_is_limit_met
use Rattle.domain.specs.contracts.limits.is_bound as limits_is_bound
use Rattle.domain.proofs.limits.is_bound.Symbol as limits_is_bound_symbol
use Rattle.domain.proofs.limits.is_bound.Met as limits_is_bound_met
use Rattle.domain.specs.contracts.limits.is_speed as limits_is_speed
use Rattle.domain.proofs.limits.is_speed.Symbol as limits_is_speed_symbol
use Rattle.domain.proofs.limits.is_speed.Met as limits_is_speed_met
use Rattle.domain.specs.contracts.limits.is_place as limits_is_place
use Rattle.domain.proofs.limits.is_place.Symbol as limits_is_place_symbol
use Rattle.domain.proofs.limits.is_place.Met as limits_is_place_met
use Rattle.domain.specs.contracts.limits.is_waypoint as limits_is_waypoint
use Rattle.domain.proofs.limits.is_waypoint.Symbol as limits_is_waypoint_symbol
use Rattle.domain.proofs.limits.is_waypoint.Met as limits_is_waypoint_met
use Rattle.domain.specs.contracts.limits.is_leg as limits_is_leg
use Rattle.domain.proofs.limits.is_leg.Symbol as limits_is_leg_symbol
use Rattle.domain.proofs.limits.is_leg.Met as limits_is_leg_met
use Rattle.domain.specs.contracts.limits.is_profile as limits_is_profile
use Rattle.domain.proofs.limits.is_profile.Symbol as limits_is_profile_symbol
use Rattle.domain.proofs.limits.is_profile.Met as limits_is_profile_met
use Rattle.domain.specs.contracts.limits.is_box as limits_is_box
use Rattle.domain.proofs.limits.is_box.Symbol as limits_is_box_symbol
use Rattle.domain.proofs.limits.is_box.Met as limits_is_box_met
use Rattle.settling.specs.Determined.{Determined}
use Rattle.settling.proofs.Facts.{by_clause}
use Rattle.contracts.proofs.Rules.{one_answer}

pub beside_is_budget_determined :
    Determined beside_is_budget_symbol.code beside_is_budget_symbol.name beside_is_budget.ended (λ M 𝓤. beside_is_budget.clauses)
beside_is_budget_determined = record {
  met = λ M. beside_is_budget_met.met;
  kept = refl;
  free = λ M 𝓤 𝓛 mem run κs a. (tt, id⊢ 𝓤 (emp 𝓤));
  one = λ M 𝓤 𝓛 mem run κs a g g' r r' left left' s s'.
      by_clause 𝓤 beside_is_budget.ended κs a r r' left left' (λ p q. (search one_answer, search one_answer)) s s';
}

pub beside_is_asked_determined :
    Determined beside_is_asked_symbol.code beside_is_asked_symbol.name beside_is_asked.ended (λ M 𝓤. beside_is_asked.clauses)
beside_is_asked_determined = record {
  met = λ M. beside_is_asked_met.met;
  kept = refl;
  free = λ M 𝓤 𝓛 mem run κs a. (tt, id⊢ 𝓤 (emp 𝓤));
  one = λ M 𝓤 𝓛 mem run κs a g g' r r' left left' s s'.
      by_clause 𝓤 beside_is_asked.ended κs a r r' left left' (λ p q. (search one_answer, search one_answer)) s s';
}

pub beside_with_numbers_told_determined :
    Determined beside_with_numbers_told_symbol.code beside_with_numbers_told_symbol.name beside_with_numbers_told.ended (λ M 𝓤. beside_with_numbers_told.clauses)
beside_with_numbers_told_determined = record {
  met = λ M. beside_with_numbers_told_met.met;
  kept = refl;
  free = λ M 𝓤 𝓛 mem run κs a. (tt, id⊢ 𝓤 (emp 𝓤));
  one = λ M 𝓤 𝓛 mem run κs a g g' r r' left left' s s'.
      by_clause 𝓤 beside_with_numbers_told.ended κs a r r' left left' (λ p q. (search one_answer, search one_answer)) s s';
}

pub beside_with_lent_told_determined :
    Determined beside_with_lent_told_symbol.code beside_with_lent_told_symbol.name beside_with_lent_told.ended (λ M 𝓤. beside_with_lent_told.clauses)
beside_with_lent_told_determined = record {
  met = λ M. beside_with_lent_told_met.met;
  kept = refl;
  free = λ M 𝓤 𝓛 mem run κs a. (tt, id⊢ 𝓤 (emp 𝓤));
  one = λ M 𝓤 𝓛 mem run κs a g g' r r' left left' s s'.
      by_clause 𝓤 beside_with_lent_told.ended κs a r r' left left' (λ p q. (search one_answer, search one_answer)) s s';
}

pub beside_with_numbers_determined :
    Determined beside_with_numbers_symbol.code beside_with_numbers_symbol.name beside_with_numbers.ended (λ M 𝓤. beside_with_numbers.clauses)
beside_with_numbers_determined = record {
  met = λ M. beside_with_numbers_met.met;
  kept = refl;
  free = λ M 𝓤 𝓛 mem run κs a. (tt, id⊢ 𝓤 (emp 𝓤));
  one = λ M 𝓤 𝓛 mem run κs a g g' r r' left left' s s'.
      by_clause 𝓤 beside_with_numbers.ended κs a r r' left left' (λ p q. (search one_answer, search one_answer)) s s';
}

pub beside_with_lent_determined :
    Determined beside_with_lent_symbol.code beside_with_lent_symbol.name beside_with_lent.ended (λ M 𝓤. beside_with_lent.clauses)
beside_with_lent_determined = record {
  met = λ M. beside_with_lent_met.met;
  kept = refl;
  free = λ M 𝓤 𝓛 mem run κs a. (tt, id⊢ 𝓤 (emp 𝓤));
  one = λ M 𝓤 𝓛 mem run κs a g g' r r' left left' s s'.
      by_clause 𝓤 beside_with_lent.ended κs a r r' left left' (λ p q. (search one_answer, search one_answer)) s s';
}

pub calls_critical_distance_determined :
    Determined calls_critical_distance_symbol.code calls_critical_distance_symbol.name calls_critical_distance.ended (λ M 𝓤. calls_critical_distance.clauses)
calls_critical_distance_determined = record {
  met = λ M. calls_critical_distance_met.met;
  kept = refl;
  free = λ M 𝓤 𝓛 mem run κs a. (tt, id⊢ 𝓤 (emp 𝓤));
  one = λ M 𝓤 𝓛 mem run κs a g g' r r' left left' s s'.
      by_clause 𝓤 calls_critical_distance.ended κs a r r' left left' (λ p q. (search one_answer, search one_answer)) s s';
}

pub calls_critical_distance_squared_determined :
    Determined calls_critical_distance_squared_symbol.code calls_critical_distance_squared_symbol.name calls_critical_distance_squared.ended (λ M 𝓤. calls_critical_distance_squared.clauses)
calls_critical_distance_squared_determined = record {
  met = λ M. calls_critical_distance_squared_met.met;
  kept = refl;
  free = λ M 𝓤 𝓛 mem run κs a. (tt, id⊢ 𝓤 (emp 𝓤));
  one = λ M 𝓤 𝓛 mem run κs a g g' r r' left left' s s'.
      by_clause 𝓤 calls_critical_distance_squared.ended κs a r r' left left' (λ p q. (search one_answer, search one_answer)) s s';
}

pub calls_follow_distance_determined :
    Determined calls_follow_distance_symbol.code calls_follow_distance_symbol.name calls_follow_distance.ended (λ M 𝓤. calls_follow_distance.clauses)
calls_follow_distance_determined = record {
  met = λ M. calls_follow_distance_met.met;
  kept = refl;
  free = λ M 𝓤 𝓛 mem run κs a. (tt, id⊢ 𝓤 (emp 𝓤));
  one = λ M 𝓤 𝓛 mem run κs a g g' r r' left left' s s'.
      by_clause 𝓤 calls_follow_distance.ended κs a r r' left left' (λ p q. (search one_answer, search one_answer)) s s';
}

pub calls_box_of_leg_determined :
    Determined calls_box_of_leg_symbol.code calls_box_of_leg_symbol.name calls_box_of_leg.ended (λ M 𝓤. calls_box_of_leg.clauses)
calls_box_of_leg_determined = record {
  met = λ M. calls_box_of_leg_met.met;
  kept = refl;
  free = λ M 𝓤 𝓛 mem run κs a. (tt, id⊢ 𝓤 (emp 𝓤));
  one = λ M 𝓤 𝓛 mem run κs a g g' r r' left left' s s'.
      by_clause 𝓤 calls_box_of_leg.ended κs a r r' left left' (λ p q. (search one_answer, search one_answer)) s s';
}

pub calls_boxes_overlap_determined :
    Determined calls_boxes_overlap_symbol.code calls_boxes_overlap_symbol.name calls_boxes_overlap.ended (λ M 𝓤. calls_boxes_overlap.clauses)
calls_boxes_overlap_determined = record {
  met = λ M. calls_boxes_overlap_met.met;
  kept = refl;
  free = λ M 𝓤 𝓛 mem run κs a. (tt, id⊢ 𝓤 (emp 𝓤));
  one = λ M 𝓤 𝓛 mem run κs a g g' r r' left left' s s'.
      by_clause 𝓤 calls_boxes_overlap.ended κs a r r' left left' (λ p q. (search one_answer, search one_answer)) s s';
}

pub limits_is_time_determined :
    Determined limits_is_time_symbol.code limits_is_time_symbol.name limits_is_time.ended (λ M 𝓤. limits_is_time.clauses)
limits_is_time_determined = record {
  met = λ M. limits_is_time_met.met;
  kept = refl;
  free = λ M 𝓤 𝓛 mem run κs a. (tt, id⊢ 𝓤 (emp 𝓤));
  one = λ M 𝓤 𝓛 mem run κs a g g' r r' left left' s s'.
      by_clause 𝓤 limits_is_time.ended κs a r r' left left' (λ p q. (search one_answer, search one_answer)) s s';
}

pub limits_is_coordinate_determined :
    Determined limits_is_coordinate_symbol.code limits_is_coordinate_symbol.name limits_is_coordinate.ended (λ M 𝓤. limits_is_coordinate.clauses)
limits_is_coordinate_determined = record {
  met = λ M. limits_is_coordinate_met.met;
  kept = refl;
  free = λ M 𝓤 𝓛 mem run κs a. (tt, id⊢ 𝓤 (emp 𝓤));
  one = λ M 𝓤 𝓛 mem run κs a g g' r r' left left' s s'.
      by_clause 𝓤 limits_is_coordinate.ended κs a r r' left left' (λ p q. (search one_answer, search one_answer)) s s';
}

pub limits_is_radius_determined :
    Determined limits_is_radius_symbol.code limits_is_radius_symbol.name limits_is_radius.ended (λ M 𝓤. limits_is_radius.clauses)
limits_is_radius_determined = record {
  met = λ M. limits_is_radius_met.met;
  kept = refl;
  free = λ M 𝓤 𝓛 mem run κs a. (tt, id⊢ 𝓤 (emp 𝓤));
  one = λ M 𝓤 𝓛 mem run κs a g g' r r' left left' s s'.
      by_clause 𝓤 limits_is_radius.ended κs a r r' left left' (λ p q. (search one_answer, search one_answer)) s s';
}

pub limits_is_limit_determined :
    Determined limits_is_limit_symbol.code limits_is_limit_symbol.name limits_is_limit.ended (λ M 𝓤. limits_is_limit.clauses)
limits_is_limit_determined = record {
  met = λ M. limits_is_limit_met.met;
  kept = refl;
  free = λ M 𝓤 𝓛 mem run κs a. (tt, id⊢ 𝓤 (emp 𝓤));
  one = λ M 𝓤 𝓛 mem run κs a g g' r r' left left' s s'.
      by_clause 𝓤 limits_is_limit.ended κs a r r' left left' (λ p q. (search one_answer, search one_answer)) s s';
}

pub limits_is_bound_determined :
    Determined limits_is_bound_symbol.code limits_is_bound_symbol.name limits_is_bound.ended (λ M 𝓤. limits_is_bound.clauses)
limits_is_bound_determined = record {
  met = λ M. limits_is_bound_met.met;
  kept = refl;
  free = λ M 𝓤 𝓛 mem run κs a. (tt, id⊢ 𝓤 (emp 𝓤));
  one = λ M 𝓤 𝓛 mem run κs a g g' r r' left left' s s'.
      by_clause 𝓤 limits_is_bound.ended κs a r r' left left' (λ p q. (search one_answer, search one_answer)) s s';
}

pub limits_is_speed_determined :
    Determined limits_is_speed_symbol.code limits_is_speed_symbol.name limits_is_speed.ended (λ M 𝓤. limits_is_speed.clauses)
limits_is_speed_determined = record {
  met = λ M. limits_is_speed_met.met;
  kept = refl;
  free = λ M 𝓤 𝓛 mem run κs a. (tt, id⊢ 𝓤 (emp 𝓤));
  one = λ M 𝓤 𝓛 mem run κs a g g' r r' left left' s s'.
      by_clause 𝓤 limits_is_speed.ended κs a r r' left left' (λ p q. (search one_answer, search one_answer)) s s';
}

pub limits_is_place_determined :
    Determined limits_is_place_symbol.code limits_is_place_symbol.name limits_is_place.ended (λ M 𝓤. limits_is_place.clauses)
limits_is_place_determined = record {
  met = λ M. limits_is_place_met.met;
  kept = refl;
  free = λ M 𝓤 𝓛 mem run κs a. (tt, id⊢ 𝓤 (emp 𝓤));
  one = λ M 𝓤 𝓛 mem run κs a g g' r r' left left' s s'.
      by_clause 𝓤 limits_is_place.ended κs a r r' left left' (λ p q. (search one_answer, search one_answer)) s s';
}

pub limits_is_waypoint_determined :
    Determined limits_is_waypoint_symbol.code limits_is_waypoint_symbol.name limits_is_waypoint.ended (λ M 𝓤. limits_is_waypoint.clauses)
limits_is_waypoint_determined = record {
  met = λ M. limits_is_waypoint_met.met;
  kept = refl;
  free = λ M 𝓤 𝓛 mem run κs a. (tt, id⊢ 𝓤 (emp 𝓤));
  one = λ M 𝓤 𝓛 mem run κs a g g' r r' left left' s s'.
      by_clause 𝓤 limits_is_waypoint.ended κs a r r' left left' (λ p q. (search one_answer, search one_answer)) s s';
}

pub limits_is_leg_determined :
    Determined limits_is_leg_symbol.code limits_is_leg_symbol.name limits_is_leg.ended (λ M 𝓤. limits_is_leg.clauses)
limits_is_leg_determined = record {
  met = λ M. limits_is_leg_met.met;
  kept = refl;
  free = λ M 𝓤 𝓛 mem run κs a. (tt, id⊢ 𝓤 (emp 𝓤));
  one = λ M 𝓤 𝓛 mem run κs a g g' r r' left left' s s'.
      by_clause 𝓤 limits_is_leg.ended κs a r r' left left' (λ p q. (search one_answer, search one_answer)) s s';
}

pub limits_is_profile_determined :
    Determined limits_is_profile_symbol.code limits_is_profile_symbol.name limits_is_profile.ended (λ M 𝓤. limits_is_profile.clauses)
limits_is_profile_determined = record {
  met = λ M. limits_is_profile_met.met;
  kept = refl;
  free = λ M 𝓤 𝓛 mem run κs a. (tt, id⊢ 𝓤 (emp 𝓤));
  one = λ M 𝓤 𝓛 mem run κs a g g' r r' left left' s s'.
      by_clause 𝓤 limits_is_profile.ended κs a r r' left left' (λ p q. (search one_answer, search one_answer)) s s';
}

pub limits_is_box_determined :
    Determined limits_is_box_symbol.code limits_is_box_symbol.name limits_is_box.ended (λ M 𝓤. limits_is_box.clauses)
limits_is_box_determined = record {
  met = λ M. limits_is_box_met.met;
  kept = refl;
  free = λ M 𝓤 𝓛 mem run κs a. (tt, id⊢ 𝓤 (emp 𝓤));
  one = λ M 𝓤 𝓛 mem run κs a g g' r r' left left' s s'.
      by_clause 𝓤 limits_is_box.ended κs a r r' left left' (λ p q. (search one_answer, search one_answer)) s s';
}
