-- Each public function of shapes has one answer and one lent memory. tools/contracts.py writes this file.
-- Assumes nothing.
use mathlib.Core.Path.{refl}
use base.Logic.{id⊢, emp}
use Rattle.shapes.specs.contracts.bounding_box.BoundingBox.for_point as bounding_box_bounding_box_for_point
use Rattle.shapes.proofs.bounding_box.BoundingBox.for_point.Symbol as bounding_box_bounding_box_for_point_symbol
use Rattle.shapes.proofs.bounding_box.BoundingBox.for_point.Met as bounding_box_bounding_box_for_point_met
use Rattle.shapes.specs.contracts.bounding_box.BoundingBox.incorporating as bounding_box_bounding_box_incorporating
use Rattle.shapes.proofs.bounding_box.BoundingBox.incorporating.Symbol as bounding_box_bounding_box_incorporating_symbol
use Rattle.shapes.proofs.bounding_box.BoundingBox.incorporating.Met as bounding_box_bounding_box_incorporating_met
use Rattle.shapes.specs.contracts.bounding_box.BoundingBox.inflated_by as bounding_box_bounding_box_inflated_by
use Rattle.shapes.proofs.bounding_box.BoundingBox.inflated_by.Symbol as bounding_box_bounding_box_inflated_by_symbol
use Rattle.shapes.proofs.bounding_box.BoundingBox.inflated_by.Met as bounding_box_bounding_box_inflated_by_met
use Rattle.shapes.specs.contracts.bounding_box.BoundingBox.for_line as bounding_box_bounding_box_for_line
use Rattle.shapes.proofs.bounding_box.BoundingBox.for_line.Symbol as bounding_box_bounding_box_for_line_symbol
use Rattle.shapes.proofs.bounding_box.BoundingBox.for_line.Met as bounding_box_bounding_box_for_line_met
use Rattle.shapes.specs.contracts.bounding_box.BoundingBox.overlaps as bounding_box_bounding_box_overlaps
use Rattle.shapes.proofs.bounding_box.BoundingBox.overlaps.Symbol as bounding_box_bounding_box_overlaps_symbol
use Rattle.shapes.proofs.bounding_box.BoundingBox.overlaps.Met as bounding_box_bounding_box_overlaps_met
use Rattle.shapes.specs.contracts.legs.leg_of as legs_leg_of
use Rattle.shapes.proofs.legs.leg_of.Symbol as legs_leg_of_symbol
use Rattle.shapes.proofs.legs.leg_of.Met as legs_leg_of_met
use Rattle.shapes.specs.contracts.profile.CircularProfile.critical_distance_for as profile_circular_profile_critical_distance_for
use Rattle.shapes.proofs.profile.CircularProfile.critical_distance_for.Symbol as profile_circular_profile_critical_distance_for_symbol
use Rattle.shapes.proofs.profile.CircularProfile.critical_distance_for.Met as profile_circular_profile_critical_distance_for_met
use Rattle.shapes.specs.contracts.profile.CircularProfile.critical_distance_squared_for as profile_circular_profile_critical_distance_squared_for
use Rattle.shapes.proofs.profile.CircularProfile.critical_distance_squared_for.Symbol as profile_circular_profile_critical_distance_squared_for_symbol
use Rattle.shapes.proofs.profile.CircularProfile.critical_distance_squared_for.Met as profile_circular_profile_critical_distance_squared_for_met
use Rattle.shapes.specs.contracts.profile.CircularProfile.follow_distance_for as profile_circular_profile_follow_distance_for
use Rattle.shapes.proofs.profile.CircularProfile.follow_distance_for.Symbol as profile_circular_profile_follow_distance_for_symbol
use Rattle.shapes.proofs.profile.CircularProfile.follow_distance_for.Met as profile_circular_profile_follow_distance_for_met
use Rattle.shapes.specs.contracts.vector.Vector.plus as vector_vector_plus
use Rattle.shapes.proofs.vector.Vector.plus.Symbol as vector_vector_plus_symbol
use Rattle.shapes.proofs.vector.Vector.plus.Met as vector_vector_plus_met
use Rattle.shapes.specs.contracts.vector.Vector.minus as vector_vector_minus
use Rattle.shapes.proofs.vector.Vector.minus.Symbol as vector_vector_minus_symbol
use Rattle.shapes.proofs.vector.Vector.minus.Met as vector_vector_minus_met
use Rattle.shapes.specs.contracts.vector.Vector.times as vector_vector_times
use Rattle.shapes.proofs.vector.Vector.times.Symbol as vector_vector_times_symbol
use Rattle.shapes.proofs.vector.Vector.times.Met as vector_vector_times_met
use Rattle.shapes.specs.contracts.vector.Vector.over as vector_vector_over
use Rattle.shapes.proofs.vector.Vector.over.Symbol as vector_vector_over_symbol
use Rattle.shapes.proofs.vector.Vector.over.Met as vector_vector_over_met
use Rattle.shapes.specs.contracts.vector.Vector.dot as vector_vector_dot
use Rattle.shapes.proofs.vector.Vector.dot.Symbol as vector_vector_dot_symbol
use Rattle.shapes.proofs.vector.Vector.dot.Met as vector_vector_dot_met
use Rattle.shapes.specs.contracts.waypoint.Waypoint.place as waypoint_waypoint_place
use Rattle.shapes.proofs.waypoint.Waypoint.place.Symbol as waypoint_waypoint_place_symbol
use Rattle.shapes.proofs.waypoint.Waypoint.place.Met as waypoint_waypoint_place_met
use Rattle.shapes.specs.contracts.waypoint.Leg.in_range as waypoint_leg_in_range
use Rattle.shapes.proofs.waypoint.Leg.in_range.Symbol as waypoint_leg_in_range_symbol
use Rattle.shapes.proofs.waypoint.Leg.in_range.Met as waypoint_leg_in_range_met
use Rattle.shapes.specs.contracts.waypoint.Leg.is_inside as waypoint_leg_is_inside
use Rattle.shapes.proofs.waypoint.Leg.is_inside.Symbol as waypoint_leg_is_inside_symbol
use Rattle.shapes.proofs.waypoint.Leg.is_inside.Met as waypoint_leg_is_inside_met
use Rattle.shapes.specs.contracts.waypoint.Leg.is_backward as waypoint_leg_is_backward
use Rattle.shapes.proofs.waypoint.Leg.is_backward.Symbol as waypoint_leg_is_backward_symbol
use Rattle.shapes.proofs.waypoint.Leg.is_backward.Met as waypoint_leg_is_backward_met
use Rattle.shapes.specs.contracts.waypoint.Leg.is_rising as waypoint_leg_is_rising
use Rattle.shapes.proofs.waypoint.Leg.is_rising.Symbol as waypoint_leg_is_rising_symbol
use Rattle.shapes.proofs.waypoint.Leg.is_rising.Met as waypoint_leg_is_rising_met
use Rattle.shapes.specs.contracts.waypoint.Leg.is_brief as waypoint_leg_is_brief
use Rattle.shapes.proofs.waypoint.Leg.is_brief.Symbol as waypoint_leg_is_brief_symbol
use Rattle.shapes.proofs.waypoint.Leg.is_brief.Met as waypoint_leg_is_brief_met
use Rattle.settling.specs.Determined.{Determined}
use Rattle.settling.proofs.Facts.{by_clause}
use Rattle.contracts.proofs.Rules.{one_answer}

pub bounding_box_bounding_box_for_point_determined :
    Determined bounding_box_bounding_box_for_point_symbol.code bounding_box_bounding_box_for_point_symbol.name bounding_box_bounding_box_for_point.ended (λ M 𝓤. bounding_box_bounding_box_for_point.clauses)
bounding_box_bounding_box_for_point_determined = record {
  met = λ M. bounding_box_bounding_box_for_point_met.met;
  kept = refl;
  free = λ M 𝓤 𝓛 mem run κs a. (tt, id⊢ 𝓤 (emp 𝓤));
  one = λ M 𝓤 𝓛 mem run κs a g g' r r' left left' s s'.
      by_clause 𝓤 bounding_box_bounding_box_for_point.ended κs a r r' left left' (λ p q. (search one_answer, search one_answer)) s s';
}

pub bounding_box_bounding_box_incorporating_determined :
    Determined bounding_box_bounding_box_incorporating_symbol.code bounding_box_bounding_box_incorporating_symbol.name bounding_box_bounding_box_incorporating.ended (λ M 𝓤. bounding_box_bounding_box_incorporating.clauses)
bounding_box_bounding_box_incorporating_determined = record {
  met = λ M. bounding_box_bounding_box_incorporating_met.met;
  kept = refl;
  free = λ M 𝓤 𝓛 mem run κs a. (tt, id⊢ 𝓤 (emp 𝓤));
  one = λ M 𝓤 𝓛 mem run κs a g g' r r' left left' s s'.
      by_clause 𝓤 bounding_box_bounding_box_incorporating.ended κs a r r' left left' (λ p q. (search one_answer, search one_answer)) s s';
}

pub bounding_box_bounding_box_inflated_by_determined :
    Determined bounding_box_bounding_box_inflated_by_symbol.code bounding_box_bounding_box_inflated_by_symbol.name bounding_box_bounding_box_inflated_by.ended (λ M 𝓤. bounding_box_bounding_box_inflated_by.clauses)
bounding_box_bounding_box_inflated_by_determined = record {
  met = λ M. bounding_box_bounding_box_inflated_by_met.met;
  kept = refl;
  free = λ M 𝓤 𝓛 mem run κs a. (tt, id⊢ 𝓤 (emp 𝓤));
  one = λ M 𝓤 𝓛 mem run κs a g g' r r' left left' s s'.
      by_clause 𝓤 bounding_box_bounding_box_inflated_by.ended κs a r r' left left' (λ p q. (search one_answer, search one_answer)) s s';
}

pub bounding_box_bounding_box_for_line_determined :
    Determined bounding_box_bounding_box_for_line_symbol.code bounding_box_bounding_box_for_line_symbol.name bounding_box_bounding_box_for_line.ended (λ M 𝓤. bounding_box_bounding_box_for_line.clauses)
bounding_box_bounding_box_for_line_determined = record {
  met = λ M. bounding_box_bounding_box_for_line_met.met;
  kept = refl;
  free = λ M 𝓤 𝓛 mem run κs a. (tt, id⊢ 𝓤 (emp 𝓤));
  one = λ M 𝓤 𝓛 mem run κs a g g' r r' left left' s s'.
      by_clause 𝓤 bounding_box_bounding_box_for_line.ended κs a r r' left left' (λ p q. (search one_answer, search one_answer)) s s';
}

pub bounding_box_bounding_box_overlaps_determined :
    Determined bounding_box_bounding_box_overlaps_symbol.code bounding_box_bounding_box_overlaps_symbol.name bounding_box_bounding_box_overlaps.ended (λ M 𝓤. bounding_box_bounding_box_overlaps.clauses)
bounding_box_bounding_box_overlaps_determined = record {
  met = λ M. bounding_box_bounding_box_overlaps_met.met;
  kept = refl;
  free = λ M 𝓤 𝓛 mem run κs a. (tt, id⊢ 𝓤 (emp 𝓤));
  one = λ M 𝓤 𝓛 mem run κs a g g' r r' left left' s s'.
      by_clause 𝓤 bounding_box_bounding_box_overlaps.ended κs a r r' left left' (λ p q. (search one_answer, search one_answer)) s s';
}

pub legs_leg_of_determined :
    Determined legs_leg_of_symbol.code legs_leg_of_symbol.name legs_leg_of.ended (λ M 𝓤. legs_leg_of.clauses)
legs_leg_of_determined = record {
  met = λ M. legs_leg_of_met.met;
  kept = refl;
  free = λ M 𝓤 𝓛 mem run κs a. (tt, id⊢ 𝓤 (emp 𝓤));
  one = λ M 𝓤 𝓛 mem run κs a g g' r r' left left' s s'.
      by_clause 𝓤 legs_leg_of.ended κs a r r' left left' (λ p q. (search one_answer, search one_answer)) s s';
}

pub profile_circular_profile_critical_distance_for_determined :
    Determined profile_circular_profile_critical_distance_for_symbol.code profile_circular_profile_critical_distance_for_symbol.name profile_circular_profile_critical_distance_for.ended (λ M 𝓤. profile_circular_profile_critical_distance_for.clauses)
profile_circular_profile_critical_distance_for_determined = record {
  met = λ M. profile_circular_profile_critical_distance_for_met.met;
  kept = refl;
  free = λ M 𝓤 𝓛 mem run κs a. (tt, id⊢ 𝓤 (emp 𝓤));
  one = λ M 𝓤 𝓛 mem run κs a g g' r r' left left' s s'.
      by_clause 𝓤 profile_circular_profile_critical_distance_for.ended κs a r r' left left' (λ p q. (search one_answer, search one_answer)) s s';
}

pub profile_circular_profile_critical_distance_squared_for_determined :
    Determined profile_circular_profile_critical_distance_squared_for_symbol.code profile_circular_profile_critical_distance_squared_for_symbol.name profile_circular_profile_critical_distance_squared_for.ended (λ M 𝓤. profile_circular_profile_critical_distance_squared_for.clauses)
profile_circular_profile_critical_distance_squared_for_determined = record {
  met = λ M. profile_circular_profile_critical_distance_squared_for_met.met;
  kept = refl;
  free = λ M 𝓤 𝓛 mem run κs a. (tt, id⊢ 𝓤 (emp 𝓤));
  one = λ M 𝓤 𝓛 mem run κs a g g' r r' left left' s s'.
      by_clause 𝓤 profile_circular_profile_critical_distance_squared_for.ended κs a r r' left left' (λ p q. (search one_answer, search one_answer)) s s';
}

pub profile_circular_profile_follow_distance_for_determined :
    Determined profile_circular_profile_follow_distance_for_symbol.code profile_circular_profile_follow_distance_for_symbol.name profile_circular_profile_follow_distance_for.ended (λ M 𝓤. profile_circular_profile_follow_distance_for.clauses)
profile_circular_profile_follow_distance_for_determined = record {
  met = λ M. profile_circular_profile_follow_distance_for_met.met;
  kept = refl;
  free = λ M 𝓤 𝓛 mem run κs a. (tt, id⊢ 𝓤 (emp 𝓤));
  one = λ M 𝓤 𝓛 mem run κs a g g' r r' left left' s s'.
      by_clause 𝓤 profile_circular_profile_follow_distance_for.ended κs a r r' left left' (λ p q. (search one_answer, search one_answer)) s s';
}

pub vector_vector_plus_determined :
    Determined vector_vector_plus_symbol.code vector_vector_plus_symbol.name vector_vector_plus.ended (λ M 𝓤. vector_vector_plus.clauses)
vector_vector_plus_determined = record {
  met = λ M. vector_vector_plus_met.met;
  kept = refl;
  free = λ M 𝓤 𝓛 mem run κs a. (tt, id⊢ 𝓤 (emp 𝓤));
  one = λ M 𝓤 𝓛 mem run κs a g g' r r' left left' s s'.
      by_clause 𝓤 vector_vector_plus.ended κs a r r' left left' (λ p q. (search one_answer, search one_answer)) s s';
}

pub vector_vector_minus_determined :
    Determined vector_vector_minus_symbol.code vector_vector_minus_symbol.name vector_vector_minus.ended (λ M 𝓤. vector_vector_minus.clauses)
vector_vector_minus_determined = record {
  met = λ M. vector_vector_minus_met.met;
  kept = refl;
  free = λ M 𝓤 𝓛 mem run κs a. (tt, id⊢ 𝓤 (emp 𝓤));
  one = λ M 𝓤 𝓛 mem run κs a g g' r r' left left' s s'.
      by_clause 𝓤 vector_vector_minus.ended κs a r r' left left' (λ p q. (search one_answer, search one_answer)) s s';
}

pub vector_vector_times_determined :
    Determined vector_vector_times_symbol.code vector_vector_times_symbol.name vector_vector_times.ended (λ M 𝓤. vector_vector_times.clauses)
vector_vector_times_determined = record {
  met = λ M. vector_vector_times_met.met;
  kept = refl;
  free = λ M 𝓤 𝓛 mem run κs a. (tt, id⊢ 𝓤 (emp 𝓤));
  one = λ M 𝓤 𝓛 mem run κs a g g' r r' left left' s s'.
      by_clause 𝓤 vector_vector_times.ended κs a r r' left left' (λ p q. (search one_answer, search one_answer)) s s';
}

pub vector_vector_over_determined :
    Determined vector_vector_over_symbol.code vector_vector_over_symbol.name vector_vector_over.ended (λ M 𝓤. vector_vector_over.clauses)
vector_vector_over_determined = record {
  met = λ M. vector_vector_over_met.met;
  kept = refl;
  free = λ M 𝓤 𝓛 mem run κs a. (tt, id⊢ 𝓤 (emp 𝓤));
  one = λ M 𝓤 𝓛 mem run κs a g g' r r' left left' s s'.
      by_clause 𝓤 vector_vector_over.ended κs a r r' left left' (λ p q. (search one_answer, search one_answer)) s s';
}

pub vector_vector_dot_determined :
    Determined vector_vector_dot_symbol.code vector_vector_dot_symbol.name vector_vector_dot.ended (λ M 𝓤. vector_vector_dot.clauses)
vector_vector_dot_determined = record {
  met = λ M. vector_vector_dot_met.met;
  kept = refl;
  free = λ M 𝓤 𝓛 mem run κs a. (tt, id⊢ 𝓤 (emp 𝓤));
  one = λ M 𝓤 𝓛 mem run κs a g g' r r' left left' s s'.
      by_clause 𝓤 vector_vector_dot.ended κs a r r' left left' (λ p q. (search one_answer, search one_answer)) s s';
}

pub waypoint_waypoint_place_determined :
    Determined waypoint_waypoint_place_symbol.code waypoint_waypoint_place_symbol.name waypoint_waypoint_place.ended (λ M 𝓤. waypoint_waypoint_place.clauses)
waypoint_waypoint_place_determined = record {
  met = λ M. waypoint_waypoint_place_met.met;
  kept = refl;
  free = λ M 𝓤 𝓛 mem run κs a. (tt, id⊢ 𝓤 (emp 𝓤));
  one = λ M 𝓤 𝓛 mem run κs a g g' r r' left left' s s'.
      by_clause 𝓤 waypoint_waypoint_place.ended κs a r r' left left' (λ p q. (search one_answer, search one_answer)) s s';
}

pub waypoint_leg_in_range_determined :
    Determined waypoint_leg_in_range_symbol.code waypoint_leg_in_range_symbol.name waypoint_leg_in_range.ended (λ M 𝓤. waypoint_leg_in_range.clauses)
waypoint_leg_in_range_determined = record {
  met = λ M. waypoint_leg_in_range_met.met;
  kept = refl;
  free = λ M 𝓤 𝓛 mem run κs a. (tt, id⊢ 𝓤 (emp 𝓤));
  one = λ M 𝓤 𝓛 mem run κs a g g' r r' left left' s s'.
      by_clause 𝓤 waypoint_leg_in_range.ended κs a r r' left left' (λ p q. (search one_answer, search one_answer)) s s';
}

pub waypoint_leg_is_inside_determined :
    Determined waypoint_leg_is_inside_symbol.code waypoint_leg_is_inside_symbol.name waypoint_leg_is_inside.ended (λ M 𝓤. waypoint_leg_is_inside.clauses)
waypoint_leg_is_inside_determined = record {
  met = λ M. waypoint_leg_is_inside_met.met;
  kept = refl;
  free = λ M 𝓤 𝓛 mem run κs a. (tt, id⊢ 𝓤 (emp 𝓤));
  one = λ M 𝓤 𝓛 mem run κs a g g' r r' left left' s s'.
      by_clause 𝓤 waypoint_leg_is_inside.ended κs a r r' left left' (λ p q. (search one_answer, search one_answer)) s s';
}

pub waypoint_leg_is_backward_determined :
    Determined waypoint_leg_is_backward_symbol.code waypoint_leg_is_backward_symbol.name waypoint_leg_is_backward.ended (λ M 𝓤. waypoint_leg_is_backward.clauses)
waypoint_leg_is_backward_determined = record {
  met = λ M. waypoint_leg_is_backward_met.met;
  kept = refl;
  free = λ M 𝓤 𝓛 mem run κs a. (tt, id⊢ 𝓤 (emp 𝓤));
  one = λ M 𝓤 𝓛 mem run κs a g g' r r' left left' s s'.
      by_clause 𝓤 waypoint_leg_is_backward.ended κs a r r' left left' (λ p q. (search one_answer, search one_answer)) s s';
}

pub waypoint_leg_is_rising_determined :
    Determined waypoint_leg_is_rising_symbol.code waypoint_leg_is_rising_symbol.name waypoint_leg_is_rising.ended (λ M 𝓤. waypoint_leg_is_rising.clauses)
waypoint_leg_is_rising_determined = record {
  met = λ M. waypoint_leg_is_rising_met.met;
  kept = refl;
  free = λ M 𝓤 𝓛 mem run κs a. (tt, id⊢ 𝓤 (emp 𝓤));
  one = λ M 𝓤 𝓛 mem run κs a g g' r r' left left' s s'.
      by_clause 𝓤 waypoint_leg_is_rising.ended κs a r r' left left' (λ p q. (search one_answer, search one_answer)) s s';
}

pub waypoint_leg_is_brief_determined :
    Determined waypoint_leg_is_brief_symbol.code waypoint_leg_is_brief_symbol.name waypoint_leg_is_brief.ended (λ M 𝓤. waypoint_leg_is_brief.clauses)
waypoint_leg_is_brief_determined = record {
  met = λ M. waypoint_leg_is_brief_met.met;
  kept = refl;
  free = λ M 𝓤 𝓛 mem run κs a. (tt, id⊢ 𝓤 (emp 𝓤));
  one = λ M 𝓤 𝓛 mem run κs a g g' r r' left left' s s'.
      by_clause 𝓤 waypoint_leg_is_brief.ended κs a r r' left left' (λ p q. (search one_answer, search one_answer)) s s';
}
