-- Each public function of geometry_exports_c has one answer and one lent memory. tools/contracts.py writes this file.
-- Assumes nothing.
use mathlib.Core.Path.{refl}
use base.Logic.{id⊢, emp}
use Rattle.geometry_exports_c.specs.contracts.line_calls.igelbert_stationary_proximity as line_calls_igelbert_stationary_proximity
use Rattle.geometry_exports_c.proofs.line_calls.igelbert_stationary_proximity.Symbol as line_calls_igelbert_stationary_proximity_symbol
use Rattle.geometry_exports_c.proofs.line_calls.igelbert_stationary_proximity.Met as line_calls_igelbert_stationary_proximity_met
use Rattle.geometry_exports_c.specs.contracts.proximity_calls.igelbert_position as proximity_calls_igelbert_position
use Rattle.geometry_exports_c.proofs.proximity_calls.igelbert_position.Symbol as proximity_calls_igelbert_position_symbol
use Rattle.geometry_exports_c.proofs.proximity_calls.igelbert_position.Met as proximity_calls_igelbert_position_met
use Rattle.geometry_exports_c.specs.contracts.proximity_calls.igelbert_detect_proximity as proximity_calls_igelbert_detect_proximity
use Rattle.geometry_exports_c.proofs.proximity_calls.igelbert_detect_proximity.Symbol as proximity_calls_igelbert_detect_proximity_symbol
use Rattle.geometry_exports_c.proofs.proximity_calls.igelbert_detect_proximity.Met as proximity_calls_igelbert_detect_proximity_met
use Rattle.geometry_exports_c.specs.contracts.proximity_calls.igelbert_have_conflict as proximity_calls_igelbert_have_conflict
use Rattle.geometry_exports_c.proofs.proximity_calls.igelbert_have_conflict.Symbol as proximity_calls_igelbert_have_conflict_symbol
use Rattle.geometry_exports_c.proofs.proximity_calls.igelbert_have_conflict.Met as proximity_calls_igelbert_have_conflict_met
use Rattle.geometry_exports_c.specs.contracts.segment_calls.igelbert_is_safe_segment as segment_calls_igelbert_is_safe_segment
use Rattle.geometry_exports_c.proofs.segment_calls.igelbert_is_safe_segment.Symbol as segment_calls_igelbert_is_safe_segment_symbol
use Rattle.geometry_exports_c.proofs.segment_calls.igelbert_is_safe_segment.Met as segment_calls_igelbert_is_safe_segment_met
use Rattle.geometry_exports_c.specs.contracts.shape_calls.igelbert_critical_distance as shape_calls_igelbert_critical_distance
use Rattle.geometry_exports_c.proofs.shape_calls.igelbert_critical_distance.Symbol as shape_calls_igelbert_critical_distance_symbol
use Rattle.geometry_exports_c.proofs.shape_calls.igelbert_critical_distance.Met as shape_calls_igelbert_critical_distance_met
use Rattle.geometry_exports_c.specs.contracts.shape_calls.igelbert_critical_distance_squared as shape_calls_igelbert_critical_distance_squared
use Rattle.geometry_exports_c.proofs.shape_calls.igelbert_critical_distance_squared.Symbol as shape_calls_igelbert_critical_distance_squared_symbol
use Rattle.geometry_exports_c.proofs.shape_calls.igelbert_critical_distance_squared.Met as shape_calls_igelbert_critical_distance_squared_met
use Rattle.geometry_exports_c.specs.contracts.shape_calls.igelbert_follow_distance as shape_calls_igelbert_follow_distance
use Rattle.geometry_exports_c.proofs.shape_calls.igelbert_follow_distance.Symbol as shape_calls_igelbert_follow_distance_symbol
use Rattle.geometry_exports_c.proofs.shape_calls.igelbert_follow_distance.Met as shape_calls_igelbert_follow_distance_met
use Rattle.geometry_exports_c.specs.contracts.shape_calls.igelbert_box_of_leg as shape_calls_igelbert_box_of_leg
use Rattle.geometry_exports_c.proofs.shape_calls.igelbert_box_of_leg.Symbol as shape_calls_igelbert_box_of_leg_symbol
use Rattle.geometry_exports_c.proofs.shape_calls.igelbert_box_of_leg.Met as shape_calls_igelbert_box_of_leg_met
use Rattle.geometry_exports_c.specs.contracts.shape_calls.igelbert_box_of_obstacle as shape_calls_igelbert_box_of_obstacle
use Rattle.geometry_exports_c.proofs.shape_calls.igelbert_box_of_obstacle.Symbol as shape_calls_igelbert_box_of_obstacle_symbol
use Rattle.geometry_exports_c.proofs.shape_calls.igelbert_box_of_obstacle.Met as shape_calls_igelbert_box_of_obstacle_met
use Rattle.geometry_exports_c.specs.contracts.shape_calls.igelbert_boxes_overlap as shape_calls_igelbert_boxes_overlap
use Rattle.geometry_exports_c.proofs.shape_calls.igelbert_boxes_overlap.Symbol as shape_calls_igelbert_boxes_overlap_symbol
use Rattle.geometry_exports_c.proofs.shape_calls.igelbert_boxes_overlap.Met as shape_calls_igelbert_boxes_overlap_met
use Rattle.settling.specs.Determined.{Determined}
use Rattle.settling.proofs.Facts.{by_clause}
use Rattle.settling.proofs.Facts.{one_answer}

pub line_calls_igelbert_stationary_proximity_determined :
    Determined line_calls_igelbert_stationary_proximity_symbol.code line_calls_igelbert_stationary_proximity_symbol.name line_calls_igelbert_stationary_proximity.ended (λ M 𝓤. line_calls_igelbert_stationary_proximity.clauses)
line_calls_igelbert_stationary_proximity_determined = record {
  met = λ M. line_calls_igelbert_stationary_proximity_met.met;
  kept = refl;
  free = λ M 𝓤 𝓛 mem run κs a. (tt, id⊢ 𝓤 (emp 𝓤));
  one = λ M 𝓤 𝓛 mem run κs a g g' r r' left left' s s'.
      by_clause 𝓤 line_calls_igelbert_stationary_proximity.ended κs a r r' left left' (λ p q. (search one_answer, search one_answer)) s s';
}

pub proximity_calls_igelbert_position_determined :
    Determined proximity_calls_igelbert_position_symbol.code proximity_calls_igelbert_position_symbol.name proximity_calls_igelbert_position.ended (λ M 𝓤. proximity_calls_igelbert_position.clauses)
proximity_calls_igelbert_position_determined = record {
  met = λ M. proximity_calls_igelbert_position_met.met;
  kept = refl;
  free = λ M 𝓤 𝓛 mem run κs a. (tt, id⊢ 𝓤 (emp 𝓤));
  one = λ M 𝓤 𝓛 mem run κs a g g' r r' left left' s s'.
      by_clause 𝓤 proximity_calls_igelbert_position.ended κs a r r' left left' (λ p q. (search one_answer, search one_answer)) s s';
}

pub proximity_calls_igelbert_detect_proximity_determined :
    Determined proximity_calls_igelbert_detect_proximity_symbol.code proximity_calls_igelbert_detect_proximity_symbol.name proximity_calls_igelbert_detect_proximity.ended (λ M 𝓤. proximity_calls_igelbert_detect_proximity.clauses)
proximity_calls_igelbert_detect_proximity_determined = record {
  met = λ M. proximity_calls_igelbert_detect_proximity_met.met;
  kept = refl;
  free = λ M 𝓤 𝓛 mem run κs a. (tt, id⊢ 𝓤 (emp 𝓤));
  one = λ M 𝓤 𝓛 mem run κs a g g' r r' left left' s s'.
      by_clause 𝓤 proximity_calls_igelbert_detect_proximity.ended κs a r r' left left' (λ p q. (search one_answer, search one_answer)) s s';
}

pub proximity_calls_igelbert_have_conflict_determined :
    Determined proximity_calls_igelbert_have_conflict_symbol.code proximity_calls_igelbert_have_conflict_symbol.name proximity_calls_igelbert_have_conflict.ended (λ M 𝓤. proximity_calls_igelbert_have_conflict.clauses)
proximity_calls_igelbert_have_conflict_determined = record {
  met = λ M. proximity_calls_igelbert_have_conflict_met.met;
  kept = refl;
  free = λ M 𝓤 𝓛 mem run κs a. (tt, id⊢ 𝓤 (emp 𝓤));
  one = λ M 𝓤 𝓛 mem run κs a g g' r r' left left' s s'.
      by_clause 𝓤 proximity_calls_igelbert_have_conflict.ended κs a r r' left left' (λ p q. (search one_answer, search one_answer)) s s';
}

pub segment_calls_igelbert_is_safe_segment_determined :
    Determined segment_calls_igelbert_is_safe_segment_symbol.code segment_calls_igelbert_is_safe_segment_symbol.name segment_calls_igelbert_is_safe_segment.ended (λ M 𝓤. segment_calls_igelbert_is_safe_segment.clauses)
segment_calls_igelbert_is_safe_segment_determined = record {
  met = λ M. segment_calls_igelbert_is_safe_segment_met.met;
  kept = refl;
  free = λ M 𝓤 𝓛 mem run κs a. (tt, id⊢ 𝓤 (emp 𝓤));
  one = λ M 𝓤 𝓛 mem run κs a g g' r r' left left' s s'.
      by_clause 𝓤 segment_calls_igelbert_is_safe_segment.ended κs a r r' left left' (λ p q. (search one_answer, search one_answer)) s s';
}

pub shape_calls_igelbert_critical_distance_determined :
    Determined shape_calls_igelbert_critical_distance_symbol.code shape_calls_igelbert_critical_distance_symbol.name shape_calls_igelbert_critical_distance.ended (λ M 𝓤. shape_calls_igelbert_critical_distance.clauses)
shape_calls_igelbert_critical_distance_determined = record {
  met = λ M. shape_calls_igelbert_critical_distance_met.met;
  kept = refl;
  free = λ M 𝓤 𝓛 mem run κs a. (tt, id⊢ 𝓤 (emp 𝓤));
  one = λ M 𝓤 𝓛 mem run κs a g g' r r' left left' s s'.
      by_clause 𝓤 shape_calls_igelbert_critical_distance.ended κs a r r' left left' (λ p q. (search one_answer, search one_answer)) s s';
}

pub shape_calls_igelbert_critical_distance_squared_determined :
    Determined shape_calls_igelbert_critical_distance_squared_symbol.code shape_calls_igelbert_critical_distance_squared_symbol.name shape_calls_igelbert_critical_distance_squared.ended (λ M 𝓤. shape_calls_igelbert_critical_distance_squared.clauses)
shape_calls_igelbert_critical_distance_squared_determined = record {
  met = λ M. shape_calls_igelbert_critical_distance_squared_met.met;
  kept = refl;
  free = λ M 𝓤 𝓛 mem run κs a. (tt, id⊢ 𝓤 (emp 𝓤));
  one = λ M 𝓤 𝓛 mem run κs a g g' r r' left left' s s'.
      by_clause 𝓤 shape_calls_igelbert_critical_distance_squared.ended κs a r r' left left' (λ p q. (search one_answer, search one_answer)) s s';
}

pub shape_calls_igelbert_follow_distance_determined :
    Determined shape_calls_igelbert_follow_distance_symbol.code shape_calls_igelbert_follow_distance_symbol.name shape_calls_igelbert_follow_distance.ended (λ M 𝓤. shape_calls_igelbert_follow_distance.clauses)
shape_calls_igelbert_follow_distance_determined = record {
  met = λ M. shape_calls_igelbert_follow_distance_met.met;
  kept = refl;
  free = λ M 𝓤 𝓛 mem run κs a. (tt, id⊢ 𝓤 (emp 𝓤));
  one = λ M 𝓤 𝓛 mem run κs a g g' r r' left left' s s'.
      by_clause 𝓤 shape_calls_igelbert_follow_distance.ended κs a r r' left left' (λ p q. (search one_answer, search one_answer)) s s';
}

pub shape_calls_igelbert_box_of_leg_determined :
    Determined shape_calls_igelbert_box_of_leg_symbol.code shape_calls_igelbert_box_of_leg_symbol.name shape_calls_igelbert_box_of_leg.ended (λ M 𝓤. shape_calls_igelbert_box_of_leg.clauses)
shape_calls_igelbert_box_of_leg_determined = record {
  met = λ M. shape_calls_igelbert_box_of_leg_met.met;
  kept = refl;
  free = λ M 𝓤 𝓛 mem run κs a. (tt, id⊢ 𝓤 (emp 𝓤));
  one = λ M 𝓤 𝓛 mem run κs a g g' r r' left left' s s'.
      by_clause 𝓤 shape_calls_igelbert_box_of_leg.ended κs a r r' left left' (λ p q. (search one_answer, search one_answer)) s s';
}

pub shape_calls_igelbert_box_of_obstacle_determined :
    Determined shape_calls_igelbert_box_of_obstacle_symbol.code shape_calls_igelbert_box_of_obstacle_symbol.name shape_calls_igelbert_box_of_obstacle.ended (λ M 𝓤. shape_calls_igelbert_box_of_obstacle.clauses)
shape_calls_igelbert_box_of_obstacle_determined = record {
  met = λ M. shape_calls_igelbert_box_of_obstacle_met.met;
  kept = refl;
  free = λ M 𝓤 𝓛 mem run κs a. (tt, id⊢ 𝓤 (emp 𝓤));
  one = λ M 𝓤 𝓛 mem run κs a g g' r r' left left' s s'.
      by_clause 𝓤 shape_calls_igelbert_box_of_obstacle.ended κs a r r' left left' (λ p q. (search one_answer, search one_answer)) s s';
}

pub shape_calls_igelbert_boxes_overlap_determined :
    Determined shape_calls_igelbert_boxes_overlap_symbol.code shape_calls_igelbert_boxes_overlap_symbol.name shape_calls_igelbert_boxes_overlap.ended (λ M 𝓤. shape_calls_igelbert_boxes_overlap.clauses)
shape_calls_igelbert_boxes_overlap_determined = record {
  met = λ M. shape_calls_igelbert_boxes_overlap_met.met;
  kept = refl;
  free = λ M 𝓤 𝓛 mem run κs a. (tt, id⊢ 𝓤 (emp 𝓤));
  one = λ M 𝓤 𝓛 mem run κs a g g' r r' left left' s s'.
      by_clause 𝓤 shape_calls_igelbert_boxes_overlap.ended κs a r r' left left' (λ p q. (search one_answer, search one_answer)) s s';
}
