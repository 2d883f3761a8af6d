-- Each public function of path_tests has one answer and one lent memory. tools/contracts.py writes this file.
-- Assumes nothing.
use mathlib.Core.Path.{refl}
use base.Logic.{id⊢, emp}
use Rattle.path_tests.specs.contracts.tests.to_end as tests_to_end
use Rattle.path_tests.proofs.tests.to_end.Symbol as tests_to_end_symbol
use Rattle.path_tests.proofs.tests.to_end.Met as tests_to_end_met
use Rattle.path_tests.specs.contracts.tests.to_goal as tests_to_goal
use Rattle.path_tests.proofs.tests.to_goal.Symbol as tests_to_goal_symbol
use Rattle.path_tests.proofs.tests.to_goal.Met as tests_to_goal_met
use Rattle.path_tests.specs.contracts.tests.from_start as tests_from_start
use Rattle.path_tests.proofs.tests.from_start.Symbol as tests_from_start_symbol
use Rattle.path_tests.proofs.tests.from_start.Met as tests_from_start_met
use Rattle.path_tests.specs.contracts.tests.can_arrive_safely as tests_can_arrive_safely
use Rattle.path_tests.proofs.tests.can_arrive_safely.Symbol as tests_can_arrive_safely_symbol
use Rattle.path_tests.proofs.tests.can_arrive_safely.Met as tests_can_arrive_safely_met
use Rattle.path_tests.specs.contracts.travel.waypoint_of as travel_waypoint_of
use Rattle.path_tests.proofs.travel.waypoint_of.Symbol as travel_waypoint_of_symbol
use Rattle.path_tests.proofs.travel.waypoint_of.Met as travel_waypoint_of_met
use Rattle.path_tests.specs.contracts.travel.arrival_at as travel_arrival_at
use Rattle.path_tests.proofs.travel.arrival_at.Symbol as travel_arrival_at_symbol
use Rattle.path_tests.proofs.travel.arrival_at.Met as travel_arrival_at_met
use Rattle.path_tests.specs.contracts.way.safe_way as way_safe_way
use Rattle.path_tests.proofs.way.safe_way.Symbol as way_safe_way_symbol
use Rattle.path_tests.proofs.way.safe_way.Met as way_safe_way_met
use Rattle.path_tests.specs.contracts.way.both_ways as way_both_ways
use Rattle.path_tests.proofs.way.both_ways.Symbol as way_both_ways_symbol
use Rattle.path_tests.proofs.way.both_ways.Met as way_both_ways_met
use Rattle.settling.specs.Determined.{Determined}
use Rattle.settling.proofs.Facts.{by_clause}
use Rattle.contracts.proofs.Rules.{one_answer}

pub tests_to_end_determined :
    Determined tests_to_end_symbol.code tests_to_end_symbol.name tests_to_end.ended (λ M 𝓤. tests_to_end.clauses)
tests_to_end_determined = record {
  met = λ M. tests_to_end_met.met;
  kept = refl;
  free = λ M 𝓤 𝓛 mem run κs a. (tt, id⊢ 𝓤 (emp 𝓤));
  one = λ M 𝓤 𝓛 mem run κs a g g' r r' left left' s s'.
      by_clause 𝓤 tests_to_end.ended κs a r r' left left' (λ p q. (search one_answer, search one_answer)) s s';
}

pub tests_to_goal_determined :
    Determined tests_to_goal_symbol.code tests_to_goal_symbol.name tests_to_goal.ended (λ M 𝓤. tests_to_goal.clauses)
tests_to_goal_determined = record {
  met = λ M. tests_to_goal_met.met;
  kept = refl;
  free = λ M 𝓤 𝓛 mem run κs a. (tt, id⊢ 𝓤 (emp 𝓤));
  one = λ M 𝓤 𝓛 mem run κs a g g' r r' left left' s s'.
      by_clause 𝓤 tests_to_goal.ended κs a r r' left left' (λ p q. (search one_answer, search one_answer)) s s';
}

pub tests_from_start_determined :
    Determined tests_from_start_symbol.code tests_from_start_symbol.name tests_from_start.ended (λ M 𝓤. tests_from_start.clauses)
tests_from_start_determined = record {
  met = λ M. tests_from_start_met.met;
  kept = refl;
  free = λ M 𝓤 𝓛 mem run κs a. (tt, id⊢ 𝓤 (emp 𝓤));
  one = λ M 𝓤 𝓛 mem run κs a g g' r r' left left' s s'.
      by_clause 𝓤 tests_from_start.ended κs a r r' left left' (λ p q. (search one_answer, search one_answer)) s s';
}

pub tests_can_arrive_safely_determined :
    Determined tests_can_arrive_safely_symbol.code tests_can_arrive_safely_symbol.name tests_can_arrive_safely.ended (λ M 𝓤. tests_can_arrive_safely.clauses)
tests_can_arrive_safely_determined = record {
  met = λ M. tests_can_arrive_safely_met.met;
  kept = refl;
  free = λ M 𝓤 𝓛 mem run κs a. (tt, id⊢ 𝓤 (emp 𝓤));
  one = λ M 𝓤 𝓛 mem run κs a g g' r r' left left' s s'.
      by_clause 𝓤 tests_can_arrive_safely.ended κs a r r' left left' (λ p q. (search one_answer, search one_answer)) s s';
}

pub travel_waypoint_of_determined :
    Determined travel_waypoint_of_symbol.code travel_waypoint_of_symbol.name travel_waypoint_of.ended (λ M 𝓤. travel_waypoint_of.clauses)
travel_waypoint_of_determined = record {
  met = λ M. travel_waypoint_of_met.met;
  kept = refl;
  free = λ M 𝓤 𝓛 mem run κs a. (tt, id⊢ 𝓤 (emp 𝓤));
  one = λ M 𝓤 𝓛 mem run κs a g g' r r' left left' s s'.
      by_clause 𝓤 travel_waypoint_of.ended κs a r r' left left' (λ p q. (search one_answer, search one_answer)) s s';
}

pub travel_arrival_at_determined :
    Determined travel_arrival_at_symbol.code travel_arrival_at_symbol.name travel_arrival_at.ended (λ M 𝓤. travel_arrival_at.clauses)
travel_arrival_at_determined = record {
  met = λ M. travel_arrival_at_met.met;
  kept = refl;
  free = λ M 𝓤 𝓛 mem run κs a. (tt, id⊢ 𝓤 (emp 𝓤));
  one = λ M 𝓤 𝓛 mem run κs a g g' r r' left left' s s'.
      by_clause 𝓤 travel_arrival_at.ended κs a r r' left left' (λ p q. (search one_answer, search one_answer)) s s';
}

pub way_safe_way_determined :
    Determined way_safe_way_symbol.code way_safe_way_symbol.name way_safe_way.ended (λ M 𝓤. way_safe_way.clauses)
way_safe_way_determined = record {
  met = λ M. way_safe_way_met.met;
  kept = refl;
  free = λ M 𝓤 𝓛 mem run κs a. (tt, id⊢ 𝓤 (emp 𝓤));
  one = λ M 𝓤 𝓛 mem run κs a g g' r r' left left' s s'.
      by_clause 𝓤 way_safe_way.ended κs a r r' left left' (λ p q. (search one_answer, search one_answer)) s s';
}

pub way_both_ways_determined :
    Determined way_both_ways_symbol.code way_both_ways_symbol.name way_both_ways.ended (λ M 𝓤. way_both_ways.clauses)
way_both_ways_determined = record {
  met = λ M. way_both_ways_met.met;
  kept = refl;
  free = λ M 𝓤 𝓛 mem run κs a. (tt, id⊢ 𝓤 (emp 𝓤));
  one = λ M 𝓤 𝓛 mem run κs a g g' r r' left left' s s'.
      by_clause 𝓤 way_both_ways.ended κs a r r' left left' (λ p q. (search one_answer, search one_answer)) s s';
}
