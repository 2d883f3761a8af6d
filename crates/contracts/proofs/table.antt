-- Each public function of table has one answer and one lent memory. tools/contracts.py writes this file.
-- Assumes nothing.
use mathlib.Core.Path.{refl}
use base.Logic.{id⊢, emp}
use Rattle.table.specs.contracts.listed.number_at as listed_number_at
use Rattle.table.proofs.listed.number_at.Symbol as listed_number_at_symbol
use Rattle.table.proofs.listed.number_at.Met as listed_number_at_met
use Rattle.table.specs.contracts.listed.time_at as listed_time_at
use Rattle.table.proofs.listed.time_at.Symbol as listed_time_at_symbol
use Rattle.table.proofs.listed.time_at.Met as listed_time_at_met
use Rattle.table.specs.contracts.listed.start_of as listed_start_of
use Rattle.table.proofs.listed.start_of.Symbol as listed_start_of_symbol
use Rattle.table.proofs.listed.start_of.Met as listed_start_of_met
use Rattle.table.specs.contracts.listed.profile_at as listed_profile_at
use Rattle.table.proofs.listed.profile_at.Symbol as listed_profile_at_symbol
use Rattle.table.proofs.listed.profile_at.Met as listed_profile_at_met
use Rattle.table.specs.contracts.listed.limit_at as listed_limit_at
use Rattle.table.proofs.listed.limit_at.Symbol as listed_limit_at_symbol
use Rattle.table.proofs.listed.limit_at.Met as listed_limit_at_met
use Rattle.table.specs.contracts.listed.waypoint_at as listed_waypoint_at
use Rattle.table.proofs.listed.waypoint_at.Symbol as listed_waypoint_at_symbol
use Rattle.table.proofs.listed.waypoint_at.Met as listed_waypoint_at_met
use Rattle.table.specs.contracts.reading.count_of as reading_count_of
use Rattle.table.proofs.reading.count_of.Symbol as reading_count_of_symbol
use Rattle.table.proofs.reading.count_of.Met as reading_count_of_met
use Rattle.table.specs.contracts.reading.first_of as reading_first_of
use Rattle.table.proofs.reading.first_of.Symbol as reading_first_of_symbol
use Rattle.table.proofs.reading.first_of.Met as reading_first_of_met
use Rattle.table.specs.contracts.reading.end_of as reading_end_of
use Rattle.table.proofs.reading.end_of.Symbol as reading_end_of_symbol
use Rattle.table.proofs.reading.end_of.Met as reading_end_of_met
use Rattle.table.specs.contracts.reading.profile_at as reading_profile_at
use Rattle.table.proofs.reading.profile_at.Symbol as reading_profile_at_symbol
use Rattle.table.proofs.reading.profile_at.Met as reading_profile_at_met
use Rattle.table.specs.contracts.reading.limit_at as reading_limit_at
use Rattle.table.proofs.reading.limit_at.Symbol as reading_limit_at_symbol
use Rattle.table.proofs.reading.limit_at.Met as reading_limit_at_met
use Rattle.table.specs.contracts.reading.box_at as reading_box_at
use Rattle.table.proofs.reading.box_at.Symbol as reading_box_at_symbol
use Rattle.table.proofs.reading.box_at.Met as reading_box_at_met
use Rattle.table.specs.contracts.reading.waypoint_at as reading_waypoint_at
use Rattle.table.proofs.reading.waypoint_at.Symbol as reading_waypoint_at_symbol
use Rattle.table.proofs.reading.waypoint_at.Met as reading_waypoint_at_met
use Rattle.table.specs.contracts.reading.leg_at as reading_leg_at
use Rattle.table.proofs.reading.leg_at.Symbol as reading_leg_at_symbol
use Rattle.table.proofs.reading.leg_at.Met as reading_leg_at_met
use Rattle.table.specs.contracts.walked.last_of as walked_last_of
use Rattle.table.proofs.walked.last_of.Symbol as walked_last_of_symbol
use Rattle.table.proofs.walked.last_of.Met as walked_last_of_met
use Rattle.table.specs.contracts.walked.walked_to as walked_walked_to
use Rattle.table.proofs.walked.walked_to.Symbol as walked_walked_to_symbol
use Rattle.table.proofs.walked.walked_to.Met as walked_walked_to_met
use Rattle.settling.specs.Determined.{Determined}
use Rattle.settling.proofs.Facts.{by_clause}
use Rattle.contracts.proofs.Rules.{one_answer}

pub listed_number_at_determined :
    Determined listed_number_at_symbol.code listed_number_at_symbol.name listed_number_at.ended (λ M 𝓤. listed_number_at.clauses)
listed_number_at_determined = record {
  met = λ M. listed_number_at_met.met;
  kept = refl;
  free = λ M 𝓤 𝓛 mem run κs a. (tt, id⊢ 𝓤 (emp 𝓤));
  one = λ M 𝓤 𝓛 mem run κs a g g' r r' left left' s s'.
      by_clause 𝓤 listed_number_at.ended κs a r r' left left' (λ p q. (search one_answer, search one_answer)) s s';
}

pub listed_time_at_determined :
    Determined listed_time_at_symbol.code listed_time_at_symbol.name listed_time_at.ended (λ M 𝓤. listed_time_at.clauses)
listed_time_at_determined = record {
  met = λ M. listed_time_at_met.met;
  kept = refl;
  free = λ M 𝓤 𝓛 mem run κs a. (tt, id⊢ 𝓤 (emp 𝓤));
  one = λ M 𝓤 𝓛 mem run κs a g g' r r' left left' s s'.
      by_clause 𝓤 listed_time_at.ended κs a r r' left left' (λ p q. (search one_answer, search one_answer)) s s';
}

pub listed_start_of_determined :
    Determined listed_start_of_symbol.code listed_start_of_symbol.name listed_start_of.ended (λ M 𝓤. listed_start_of.clauses)
listed_start_of_determined = record {
  met = λ M. listed_start_of_met.met;
  kept = refl;
  free = λ M 𝓤 𝓛 mem run κs a. (tt, id⊢ 𝓤 (emp 𝓤));
  one = λ M 𝓤 𝓛 mem run κs a g g' r r' left left' s s'.
      by_clause 𝓤 listed_start_of.ended κs a r r' left left' (λ p q. (search one_answer, search one_answer)) s s';
}

pub listed_profile_at_determined :
    Determined listed_profile_at_symbol.code listed_profile_at_symbol.name listed_profile_at.ended (λ M 𝓤. listed_profile_at.clauses)
listed_profile_at_determined = record {
  met = λ M. listed_profile_at_met.met;
  kept = refl;
  free = λ M 𝓤 𝓛 mem run κs a. (tt, id⊢ 𝓤 (emp 𝓤));
  one = λ M 𝓤 𝓛 mem run κs a g g' r r' left left' s s'.
      by_clause 𝓤 listed_profile_at.ended κs a r r' left left' (λ p q. (search one_answer, search one_answer)) s s';
}

pub listed_limit_at_determined :
    Determined listed_limit_at_symbol.code listed_limit_at_symbol.name listed_limit_at.ended (λ M 𝓤. listed_limit_at.clauses)
listed_limit_at_determined = record {
  met = λ M. listed_limit_at_met.met;
  kept = refl;
  free = λ M 𝓤 𝓛 mem run κs a. (tt, id⊢ 𝓤 (emp 𝓤));
  one = λ M 𝓤 𝓛 mem run κs a g g' r r' left left' s s'.
      by_clause 𝓤 listed_limit_at.ended κs a r r' left left' (λ p q. (search one_answer, search one_answer)) s s';
}

pub listed_waypoint_at_determined :
    Determined listed_waypoint_at_symbol.code listed_waypoint_at_symbol.name listed_waypoint_at.ended (λ M 𝓤. listed_waypoint_at.clauses)
listed_waypoint_at_determined = record {
  met = λ M. listed_waypoint_at_met.met;
  kept = refl;
  free = λ M 𝓤 𝓛 mem run κs a. (tt, id⊢ 𝓤 (emp 𝓤));
  one = λ M 𝓤 𝓛 mem run κs a g g' r r' left left' s s'.
      by_clause 𝓤 listed_waypoint_at.ended κs a r r' left left' (λ p q. (search one_answer, search one_answer)) s s';
}

pub reading_count_of_determined :
    Determined reading_count_of_symbol.code reading_count_of_symbol.name reading_count_of.ended (λ M 𝓤. reading_count_of.clauses)
reading_count_of_determined = record {
  met = λ M. reading_count_of_met.met;
  kept = refl;
  free = λ M 𝓤 𝓛 mem run κs a. (tt, id⊢ 𝓤 (emp 𝓤));
  one = λ M 𝓤 𝓛 mem run κs a g g' r r' left left' s s'.
      by_clause 𝓤 reading_count_of.ended κs a r r' left left' (λ p q. (search one_answer, search one_answer)) s s';
}

pub reading_first_of_determined :
    Determined reading_first_of_symbol.code reading_first_of_symbol.name reading_first_of.ended (λ M 𝓤. reading_first_of.clauses)
reading_first_of_determined = record {
  met = λ M. reading_first_of_met.met;
  kept = refl;
  free = λ M 𝓤 𝓛 mem run κs a. (tt, id⊢ 𝓤 (emp 𝓤));
  one = λ M 𝓤 𝓛 mem run κs a g g' r r' left left' s s'.
      by_clause 𝓤 reading_first_of.ended κs a r r' left left' (λ p q. (search one_answer, search one_answer)) s s';
}

pub reading_end_of_determined :
    Determined reading_end_of_symbol.code reading_end_of_symbol.name reading_end_of.ended (λ M 𝓤. reading_end_of.clauses)
reading_end_of_determined = record {
  met = λ M. reading_end_of_met.met;
  kept = refl;
  free = λ M 𝓤 𝓛 mem run κs a. (tt, id⊢ 𝓤 (emp 𝓤));
  one = λ M 𝓤 𝓛 mem run κs a g g' r r' left left' s s'.
      by_clause 𝓤 reading_end_of.ended κs a r r' left left' (λ p q. (search one_answer, search one_answer)) s s';
}

pub reading_profile_at_determined :
    Determined reading_profile_at_symbol.code reading_profile_at_symbol.name reading_profile_at.ended (λ M 𝓤. reading_profile_at.clauses)
reading_profile_at_determined = record {
  met = λ M. reading_profile_at_met.met;
  kept = refl;
  free = λ M 𝓤 𝓛 mem run κs a. (tt, id⊢ 𝓤 (emp 𝓤));
  one = λ M 𝓤 𝓛 mem run κs a g g' r r' left left' s s'.
      by_clause 𝓤 reading_profile_at.ended κs a r r' left left' (λ p q. (search one_answer, search one_answer)) s s';
}

pub reading_limit_at_determined :
    Determined reading_limit_at_symbol.code reading_limit_at_symbol.name reading_limit_at.ended (λ M 𝓤. reading_limit_at.clauses)
reading_limit_at_determined = record {
  met = λ M. reading_limit_at_met.met;
  kept = refl;
  free = λ M 𝓤 𝓛 mem run κs a. (tt, id⊢ 𝓤 (emp 𝓤));
  one = λ M 𝓤 𝓛 mem run κs a g g' r r' left left' s s'.
      by_clause 𝓤 reading_limit_at.ended κs a r r' left left' (λ p q. (search one_answer, search one_answer)) s s';
}

pub reading_box_at_determined :
    Determined reading_box_at_symbol.code reading_box_at_symbol.name reading_box_at.ended (λ M 𝓤. reading_box_at.clauses)
reading_box_at_determined = record {
  met = λ M. reading_box_at_met.met;
  kept = refl;
  free = λ M 𝓤 𝓛 mem run κs a. (tt, id⊢ 𝓤 (emp 𝓤));
  one = λ M 𝓤 𝓛 mem run κs a g g' r r' left left' s s'.
      by_clause 𝓤 reading_box_at.ended κs a r r' left left' (λ p q. (search one_answer, search one_answer)) s s';
}

pub reading_waypoint_at_determined :
    Determined reading_waypoint_at_symbol.code reading_waypoint_at_symbol.name reading_waypoint_at.ended (λ M 𝓤. reading_waypoint_at.clauses)
reading_waypoint_at_determined = record {
  met = λ M. reading_waypoint_at_met.met;
  kept = refl;
  free = λ M 𝓤 𝓛 mem run κs a. (tt, id⊢ 𝓤 (emp 𝓤));
  one = λ M 𝓤 𝓛 mem run κs a g g' r r' left left' s s'.
      by_clause 𝓤 reading_waypoint_at.ended κs a r r' left left' (λ p q. (search one_answer, search one_answer)) s s';
}

pub reading_leg_at_determined :
    Determined reading_leg_at_symbol.code reading_leg_at_symbol.name reading_leg_at.ended (λ M 𝓤. reading_leg_at.clauses)
reading_leg_at_determined = record {
  met = λ M. reading_leg_at_met.met;
  kept = refl;
  free = λ M 𝓤 𝓛 mem run κs a. (tt, id⊢ 𝓤 (emp 𝓤));
  one = λ M 𝓤 𝓛 mem run κs a g g' r r' left left' s s'.
      by_clause 𝓤 reading_leg_at.ended κs a r r' left left' (λ p q. (search one_answer, search one_answer)) s s';
}

pub walked_last_of_determined :
    Determined walked_last_of_symbol.code walked_last_of_symbol.name walked_last_of.ended (λ M 𝓤. walked_last_of.clauses)
walked_last_of_determined = record {
  met = λ M. walked_last_of_met.met;
  kept = refl;
  free = λ M 𝓤 𝓛 mem run κs a. (tt, id⊢ 𝓤 (emp 𝓤));
  one = λ M 𝓤 𝓛 mem run κs a g g' r r' left left' s s'.
      by_clause 𝓤 walked_last_of.ended κs a r r' left left' (λ p q. (search one_answer, search one_answer)) s s';
}

pub walked_walked_to_determined :
    Determined walked_walked_to_symbol.code walked_walked_to_symbol.name walked_walked_to.ended (λ M 𝓤. walked_walked_to.clauses)
walked_walked_to_determined = record {
  met = λ M. walked_walked_to_met.met;
  kept = refl;
  free = λ M 𝓤 𝓛 mem run κs a. (tt, id⊢ 𝓤 (emp 𝓤));
  one = λ M 𝓤 𝓛 mem run κs a g g' r r' left left' s s'.
      by_clause 𝓤 walked_walked_to.ended κs a r r' left left' (λ p q. (search one_answer, search one_answer)) s s';
}
