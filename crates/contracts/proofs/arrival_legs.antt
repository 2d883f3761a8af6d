-- Each public function of arrival_legs has one answer and one lent memory. tools/contracts.py writes this file.
-- Assumes nothing.
use mathlib.Core.Path.{refl}
use base.Logic.{id⊢, emp}
use Rattle.arrival_legs.specs.contracts.adjust.adjust_candidate_time as adjust_adjust_candidate_time
use Rattle.arrival_legs.proofs.adjust.adjust_candidate_time.Symbol as adjust_adjust_candidate_time_symbol
use Rattle.arrival_legs.proofs.adjust.adjust_candidate_time.Met as adjust_adjust_candidate_time_met
use Rattle.arrival_legs.specs.contracts.near.near_leg as near_near_leg
use Rattle.arrival_legs.proofs.near.near_leg.Symbol as near_near_leg_symbol
use Rattle.arrival_legs.proofs.near.near_leg.Met as near_near_leg_met
use Rattle.arrival_legs.specs.contracts.near.ends_near as near_ends_near
use Rattle.arrival_legs.proofs.near.ends_near.Symbol as near_ends_near_symbol
use Rattle.arrival_legs.proofs.near.ends_near.Met as near_ends_near_met
use Rattle.arrival_legs.specs.contracts.next_candidate.find_next_candidate_time as next_candidate_find_next_candidate_time
use Rattle.arrival_legs.proofs.next_candidate.find_next_candidate_time.Symbol as next_candidate_find_next_candidate_time_symbol
use Rattle.arrival_legs.proofs.next_candidate.find_next_candidate_time.Met as next_candidate_find_next_candidate_time_met
use Rattle.arrival_legs.specs.contracts.track.track_of as track_track_of
use Rattle.arrival_legs.proofs.track.track_of.Symbol as track_track_of_symbol
use Rattle.arrival_legs.proofs.track.track_of.Met as track_track_of_met
use Rattle.settling.specs.Determined.{Determined}
use Rattle.settling.proofs.Facts.{by_clause}
use Rattle.contracts.proofs.Rules.{one_answer}

pub adjust_adjust_candidate_time_determined :
    Determined adjust_adjust_candidate_time_symbol.code adjust_adjust_candidate_time_symbol.name adjust_adjust_candidate_time.ended (λ M 𝓤. adjust_adjust_candidate_time.clauses)
adjust_adjust_candidate_time_determined = record {
  met = λ M. adjust_adjust_candidate_time_met.met;
  kept = refl;
  free = λ M 𝓤 𝓛 mem run κs a. (tt, id⊢ 𝓤 (emp 𝓤));
  one = λ M 𝓤 𝓛 mem run κs a g g' r r' left left' s s'.
      by_clause 𝓤 adjust_adjust_candidate_time.ended κs a r r' left left' (λ p q. (search one_answer, search one_answer)) s s';
}

pub near_near_leg_determined :
    Determined near_near_leg_symbol.code near_near_leg_symbol.name near_near_leg.ended (λ M 𝓤. near_near_leg.clauses)
near_near_leg_determined = record {
  met = λ M. near_near_leg_met.met;
  kept = refl;
  free = λ M 𝓤 𝓛 mem run κs a. (tt, id⊢ 𝓤 (emp 𝓤));
  one = λ M 𝓤 𝓛 mem run κs a g g' r r' left left' s s'.
      by_clause 𝓤 near_near_leg.ended κs a r r' left left' (λ p q. (search one_answer, search one_answer)) s s';
}

pub near_ends_near_determined :
    Determined near_ends_near_symbol.code near_ends_near_symbol.name near_ends_near.ended (λ M 𝓤. near_ends_near.clauses)
near_ends_near_determined = record {
  met = λ M. near_ends_near_met.met;
  kept = refl;
  free = λ M 𝓤 𝓛 mem run κs a. (tt, id⊢ 𝓤 (emp 𝓤));
  one = λ M 𝓤 𝓛 mem run κs a g g' r r' left left' s s'.
      by_clause 𝓤 near_ends_near.ended κs a r r' left left' (λ p q. (search one_answer, search one_answer)) s s';
}

pub next_candidate_find_next_candidate_time_determined :
    Determined next_candidate_find_next_candidate_time_symbol.code next_candidate_find_next_candidate_time_symbol.name next_candidate_find_next_candidate_time.ended (λ M 𝓤. next_candidate_find_next_candidate_time.clauses)
next_candidate_find_next_candidate_time_determined = record {
  met = λ M. next_candidate_find_next_candidate_time_met.met;
  kept = refl;
  free = λ M 𝓤 𝓛 mem run κs a. (tt, id⊢ 𝓤 (emp 𝓤));
  one = λ M 𝓤 𝓛 mem run κs a g g' r r' left left' s s'.
      by_clause 𝓤 next_candidate_find_next_candidate_time.ended κs a r r' left left' (λ p q. (search one_answer, search one_answer)) s s';
}

pub track_track_of_determined :
    Determined track_track_of_symbol.code track_track_of_symbol.name track_track_of.ended (λ M 𝓤. track_track_of.clauses)
track_track_of_determined = record {
  met = λ M. track_track_of_met.met;
  kept = refl;
  free = λ M 𝓤 𝓛 mem run κs a. (tt, id⊢ 𝓤 (emp 𝓤));
  one = λ M 𝓤 𝓛 mem run κs a g g' r r' left left' s s'.
      by_clause 𝓤 track_track_of.ended κs a r r' left left' (λ p q. (search one_answer, search one_answer)) s s';
}
