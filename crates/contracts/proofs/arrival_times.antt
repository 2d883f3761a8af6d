-- Each public function of arrival_times has one answer and one lent memory. tools/contracts.py writes this file.
-- Assumes nothing.
use mathlib.Core.Path.{refl}
use base.Logic.{id⊢, emp}
use Rattle.arrival_times.specs.contracts.calls.arrival_times as calls_arrival_times
use Rattle.arrival_times.proofs.calls.arrival_times.Symbol as calls_arrival_times_symbol
use Rattle.arrival_times.proofs.calls.arrival_times.Met as calls_arrival_times_met
use Rattle.arrival_times.specs.contracts.listing.compute_safe_arrival_times as listing_compute_safe_arrival_times
use Rattle.arrival_times.proofs.listing.compute_safe_arrival_times.Symbol as listing_compute_safe_arrival_times_symbol
use Rattle.arrival_times.proofs.listing.compute_safe_arrival_times.Met as listing_compute_safe_arrival_times_met
use Rattle.arrival_times.specs.contracts.listing.ArrivalsPartialEq.eq as listing_arrivals_partial_eq_eq
use Rattle.arrival_times.proofs.listing.ArrivalsPartialEq.eq.Symbol as listing_arrivals_partial_eq_eq_symbol
use Rattle.arrival_times.proofs.listing.ArrivalsPartialEq.eq.Met as listing_arrivals_partial_eq_eq_met
use Rattle.arrival_times.specs.contracts.soonest.soonest_of as soonest_soonest_of
use Rattle.arrival_times.proofs.soonest.soonest_of.Symbol as soonest_soonest_of_symbol
use Rattle.arrival_times.proofs.soonest.soonest_of.Met as soonest_soonest_of_met
use Rattle.arrival_times.specs.contracts.sweep.sweep_from as sweep_sweep_from
use Rattle.arrival_times.proofs.sweep.sweep_from.Symbol as sweep_sweep_from_symbol
use Rattle.arrival_times.proofs.sweep.sweep_from.Met as sweep_sweep_from_met
use Rattle.arrival_times.specs.contracts.turn.turn_from as turn_turn_from
use Rattle.arrival_times.proofs.turn.turn_from.Symbol as turn_turn_from_symbol
use Rattle.arrival_times.proofs.turn.turn_from.Met as turn_turn_from_met
use Rattle.settling.specs.Determined.{Determined}
use Rattle.settling.proofs.Facts.{by_clause}
use Rattle.contracts.proofs.Rules.{one_answer}

pub calls_arrival_times_determined :
    Determined calls_arrival_times_symbol.code calls_arrival_times_symbol.name calls_arrival_times.ended (λ M 𝓤. calls_arrival_times.clauses)
calls_arrival_times_determined = record {
  met = λ M. calls_arrival_times_met.met;
  kept = refl;
  free = λ M 𝓤 𝓛 mem run κs a. (tt, id⊢ 𝓤 (emp 𝓤));
  one = λ M 𝓤 𝓛 mem run κs a g g' r r' left left' s s'.
      by_clause 𝓤 calls_arrival_times.ended κs a r r' left left' (λ p q. (search one_answer, search one_answer)) s s';
}

pub listing_compute_safe_arrival_times_determined :
    Determined listing_compute_safe_arrival_times_symbol.code listing_compute_safe_arrival_times_symbol.name listing_compute_safe_arrival_times.ended (λ M 𝓤. listing_compute_safe_arrival_times.clauses)
listing_compute_safe_arrival_times_determined = record {
  met = λ M. listing_compute_safe_arrival_times_met.met;
  kept = refl;
  free = λ M 𝓤 𝓛 mem run κs a. (tt, id⊢ 𝓤 (emp 𝓤));
  one = λ M 𝓤 𝓛 mem run κs a g g' r r' left left' s s'.
      by_clause 𝓤 listing_compute_safe_arrival_times.ended κs a r r' left left' (λ p q. (search one_answer, search one_answer)) s s';
}

pub listing_arrivals_partial_eq_eq_determined :
    Determined listing_arrivals_partial_eq_eq_symbol.code listing_arrivals_partial_eq_eq_symbol.name listing_arrivals_partial_eq_eq.ended (λ M 𝓤. listing_arrivals_partial_eq_eq.clauses)
listing_arrivals_partial_eq_eq_determined = record {
  met = λ M. listing_arrivals_partial_eq_eq_met.met;
  kept = refl;
  free = λ M 𝓤 𝓛 mem run κs a. (tt, id⊢ 𝓤 (emp 𝓤));
  one = λ M 𝓤 𝓛 mem run κs a g g' r r' left left' s s'.
      by_clause 𝓤 listing_arrivals_partial_eq_eq.ended κs a r r' left left' (λ p q. (search one_answer, search one_answer)) s s';
}

pub soonest_soonest_of_determined :
    Determined soonest_soonest_of_symbol.code soonest_soonest_of_symbol.name soonest_soonest_of.ended (λ M 𝓤. soonest_soonest_of.clauses)
soonest_soonest_of_determined = record {
  met = λ M. soonest_soonest_of_met.met;
  kept = refl;
  free = λ M 𝓤 𝓛 mem run κs a. (tt, id⊢ 𝓤 (emp 𝓤));
  one = λ M 𝓤 𝓛 mem run κs a g g' r r' left left' s s'.
      by_clause 𝓤 soonest_soonest_of.ended κs a r r' left left' (λ p q. (search one_answer, search one_answer)) s s';
}

pub sweep_sweep_from_determined :
    Determined sweep_sweep_from_symbol.code sweep_sweep_from_symbol.name sweep_sweep_from.ended (λ M 𝓤. sweep_sweep_from.clauses)
sweep_sweep_from_determined = record {
  met = λ M. sweep_sweep_from_met.met;
  kept = refl;
  free = λ M 𝓤 𝓛 mem run κs a. (tt, id⊢ 𝓤 (emp 𝓤));
  one = λ M 𝓤 𝓛 mem run κs a g g' r r' left left' s s'.
      by_clause 𝓤 sweep_sweep_from.ended κs a r r' left left' (λ p q. (search one_answer, search one_answer)) s s';
}

pub turn_turn_from_determined :
    Determined turn_turn_from_symbol.code turn_turn_from_symbol.name turn_turn_from.ended (λ M 𝓤. turn_turn_from.clauses)
turn_turn_from_determined = record {
  met = λ M. turn_turn_from_met.met;
  kept = refl;
  free = λ M 𝓤 𝓛 mem run κs a. (tt, id⊢ 𝓤 (emp 𝓤));
  one = λ M 𝓤 𝓛 mem run κs a g g' r r' left left' s s'.
      by_clause 𝓤 turn_turn_from.ended κs a r r' left left' (λ p q. (search one_answer, search one_answer)) s s';
}
