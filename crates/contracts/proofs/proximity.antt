-- Each public function of proximity has one answer and one lent memory. tools/contracts.py writes this file.
-- Assumes nothing.
use mathlib.Core.Path.{refl}
use base.Logic.{id⊢, emp}
use Rattle.proximity.specs.contracts.calls.position as calls_position
use Rattle.proximity.proofs.calls.position.Symbol as calls_position_symbol
use Rattle.proximity.proofs.calls.position.Met as calls_position_met
use Rattle.proximity.specs.contracts.calls.examine_legs as calls_examine_legs
use Rattle.proximity.proofs.calls.examine_legs.Symbol as calls_examine_legs_symbol
use Rattle.proximity.proofs.calls.examine_legs.Met as calls_examine_legs_met
use Rattle.proximity.specs.contracts.calls.proximity as calls_proximity
use Rattle.proximity.proofs.calls.proximity.Symbol as calls_proximity_symbol
use Rattle.proximity.proofs.calls.proximity.Met as calls_proximity_met
use Rattle.proximity.specs.contracts.detect.Proximity.entry as detect_proximity_entry
use Rattle.proximity.proofs.detect.Proximity.entry.Symbol as detect_proximity_entry_symbol
use Rattle.proximity.proofs.detect.Proximity.entry.Met as detect_proximity_entry_met
use Rattle.proximity.specs.contracts.detect.range_start as detect_range_start
use Rattle.proximity.proofs.detect.range_start.Symbol as detect_range_start_symbol
use Rattle.proximity.proofs.detect.range_start.Met as detect_range_start_met
use Rattle.proximity.specs.contracts.detect.range_end as detect_range_end
use Rattle.proximity.proofs.detect.range_end.Symbol as detect_range_end_symbol
use Rattle.proximity.proofs.detect.range_end.Met as detect_range_end_met
use Rattle.proximity.specs.contracts.detect.detect_proximity as detect_detect_proximity
use Rattle.proximity.proofs.detect.detect_proximity.Symbol as detect_detect_proximity_symbol
use Rattle.proximity.proofs.detect.detect_proximity.Met as detect_detect_proximity_met
use Rattle.proximity.specs.contracts.detect.ProximityPartialEq.eq as detect_proximity_partial_eq_eq
use Rattle.proximity.proofs.detect.ProximityPartialEq.eq.Symbol as detect_proximity_partial_eq_eq_symbol
use Rattle.proximity.proofs.detect.ProximityPartialEq.eq.Met as detect_proximity_partial_eq_eq_met
use Rattle.settling.specs.Determined.{Determined}
use Rattle.settling.proofs.Facts.{by_clause}
use Rattle.contracts.proofs.Rules.{one_answer}

pub calls_position_determined :
    Determined calls_position_symbol.code calls_position_symbol.name calls_position.ended (λ M 𝓤. calls_position.clauses)
calls_position_determined = record {
  met = λ M. calls_position_met.met;
  kept = refl;
  free = λ M 𝓤 𝓛 mem run κs a. (tt, id⊢ 𝓤 (emp 𝓤));
  one = λ M 𝓤 𝓛 mem run κs a g g' r r' left left' s s'.
      by_clause 𝓤 calls_position.ended κs a r r' left left' (λ p q. (search one_answer, search one_answer)) s s';
}

pub calls_examine_legs_determined :
    Determined calls_examine_legs_symbol.code calls_examine_legs_symbol.name calls_examine_legs.ended (λ M 𝓤. calls_examine_legs.clauses)
calls_examine_legs_determined = record {
  met = λ M. calls_examine_legs_met.met;
  kept = refl;
  free = λ M 𝓤 𝓛 mem run κs a. (tt, id⊢ 𝓤 (emp 𝓤));
  one = λ M 𝓤 𝓛 mem run κs a g g' r r' left left' s s'.
      by_clause 𝓤 calls_examine_legs.ended κs a r r' left left' (λ p q. (search one_answer, search one_answer)) s s';
}

pub calls_proximity_determined :
    Determined calls_proximity_symbol.code calls_proximity_symbol.name calls_proximity.ended (λ M 𝓤. calls_proximity.clauses)
calls_proximity_determined = record {
  met = λ M. calls_proximity_met.met;
  kept = refl;
  free = λ M 𝓤 𝓛 mem run κs a. (tt, id⊢ 𝓤 (emp 𝓤));
  one = λ M 𝓤 𝓛 mem run κs a g g' r r' left left' s s'.
      by_clause 𝓤 calls_proximity.ended κs a r r' left left' (λ p q. (search one_answer, search one_answer)) s s';
}

pub detect_proximity_entry_determined :
    Determined detect_proximity_entry_symbol.code detect_proximity_entry_symbol.name detect_proximity_entry.ended (λ M 𝓤. detect_proximity_entry.clauses)
detect_proximity_entry_determined = record {
  met = λ M. detect_proximity_entry_met.met;
  kept = refl;
  free = λ M 𝓤 𝓛 mem run κs a. (tt, id⊢ 𝓤 (emp 𝓤));
  one = λ M 𝓤 𝓛 mem run κs a g g' r r' left left' s s'.
      by_clause 𝓤 detect_proximity_entry.ended κs a r r' left left' (λ p q. (search one_answer, search one_answer)) s s';
}

pub detect_range_start_determined :
    Determined detect_range_start_symbol.code detect_range_start_symbol.name detect_range_start.ended (λ M 𝓤. detect_range_start.clauses)
detect_range_start_determined = record {
  met = λ M. detect_range_start_met.met;
  kept = refl;
  free = λ M 𝓤 𝓛 mem run κs a. (tt, id⊢ 𝓤 (emp 𝓤));
  one = λ M 𝓤 𝓛 mem run κs a g g' r r' left left' s s'.
      by_clause 𝓤 detect_range_start.ended κs a r r' left left' (λ p q. (search one_answer, search one_answer)) s s';
}

pub detect_range_end_determined :
    Determined detect_range_end_symbol.code detect_range_end_symbol.name detect_range_end.ended (λ M 𝓤. detect_range_end.clauses)
detect_range_end_determined = record {
  met = λ M. detect_range_end_met.met;
  kept = refl;
  free = λ M 𝓤 𝓛 mem run κs a. (tt, id⊢ 𝓤 (emp 𝓤));
  one = λ M 𝓤 𝓛 mem run κs a g g' r r' left left' s s'.
      by_clause 𝓤 detect_range_end.ended κs a r r' left left' (λ p q. (search one_answer, search one_answer)) s s';
}

pub detect_detect_proximity_determined :
    Determined detect_detect_proximity_symbol.code detect_detect_proximity_symbol.name detect_detect_proximity.ended (λ M 𝓤. detect_detect_proximity.clauses)
detect_detect_proximity_determined = record {
  met = λ M. detect_detect_proximity_met.met;
  kept = refl;
  free = λ M 𝓤 𝓛 mem run κs a. (tt, id⊢ 𝓤 (emp 𝓤));
  one = λ M 𝓤 𝓛 mem run κs a g g' r r' left left' s s'.
      by_clause 𝓤 detect_detect_proximity.ended κs a r r' left left' (λ p q. (search one_answer, search one_answer)) s s';
}

pub detect_proximity_partial_eq_eq_determined :
    Determined detect_proximity_partial_eq_eq_symbol.code detect_proximity_partial_eq_eq_symbol.name detect_proximity_partial_eq_eq.ended (λ M 𝓤. detect_proximity_partial_eq_eq.clauses)
detect_proximity_partial_eq_eq_determined = record {
  met = λ M. detect_proximity_partial_eq_eq_met.met;
  kept = refl;
  free = λ M 𝓤 𝓛 mem run κs a. (tt, id⊢ 𝓤 (emp 𝓤));
  one = λ M 𝓤 𝓛 mem run κs a g g' r r' left left' s s'.
      by_clause 𝓤 detect_proximity_partial_eq_eq.ended κs a r r' left left' (λ p q. (search one_answer, search one_answer)) s s';
}
