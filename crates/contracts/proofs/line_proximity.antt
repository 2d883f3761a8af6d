-- Each public function of line_proximity has one answer and one lent memory. tools/contracts.py writes this file.
-- Assumes nothing.
use mathlib.Core.Path.{refl}
use base.Logic.{id⊢, emp}
use Rattle.line_proximity.specs.contracts.calls.stationary_proximity as calls_stationary_proximity
use Rattle.line_proximity.proofs.calls.stationary_proximity.Symbol as calls_stationary_proximity_symbol
use Rattle.line_proximity.proofs.calls.stationary_proximity.Met as calls_stationary_proximity_met
use Rattle.line_proximity.specs.contracts.near_line.compute_quadratic_wait_hints as near_line_compute_quadratic_wait_hints
use Rattle.line_proximity.proofs.near_line.compute_quadratic_wait_hints.Symbol as near_line_compute_quadratic_wait_hints_symbol
use Rattle.line_proximity.proofs.near_line.compute_quadratic_wait_hints.Met as near_line_compute_quadratic_wait_hints_met
use Rattle.line_proximity.specs.contracts.stationary.compute_stationary_proximity as stationary_compute_stationary_proximity
use Rattle.line_proximity.proofs.stationary.compute_stationary_proximity.Symbol as stationary_compute_stationary_proximity_symbol
use Rattle.line_proximity.proofs.stationary.compute_stationary_proximity.Met as stationary_compute_stationary_proximity_met
use Rattle.settling.specs.Determined.{Determined}
use Rattle.settling.proofs.Facts.{by_clause}
use Rattle.contracts.proofs.Rules.{one_answer}

pub calls_stationary_proximity_determined :
    Determined calls_stationary_proximity_symbol.code calls_stationary_proximity_symbol.name calls_stationary_proximity.ended (λ M 𝓤. calls_stationary_proximity.clauses)
calls_stationary_proximity_determined = record {
  met = λ M. calls_stationary_proximity_met.met;
  kept = refl;
  free = λ M 𝓤 𝓛 mem run κs a. (tt, id⊢ 𝓤 (emp 𝓤));
  one = λ M 𝓤 𝓛 mem run κs a g g' r r' left left' s s'.
      by_clause 𝓤 calls_stationary_proximity.ended κs a r r' left left' (λ p q. (search one_answer, search one_answer)) s s';
}

pub near_line_compute_quadratic_wait_hints_determined :
    Determined near_line_compute_quadratic_wait_hints_symbol.code near_line_compute_quadratic_wait_hints_symbol.name near_line_compute_quadratic_wait_hints.ended (λ M 𝓤. near_line_compute_quadratic_wait_hints.clauses)
near_line_compute_quadratic_wait_hints_determined = record {
  met = λ M. near_line_compute_quadratic_wait_hints_met.met;
  kept = refl;
  free = λ M 𝓤 𝓛 mem run κs a. (tt, id⊢ 𝓤 (emp 𝓤));
  one = λ M 𝓤 𝓛 mem run κs a g g' r r' left left' s s'.
      by_clause 𝓤 near_line_compute_quadratic_wait_hints.ended κs a r r' left left' (λ p q. (search one_answer, search one_answer)) s s';
}

pub stationary_compute_stationary_proximity_determined :
    Determined stationary_compute_stationary_proximity_symbol.code stationary_compute_stationary_proximity_symbol.name stationary_compute_stationary_proximity.ended (λ M 𝓤. stationary_compute_stationary_proximity.clauses)
stationary_compute_stationary_proximity_determined = record {
  met = λ M. stationary_compute_stationary_proximity_met.met;
  kept = refl;
  free = λ M 𝓤 𝓛 mem run κs a. (tt, id⊢ 𝓤 (emp 𝓤));
  one = λ M 𝓤 𝓛 mem run κs a g g' r r' left left' s s'.
      by_clause 𝓤 stationary_compute_stationary_proximity.ended κs a r r' left left' (λ p q. (search one_answer, search one_answer)) s s';
}
