-- Each public function of one_path has one answer and one lent memory. tools/contracts.py writes this file.
-- Assumes nothing.
use mathlib.Core.Path.{refl}
use base.Logic.{id⊢, emp}
use Rattle.one_path.specs.contracts.arrival_path.compute_safe_arrival_path as arrival_path_compute_safe_arrival_path
use Rattle.one_path.proofs.arrival_path.compute_safe_arrival_path.Symbol as arrival_path_compute_safe_arrival_path_symbol
use Rattle.one_path.proofs.arrival_path.compute_safe_arrival_path.Met as arrival_path_compute_safe_arrival_path_met
use Rattle.one_path.specs.contracts.arrival_path.FoundPartialEq.eq as arrival_path_found_partial_eq_eq
use Rattle.one_path.proofs.arrival_path.FoundPartialEq.eq.Symbol as arrival_path_found_partial_eq_eq_symbol
use Rattle.one_path.proofs.arrival_path.FoundPartialEq.eq.Met as arrival_path_found_partial_eq_eq_met
use Rattle.settling.specs.Determined.{Determined}
use Rattle.settling.proofs.Facts.{by_clause}
use Rattle.contracts.proofs.Rules.{one_answer}

pub arrival_path_compute_safe_arrival_path_determined :
    Determined arrival_path_compute_safe_arrival_path_symbol.code arrival_path_compute_safe_arrival_path_symbol.name arrival_path_compute_safe_arrival_path.ended (λ M 𝓤. arrival_path_compute_safe_arrival_path.clauses)
arrival_path_compute_safe_arrival_path_determined = record {
  met = λ M. arrival_path_compute_safe_arrival_path_met.met;
  kept = refl;
  free = λ M 𝓤 𝓛 mem run κs a. (tt, id⊢ 𝓤 (emp 𝓤));
  one = λ M 𝓤 𝓛 mem run κs a g g' r r' left left' s s'.
      by_clause 𝓤 arrival_path_compute_safe_arrival_path.ended κs a r r' left left' (λ p q. (search one_answer, search one_answer)) s s';
}

pub arrival_path_found_partial_eq_eq_determined :
    Determined arrival_path_found_partial_eq_eq_symbol.code arrival_path_found_partial_eq_eq_symbol.name arrival_path_found_partial_eq_eq.ended (λ M 𝓤. arrival_path_found_partial_eq_eq.clauses)
arrival_path_found_partial_eq_eq_determined = record {
  met = λ M. arrival_path_found_partial_eq_eq_met.met;
  kept = refl;
  free = λ M 𝓤 𝓛 mem run κs a. (tt, id⊢ 𝓤 (emp 𝓤));
  one = λ M 𝓤 𝓛 mem run κs a g g' r r' left left' s s'.
      by_clause 𝓤 arrival_path_found_partial_eq_eq.ended κs a r r' left left' (λ p q. (search one_answer, search one_answer)) s s';
}
