-- Each public function of hints has one answer and one lent memory. tools/contracts.py writes this file.
-- Assumes nothing.
use mathlib.Core.Path.{refl}
use base.Logic.{id⊢, emp}
use Rattle.hints.specs.contracts.calls.wait_hints as calls_wait_hints
use Rattle.hints.proofs.calls.wait_hints.Symbol as calls_wait_hints_symbol
use Rattle.hints.proofs.calls.wait_hints.Met as calls_wait_hints_met
use Rattle.hints.specs.contracts.contour.scale_of as contour_scale_of
use Rattle.hints.proofs.contour.scale_of.Symbol as contour_scale_of_symbol
use Rattle.hints.proofs.contour.scale_of.Met as contour_scale_of_met
use Rattle.hints.specs.contracts.contour.grade_of as contour_grade_of
use Rattle.hints.proofs.contour.grade_of.Symbol as contour_grade_of_symbol
use Rattle.hints.proofs.contour.grade_of.Met as contour_grade_of_met
use Rattle.hints.specs.contracts.path_hints.compute_safe_linear_path_wait_hints as path_hints_compute_safe_linear_path_wait_hints
use Rattle.hints.proofs.path_hints.compute_safe_linear_path_wait_hints.Symbol as path_hints_compute_safe_linear_path_wait_hints_symbol
use Rattle.hints.proofs.path_hints.compute_safe_linear_path_wait_hints.Met as path_hints_compute_safe_linear_path_wait_hints_met
use Rattle.settling.specs.Determined.{Determined}
use Rattle.settling.proofs.Facts.{by_clause}
use Rattle.contracts.proofs.Rules.{one_answer}

pub calls_wait_hints_determined :
    Determined calls_wait_hints_symbol.code calls_wait_hints_symbol.name calls_wait_hints.ended (λ M 𝓤. calls_wait_hints.clauses)
calls_wait_hints_determined = record {
  met = λ M. calls_wait_hints_met.met;
  kept = refl;
  free = λ M 𝓤 𝓛 mem run κs a. (tt, id⊢ 𝓤 (emp 𝓤));
  one = λ M 𝓤 𝓛 mem run κs a g g' r r' left left' s s'.
      by_clause 𝓤 calls_wait_hints.ended κs a r r' left left' (λ p q. (search one_answer, search one_answer)) s s';
}

pub contour_scale_of_determined :
    Determined contour_scale_of_symbol.code contour_scale_of_symbol.name contour_scale_of.ended (λ M 𝓤. contour_scale_of.clauses)
contour_scale_of_determined = record {
  met = λ M. contour_scale_of_met.met;
  kept = refl;
  free = λ M 𝓤 𝓛 mem run κs a. (tt, id⊢ 𝓤 (emp 𝓤));
  one = λ M 𝓤 𝓛 mem run κs a g g' r r' left left' s s'.
      by_clause 𝓤 contour_scale_of.ended κs a r r' left left' (λ p q. (search one_answer, search one_answer)) s s';
}

pub contour_grade_of_determined :
    Determined contour_grade_of_symbol.code contour_grade_of_symbol.name contour_grade_of.ended (λ M 𝓤. contour_grade_of.clauses)
contour_grade_of_determined = record {
  met = λ M. contour_grade_of_met.met;
  kept = refl;
  free = λ M 𝓤 𝓛 mem run κs a. (tt, id⊢ 𝓤 (emp 𝓤));
  one = λ M 𝓤 𝓛 mem run κs a g g' r r' left left' s s'.
      by_clause 𝓤 contour_grade_of.ended κs a r r' left left' (λ p q. (search one_answer, search one_answer)) s s';
}

pub path_hints_compute_safe_linear_path_wait_hints_determined :
    Determined path_hints_compute_safe_linear_path_wait_hints_symbol.code path_hints_compute_safe_linear_path_wait_hints_symbol.name path_hints_compute_safe_linear_path_wait_hints.ended (λ M 𝓤. path_hints_compute_safe_linear_path_wait_hints.clauses)
path_hints_compute_safe_linear_path_wait_hints_determined = record {
  met = λ M. path_hints_compute_safe_linear_path_wait_hints_met.met;
  kept = refl;
  free = λ M 𝓤 𝓛 mem run κs a. (tt, id⊢ 𝓤 (emp 𝓤));
  one = λ M 𝓤 𝓛 mem run κs a g g' r r' left left' s s'.
      by_clause 𝓤 path_hints_compute_safe_linear_path_wait_hints.ended κs a r r' left left' (λ p q. (search one_answer, search one_answer)) s s';
}
