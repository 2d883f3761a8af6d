-- Each public function of path_roots has one answer and one lent memory. tools/contracts.py writes this file.
-- Assumes nothing.
use mathlib.Core.Path.{refl}
use base.Logic.{id⊢, emp}
use Rattle.path_roots.specs.contracts.roots.goal_contour as roots_goal_contour
use Rattle.path_roots.proofs.roots.goal_contour.Symbol as roots_goal_contour_symbol
use Rattle.path_roots.proofs.roots.goal_contour.Met as roots_goal_contour_met
use Rattle.path_roots.specs.contracts.roots.first_root as roots_first_root
use Rattle.path_roots.proofs.roots.first_root.Symbol as roots_first_root_symbol
use Rattle.path_roots.proofs.roots.first_root.Met as roots_first_root_met
use Rattle.settling.specs.Determined.{Determined}
use Rattle.settling.proofs.Facts.{by_clause}
use Rattle.contracts.proofs.Rules.{one_answer}

pub roots_goal_contour_determined :
    Determined roots_goal_contour_symbol.code roots_goal_contour_symbol.name roots_goal_contour.ended (λ M 𝓤. roots_goal_contour.clauses)
roots_goal_contour_determined = record {
  met = λ M. roots_goal_contour_met.met;
  kept = refl;
  free = λ M 𝓤 𝓛 mem run κs a. (tt, id⊢ 𝓤 (emp 𝓤));
  one = λ M 𝓤 𝓛 mem run κs a g g' r r' left left' s s'.
      by_clause 𝓤 roots_goal_contour.ended κs a r r' left left' (λ p q. (search one_answer, search one_answer)) s s';
}

pub roots_first_root_determined :
    Determined roots_first_root_symbol.code roots_first_root_symbol.name roots_first_root.ended (λ M 𝓤. roots_first_root.clauses)
roots_first_root_determined = record {
  met = λ M. roots_first_root_met.met;
  kept = refl;
  free = λ M 𝓤 𝓛 mem run κs a. (tt, id⊢ 𝓤 (emp 𝓤));
  one = λ M 𝓤 𝓛 mem run κs a g g' r r' left left' s s'.
      by_clause 𝓤 roots_first_root.ended κs a r r' left left' (λ p q. (search one_answer, search one_answer)) s s';
}
