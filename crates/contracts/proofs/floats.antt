-- Each public function of floats has one answer and one lent memory. tools/contracts.py writes this file.
-- Assumes nothing.
use mathlib.Core.Path.{refl}
use base.Logic.{id⊢, emp}
use Rattle.floats.specs.contracts.comparison.larger as comparison_larger
use Rattle.floats.proofs.comparison.larger.Symbol as comparison_larger_symbol
use Rattle.floats.proofs.comparison.larger.Met as comparison_larger_met
use Rattle.floats.specs.contracts.comparison.smaller as comparison_smaller
use Rattle.floats.proofs.comparison.smaller.Symbol as comparison_smaller_symbol
use Rattle.floats.proofs.comparison.smaller.Met as comparison_smaller_met
use Rattle.floats.specs.contracts.comparison.is_between as comparison_is_between
use Rattle.floats.proofs.comparison.is_between.Symbol as comparison_is_between_symbol
use Rattle.floats.proofs.comparison.is_between.Met as comparison_is_between_met
use Rattle.floats.specs.contracts.comparison.size as comparison_size
use Rattle.floats.proofs.comparison.size.Symbol as comparison_size_symbol
use Rattle.floats.proofs.comparison.size.Met as comparison_size_met
use Rattle.settling.specs.Determined.{Determined}
use Rattle.settling.proofs.Facts.{by_clause}
use Rattle.contracts.proofs.Rules.{one_answer}

pub comparison_larger_determined :
    Determined comparison_larger_symbol.code comparison_larger_symbol.name comparison_larger.ended (λ M 𝓤. comparison_larger.clauses)
comparison_larger_determined = record {
  met = λ M. comparison_larger_met.met;
  kept = refl;
  free = λ M 𝓤 𝓛 mem run κs a. (tt, id⊢ 𝓤 (emp 𝓤));
  one = λ M 𝓤 𝓛 mem run κs a g g' r r' left left' s s'.
      by_clause 𝓤 comparison_larger.ended κs a r r' left left' (λ p q. (search one_answer, search one_answer)) s s';
}

pub comparison_smaller_determined :
    Determined comparison_smaller_symbol.code comparison_smaller_symbol.name comparison_smaller.ended (λ M 𝓤. comparison_smaller.clauses)
comparison_smaller_determined = record {
  met = λ M. comparison_smaller_met.met;
  kept = refl;
  free = λ M 𝓤 𝓛 mem run κs a. (tt, id⊢ 𝓤 (emp 𝓤));
  one = λ M 𝓤 𝓛 mem run κs a g g' r r' left left' s s'.
      by_clause 𝓤 comparison_smaller.ended κs a r r' left left' (λ p q. (search one_answer, search one_answer)) s s';
}

pub comparison_is_between_determined :
    Determined comparison_is_between_symbol.code comparison_is_between_symbol.name comparison_is_between.ended (λ M 𝓤. comparison_is_between.clauses)
comparison_is_between_determined = record {
  met = λ M. comparison_is_between_met.met;
  kept = refl;
  free = λ M 𝓤 𝓛 mem run κs a. (tt, id⊢ 𝓤 (emp 𝓤));
  one = λ M 𝓤 𝓛 mem run κs a g g' r r' left left' s s'.
      by_clause 𝓤 comparison_is_between.ended κs a r r' left left' (λ p q. (search one_answer, search one_answer)) s s';
}

pub comparison_size_determined :
    Determined comparison_size_symbol.code comparison_size_symbol.name comparison_size.ended (λ M 𝓤. comparison_size.clauses)
comparison_size_determined = record {
  met = λ M. comparison_size_met.met;
  kept = refl;
  free = λ M 𝓤 𝓛 mem run κs a. (tt, id⊢ 𝓤 (emp 𝓤));
  one = λ M 𝓤 𝓛 mem run κs a g g' r r' left left' s s'.
      by_clause 𝓤 comparison_size.ended κs a r r' left left' (λ p q. (search one_answer, search one_answer)) s s';
}
