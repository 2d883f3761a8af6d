-- Each public function of hold_lines has one answer and one lent memory. tools/contracts.py writes this file.
-- Assumes nothing.
use mathlib.Core.Path.{refl}
use base.Logic.{id⊢, emp}
use Rattle.hold_lines.specs.contracts.place.step as place_step
use Rattle.hold_lines.proofs.place.step.Symbol as place_step_symbol
use Rattle.hold_lines.proofs.place.step.Met as place_step_met
use Rattle.hold_lines.specs.contracts.place.close as place_close
use Rattle.hold_lines.proofs.place.close.Symbol as place_close_symbol
use Rattle.hold_lines.proofs.place.close.Met as place_close_met
use Rattle.settling.specs.Determined.{Determined}
use Rattle.settling.proofs.Facts.{by_clause}
use Rattle.contracts.proofs.Rules.{one_answer}

pub place_step_determined :
    Determined place_step_symbol.code place_step_symbol.name place_step.ended (λ M 𝓤. place_step.clauses)
place_step_determined = record {
  met = λ M. place_step_met.met;
  kept = refl;
  free = λ M 𝓤 𝓛 mem run κs a. (tt, id⊢ 𝓤 (emp 𝓤));
  one = λ M 𝓤 𝓛 mem run κs a g g' r r' left left' s s'.
      by_clause 𝓤 place_step.ended κs a r r' left left' (λ p q. (search one_answer, search one_answer)) s s';
}

pub place_close_determined :
    Determined place_close_symbol.code place_close_symbol.name place_close.ended (λ M 𝓤. place_close.clauses)
place_close_determined = record {
  met = λ M. place_close_met.met;
  kept = refl;
  free = λ M 𝓤 𝓛 mem run κs a. (tt, id⊢ 𝓤 (emp 𝓤));
  one = λ M 𝓤 𝓛 mem run κs a g g' r r' left left' s s'.
      by_clause 𝓤 place_close.ended κs a r r' left left' (λ p q. (search one_answer, search one_answer)) s s';
}
