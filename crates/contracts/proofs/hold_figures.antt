-- Each public function of hold_figures has one answer and one lent memory. tools/contracts.py writes this file.
-- Assumes nothing.
use mathlib.Core.Path.{refl}
use base.Logic.{id⊢, emp}
use Rattle.hold_figures.specs.contracts.figures.count_round as figures_count_round
use Rattle.hold_figures.proofs.figures.count_round.Symbol as figures_count_round_symbol
use Rattle.hold_figures.proofs.figures.count_round.Met as figures_count_round_met
use Rattle.settling.specs.Determined.{Determined}
use Rattle.settling.proofs.Facts.{by_clause}
use Rattle.contracts.proofs.Rules.{one_answer}

pub figures_count_round_determined :
    Determined figures_count_round_symbol.code figures_count_round_symbol.name figures_count_round.ended (λ M 𝓤. figures_count_round.clauses)
figures_count_round_determined = record {
  met = λ M. figures_count_round_met.met;
  kept = refl;
  free = λ M 𝓤 𝓛 mem run κs a. (tt, id⊢ 𝓤 (emp 𝓤));
  one = λ M 𝓤 𝓛 mem run κs a g g' r r' left left' s s'.
      by_clause 𝓤 figures_count_round.ended κs a r r' left left' (λ p q. (search one_answer, search one_answer)) s s';
}
