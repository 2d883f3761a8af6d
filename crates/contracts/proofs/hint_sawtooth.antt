-- Each public function of hint_sawtooth has one answer and one lent memory. tools/contracts.py writes this file.
-- Assumes nothing.
use mathlib.Core.Path.{refl}
use base.Logic.{id⊢, emp}
use Rattle.hint_sawtooth.specs.contracts.rounds.rounds as rounds_rounds
use Rattle.hint_sawtooth.proofs.rounds.rounds.Symbol as rounds_rounds_symbol
use Rattle.hint_sawtooth.proofs.rounds.rounds.Met as rounds_rounds_met
use Rattle.settling.specs.Determined.{Determined}
use Rattle.settling.proofs.Facts.{by_clause}
use Rattle.contracts.proofs.Rules.{one_answer}

pub rounds_rounds_determined :
    Determined rounds_rounds_symbol.code rounds_rounds_symbol.name rounds_rounds.ended (λ M 𝓤. rounds_rounds.clauses)
rounds_rounds_determined = record {
  met = λ M. rounds_rounds_met.met;
  kept = refl;
  free = λ M 𝓤 𝓛 mem run κs a. (tt, id⊢ 𝓤 (emp 𝓤));
  one = λ M 𝓤 𝓛 mem run κs a g g' r r' left left' s s'.
      by_clause 𝓤 rounds_rounds.ended κs a r r' left left' (λ p q. (search one_answer, search one_answer)) s s';
}
