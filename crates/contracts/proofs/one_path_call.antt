-- Each public function of one_path_call has one answer and one lent memory. tools/contracts.py writes this file.
-- Assumes nothing.
use mathlib.Core.Path.{refl}
use base.Logic.{id⊢, emp}
use Rattle.one_path_call.specs.contracts.calls.arrival_path as calls_arrival_path
use Rattle.one_path_call.proofs.calls.arrival_path.Symbol as calls_arrival_path_symbol
use Rattle.one_path_call.proofs.calls.arrival_path.Met as calls_arrival_path_met
use Rattle.settling.specs.Determined.{Determined}
use Rattle.settling.proofs.Facts.{by_clause}
use Rattle.contracts.proofs.Rules.{one_answer}

pub calls_arrival_path_determined :
    Determined calls_arrival_path_symbol.code calls_arrival_path_symbol.name calls_arrival_path.ended (λ M 𝓤. calls_arrival_path.clauses)
calls_arrival_path_determined = record {
  met = λ M. calls_arrival_path_met.met;
  kept = refl;
  free = λ M 𝓤 𝓛 mem run κs a. (tt, id⊢ 𝓤 (emp 𝓤));
  one = λ M 𝓤 𝓛 mem run κs a g g' r r' left left' s s'.
      by_clause 𝓤 calls_arrival_path.ended κs a r r' left left' (λ p q. (search one_answer, search one_answer)) s s';
}
