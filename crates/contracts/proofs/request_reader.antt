-- Each public function of request_reader has one answer and one lent memory. tools/contracts.py writes this file.
-- Assumes nothing.
use mathlib.Core.Path.{refl}
use base.Logic.{id⊢, emp}
use Rattle.request_reader.specs.contracts.calls.plan as calls_plan
use Rattle.request_reader.proofs.calls.plan.Symbol as calls_plan_symbol
use Rattle.request_reader.proofs.calls.plan.Met as calls_plan_met
use Rattle.settling.specs.Determined.{Determined}
use Rattle.settling.proofs.Facts.{by_clause}
use Rattle.contracts.proofs.Rules.{one_answer}

pub calls_plan_determined :
    Determined calls_plan_symbol.code calls_plan_symbol.name calls_plan.ended (λ M 𝓤. calls_plan.clauses)
calls_plan_determined = record {
  met = λ M. calls_plan_met.met;
  kept = refl;
  free = λ M 𝓤 𝓛 mem run κs a. (tt, id⊢ 𝓤 (emp 𝓤));
  one = λ M 𝓤 𝓛 mem run κs a g g' r r' left left' s s'.
      by_clause 𝓤 calls_plan.ended κs a r r' left left' (λ p q. (search one_answer, search one_answer)) s s';
}
