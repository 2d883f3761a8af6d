-- Each public function of plan_making has one answer and one lent memory. tools/contracts.py writes this file.
-- Assumes nothing.
use mathlib.Core.Path.{refl}
use base.Logic.{id⊢, emp}
use Rattle.plan_making.specs.contracts.calls.plan_table as calls_plan_table
use Rattle.plan_making.proofs.calls.plan_table.Symbol as calls_plan_table_symbol
use Rattle.plan_making.proofs.calls.plan_table.Met as calls_plan_table_met
use Rattle.plan_making.specs.contracts.calls.linear_paths as calls_linear_paths
use Rattle.plan_making.proofs.calls.linear_paths.Symbol as calls_linear_paths_symbol
use Rattle.plan_making.proofs.calls.linear_paths.Met as calls_linear_paths_met
use Rattle.settling.specs.Determined.{Determined}
use Rattle.settling.proofs.Facts.{by_clause}
use Rattle.contracts.proofs.Rules.{one_answer}

pub calls_plan_table_determined :
    Determined calls_plan_table_symbol.code calls_plan_table_symbol.name calls_plan_table.ended (λ M 𝓤. calls_plan_table.clauses)
calls_plan_table_determined = record {
  met = λ M. calls_plan_table_met.met;
  kept = refl;
  free = λ M 𝓤 𝓛 mem run κs a. (tt, id⊢ 𝓤 (emp 𝓤));
  one = λ M 𝓤 𝓛 mem run κs a g g' r r' left left' s s'.
      by_clause 𝓤 calls_plan_table.ended κs a r r' left left' (λ p q. (search one_answer, search one_answer)) s s';
}

pub calls_linear_paths_determined :
    Determined calls_linear_paths_symbol.code calls_linear_paths_symbol.name calls_linear_paths.ended (λ M 𝓤. calls_linear_paths.clauses)
calls_linear_paths_determined = record {
  met = λ M. calls_linear_paths_met.met;
  kept = refl;
  free = λ M 𝓤 𝓛 mem run κs a. (tt, id⊢ 𝓤 (emp 𝓤));
  one = λ M 𝓤 𝓛 mem run κs a g g' r r' left left' s s'.
      by_clause 𝓤 calls_linear_paths.ended κs a r r' left left' (λ p q. (search one_answer, search one_answer)) s s';
}
