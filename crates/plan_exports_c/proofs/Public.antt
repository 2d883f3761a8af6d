-- Each public function of plan_exports_c has one answer and one lent memory. tools/contracts.py writes this file.
-- Assumes nothing.
use mathlib.Core.Path.{refl}
use base.Logic.{id⊢, emp}
use Rattle.plan_exports_c.specs.contracts.arrival_calls.igelbert_arrival_times as arrival_calls_igelbert_arrival_times
use Rattle.plan_exports_c.proofs.arrival_calls.igelbert_arrival_times.Symbol as arrival_calls_igelbert_arrival_times_symbol
use Rattle.plan_exports_c.proofs.arrival_calls.igelbert_arrival_times.Met as arrival_calls_igelbert_arrival_times_met
use Rattle.plan_exports_c.specs.contracts.hint_calls.igelbert_wait_hints as hint_calls_igelbert_wait_hints
use Rattle.plan_exports_c.proofs.hint_calls.igelbert_wait_hints.Symbol as hint_calls_igelbert_wait_hints_symbol
use Rattle.plan_exports_c.proofs.hint_calls.igelbert_wait_hints.Met as hint_calls_igelbert_wait_hints_met
use Rattle.plan_exports_c.specs.contracts.path_calls.igelbert_arrival_path as path_calls_igelbert_arrival_path
use Rattle.plan_exports_c.proofs.path_calls.igelbert_arrival_path.Symbol as path_calls_igelbert_arrival_path_symbol
use Rattle.plan_exports_c.proofs.path_calls.igelbert_arrival_path.Met as path_calls_igelbert_arrival_path_met
use Rattle.plan_exports_c.specs.contracts.plan_calls.igelbert_linear_paths as plan_calls_igelbert_linear_paths
use Rattle.plan_exports_c.proofs.plan_calls.igelbert_linear_paths.Symbol as plan_calls_igelbert_linear_paths_symbol
use Rattle.plan_exports_c.proofs.plan_calls.igelbert_linear_paths.Met as plan_calls_igelbert_linear_paths_met
use Rattle.plan_exports_c.specs.contracts.text_calls.igelbert_plan as text_calls_igelbert_plan
use Rattle.plan_exports_c.proofs.text_calls.igelbert_plan.Symbol as text_calls_igelbert_plan_symbol
use Rattle.plan_exports_c.proofs.text_calls.igelbert_plan.Met as text_calls_igelbert_plan_met
use Rattle.settling.specs.Determined.{Determined}
use Rattle.settling.proofs.Facts.{by_clause}
use Rattle.settling.proofs.Facts.{one_answer}

pub arrival_calls_igelbert_arrival_times_determined :
    Determined arrival_calls_igelbert_arrival_times_symbol.code arrival_calls_igelbert_arrival_times_symbol.name arrival_calls_igelbert_arrival_times.ended (λ M 𝓤. arrival_calls_igelbert_arrival_times.clauses)
arrival_calls_igelbert_arrival_times_determined = record {
  met = λ M. arrival_calls_igelbert_arrival_times_met.met;
  kept = refl;
  free = λ M 𝓤 𝓛 mem run κs a. (tt, id⊢ 𝓤 (emp 𝓤));
  one = λ M 𝓤 𝓛 mem run κs a g g' r r' left left' s s'.
      by_clause 𝓤 arrival_calls_igelbert_arrival_times.ended κs a r r' left left' (λ p q. (search one_answer, search one_answer)) s s';
}

pub hint_calls_igelbert_wait_hints_determined :
    Determined hint_calls_igelbert_wait_hints_symbol.code hint_calls_igelbert_wait_hints_symbol.name hint_calls_igelbert_wait_hints.ended (λ M 𝓤. hint_calls_igelbert_wait_hints.clauses)
hint_calls_igelbert_wait_hints_determined = record {
  met = λ M. hint_calls_igelbert_wait_hints_met.met;
  kept = refl;
  free = λ M 𝓤 𝓛 mem run κs a. (tt, id⊢ 𝓤 (emp 𝓤));
  one = λ M 𝓤 𝓛 mem run κs a g g' r r' left left' s s'.
      by_clause 𝓤 hint_calls_igelbert_wait_hints.ended κs a r r' left left' (λ p q. (search one_answer, search one_answer)) s s';
}

pub path_calls_igelbert_arrival_path_determined :
    Determined path_calls_igelbert_arrival_path_symbol.code path_calls_igelbert_arrival_path_symbol.name path_calls_igelbert_arrival_path.ended (λ M 𝓤. path_calls_igelbert_arrival_path.clauses)
path_calls_igelbert_arrival_path_determined = record {
  met = λ M. path_calls_igelbert_arrival_path_met.met;
  kept = refl;
  free = λ M 𝓤 𝓛 mem run κs a. (tt, id⊢ 𝓤 (emp 𝓤));
  one = λ M 𝓤 𝓛 mem run κs a g g' r r' left left' s s'.
      by_clause 𝓤 path_calls_igelbert_arrival_path.ended κs a r r' left left' (λ p q. (search one_answer, search one_answer)) s s';
}

pub plan_calls_igelbert_linear_paths_determined :
    Determined plan_calls_igelbert_linear_paths_symbol.code plan_calls_igelbert_linear_paths_symbol.name plan_calls_igelbert_linear_paths.ended (λ M 𝓤. plan_calls_igelbert_linear_paths.clauses)
plan_calls_igelbert_linear_paths_determined = record {
  met = λ M. plan_calls_igelbert_linear_paths_met.met;
  kept = refl;
  free = λ M 𝓤 𝓛 mem run κs a. (tt, id⊢ 𝓤 (emp 𝓤));
  one = λ M 𝓤 𝓛 mem run κs a g g' r r' left left' s s'.
      by_clause 𝓤 plan_calls_igelbert_linear_paths.ended κs a r r' left left' (λ p q. (search one_answer, search one_answer)) s s';
}

pub text_calls_igelbert_plan_determined :
    Determined text_calls_igelbert_plan_symbol.code text_calls_igelbert_plan_symbol.name text_calls_igelbert_plan.ended (λ M 𝓤. text_calls_igelbert_plan.clauses)
text_calls_igelbert_plan_determined = record {
  met = λ M. text_calls_igelbert_plan_met.met;
  kept = refl;
  free = λ M 𝓤 𝓛 mem run κs a. (tt, id⊢ 𝓤 (emp 𝓤));
  one = λ M 𝓤 𝓛 mem run κs a g g' r r' left left' s s'.
      by_clause 𝓤 text_calls_igelbert_plan.ended κs a r r' left left' (λ p q. (search one_answer, search one_answer)) s s';
}
