-- Each public function of path_actions has one answer and one lent memory. tools/contracts.py writes this file.
-- Assumes nothing.
use mathlib.Core.Path.{refl}
use base.Logic.{id⊢, emp}
use Rattle.path_actions.specs.contracts.action.put_action as action_put_action
use Rattle.path_actions.proofs.action.put_action.Symbol as action_put_action_symbol
use Rattle.path_actions.proofs.action.put_action.Met as action_put_action_met
use Rattle.path_actions.specs.contracts.building.build as building_build
use Rattle.path_actions.proofs.building.build.Symbol as building_build_symbol
use Rattle.path_actions.proofs.building.build.Met as building_build_met
use Rattle.settling.specs.Determined.{Determined}
use Rattle.settling.proofs.Facts.{by_clause}
use Rattle.contracts.proofs.Rules.{one_answer}

pub action_put_action_determined :
    Determined action_put_action_symbol.code action_put_action_symbol.name action_put_action.ended (λ M 𝓤. action_put_action.clauses)
action_put_action_determined = record {
  met = λ M. action_put_action_met.met;
  kept = refl;
  free = λ M 𝓤 𝓛 mem run κs a. (tt, id⊢ 𝓤 (emp 𝓤));
  one = λ M 𝓤 𝓛 mem run κs a g g' r r' left left' s s'.
      by_clause 𝓤 action_put_action.ended κs a r r' left left' (λ p q. (search one_answer, search one_answer)) s s';
}

pub building_build_determined :
    Determined building_build_symbol.code building_build_symbol.name building_build.ended (λ M 𝓤. building_build.clauses)
building_build_determined = record {
  met = λ M. building_build_met.met;
  kept = refl;
  free = λ M 𝓤 𝓛 mem run κs a. (tt, id⊢ 𝓤 (emp 𝓤));
  one = λ M 𝓤 𝓛 mem run κs a g g' r r' left left' s s'.
      by_clause 𝓤 building_build.ended κs a r r' left left' (λ p q. (search one_answer, search one_answer)) s s';
}
