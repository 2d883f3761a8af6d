-- Each public function of table_checks has one answer and one lent memory. tools/contracts.py writes this file.
-- Assumes nothing.
use mathlib.Core.Path.{refl}
use base.Logic.{id⊢, emp}
use Rattle.table_checks.specs.contracts.calls.box_of_obstacle as calls_box_of_obstacle
use Rattle.table_checks.proofs.calls.box_of_obstacle.Symbol as calls_box_of_obstacle_symbol
use Rattle.table_checks.proofs.calls.box_of_obstacle.Met as calls_box_of_obstacle_met
use Rattle.table_checks.specs.contracts.examine.is_shaped as examine_is_shaped
use Rattle.table_checks.proofs.examine.is_shaped.Symbol as examine_is_shaped_symbol
use Rattle.table_checks.proofs.examine.is_shaped.Met as examine_is_shaped_met
use Rattle.table_checks.specs.contracts.examine.are_allowed as examine_are_allowed
use Rattle.table_checks.proofs.examine.are_allowed.Symbol as examine_are_allowed_symbol
use Rattle.table_checks.proofs.examine.are_allowed.Met as examine_are_allowed_met
use Rattle.table_checks.specs.contracts.examine.examine as examine_examine
use Rattle.table_checks.proofs.examine.examine.Symbol as examine_examine_symbol
use Rattle.table_checks.proofs.examine.examine.Met as examine_examine_met
use Rattle.settling.specs.Determined.{Determined}
use Rattle.settling.proofs.Facts.{by_clause}
use Rattle.contracts.proofs.Rules.{one_answer}

pub calls_box_of_obstacle_determined :
    Determined calls_box_of_obstacle_symbol.code calls_box_of_obstacle_symbol.name calls_box_of_obstacle.ended (λ M 𝓤. calls_box_of_obstacle.clauses)
calls_box_of_obstacle_determined = record {
  met = λ M. calls_box_of_obstacle_met.met;
  kept = refl;
  free = λ M 𝓤 𝓛 mem run κs a. (tt, id⊢ 𝓤 (emp 𝓤));
  one = λ M 𝓤 𝓛 mem run κs a g g' r r' left left' s s'.
      by_clause 𝓤 calls_box_of_obstacle.ended κs a r r' left left' (λ p q. (search one_answer, search one_answer)) s s';
}

pub examine_is_shaped_determined :
    Determined examine_is_shaped_symbol.code examine_is_shaped_symbol.name examine_is_shaped.ended (λ M 𝓤. examine_is_shaped.clauses)
examine_is_shaped_determined = record {
  met = λ M. examine_is_shaped_met.met;
  kept = refl;
  free = λ M 𝓤 𝓛 mem run κs a. (tt, id⊢ 𝓤 (emp 𝓤));
  one = λ M 𝓤 𝓛 mem run κs a g g' r r' left left' s s'.
      by_clause 𝓤 examine_is_shaped.ended κs a r r' left left' (λ p q. (search one_answer, search one_answer)) s s';
}

pub examine_are_allowed_determined :
    Determined examine_are_allowed_symbol.code examine_are_allowed_symbol.name examine_are_allowed.ended (λ M 𝓤. examine_are_allowed.clauses)
examine_are_allowed_determined = record {
  met = λ M. examine_are_allowed_met.met;
  kept = refl;
  free = λ M 𝓤 𝓛 mem run κs a. (tt, id⊢ 𝓤 (emp 𝓤));
  one = λ M 𝓤 𝓛 mem run κs a g g' r r' left left' s s'.
      by_clause 𝓤 examine_are_allowed.ended κs a r r' left left' (λ p q. (search one_answer, search one_answer)) s s';
}

pub examine_examine_determined :
    Determined examine_examine_symbol.code examine_examine_symbol.name examine_examine.ended (λ M 𝓤. examine_examine.clauses)
examine_examine_determined = record {
  met = λ M. examine_examine_met.met;
  kept = refl;
  free = λ M 𝓤 𝓛 mem run κs a. (tt, id⊢ 𝓤 (emp 𝓤));
  one = λ M 𝓤 𝓛 mem run κs a g g' r r' left left' s s'.
      by_clause 𝓤 examine_examine.ended κs a r r' left left' (λ p q. (search one_answer, search one_answer)) s s';
}
