-- Each public function of hint_walk has one answer and one lent memory. tools/contracts.py writes this file.
-- Assumes nothing.
use mathlib.Core.Path.{refl}
use base.Logic.{id⊢, emp}
use Rattle.hint_walk.specs.contracts.leg_hints.with_leg as leg_hints_with_leg
use Rattle.hint_walk.proofs.leg_hints.with_leg.Symbol as leg_hints_with_leg_symbol
use Rattle.hint_walk.proofs.leg_hints.with_leg.Met as leg_hints_with_leg_met
use Rattle.hint_walk.specs.contracts.leg_hints.PartPartialEq.eq as leg_hints_part_partial_eq_eq
use Rattle.hint_walk.proofs.leg_hints.PartPartialEq.eq.Symbol as leg_hints_part_partial_eq_eq_symbol
use Rattle.hint_walk.proofs.leg_hints.PartPartialEq.eq.Met as leg_hints_part_partial_eq_eq_met
use Rattle.hint_walk.specs.contracts.walk.compute_wait_hints as walk_compute_wait_hints
use Rattle.hint_walk.proofs.walk.compute_wait_hints.Symbol as walk_compute_wait_hints_symbol
use Rattle.hint_walk.proofs.walk.compute_wait_hints.Met as walk_compute_wait_hints_met
use Rattle.settling.specs.Determined.{Determined}
use Rattle.settling.proofs.Facts.{by_clause}
use Rattle.contracts.proofs.Rules.{one_answer}

pub leg_hints_with_leg_determined :
    Determined leg_hints_with_leg_symbol.code leg_hints_with_leg_symbol.name leg_hints_with_leg.ended (λ M 𝓤. leg_hints_with_leg.clauses)
leg_hints_with_leg_determined = record {
  met = λ M. leg_hints_with_leg_met.met;
  kept = refl;
  free = λ M 𝓤 𝓛 mem run κs a. (tt, id⊢ 𝓤 (emp 𝓤));
  one = λ M 𝓤 𝓛 mem run κs a g g' r r' left left' s s'.
      by_clause 𝓤 leg_hints_with_leg.ended κs a r r' left left' (λ p q. (search one_answer, search one_answer)) s s';
}

pub leg_hints_part_partial_eq_eq_determined :
    Determined leg_hints_part_partial_eq_eq_symbol.code leg_hints_part_partial_eq_eq_symbol.name leg_hints_part_partial_eq_eq.ended (λ M 𝓤. leg_hints_part_partial_eq_eq.clauses)
leg_hints_part_partial_eq_eq_determined = record {
  met = λ M. leg_hints_part_partial_eq_eq_met.met;
  kept = refl;
  free = λ M 𝓤 𝓛 mem run κs a. (tt, id⊢ 𝓤 (emp 𝓤));
  one = λ M 𝓤 𝓛 mem run κs a g g' r r' left left' s s'.
      by_clause 𝓤 leg_hints_part_partial_eq_eq.ended κs a r r' left left' (λ p q. (search one_answer, search one_answer)) s s';
}

pub walk_compute_wait_hints_determined :
    Determined walk_compute_wait_hints_symbol.code walk_compute_wait_hints_symbol.name walk_compute_wait_hints.ended (λ M 𝓤. walk_compute_wait_hints.clauses)
walk_compute_wait_hints_determined = record {
  met = λ M. walk_compute_wait_hints_met.met;
  kept = refl;
  free = λ M 𝓤 𝓛 mem run κs a. (tt, id⊢ 𝓤 (emp 𝓤));
  one = λ M 𝓤 𝓛 mem run κs a g g' r r' left left' s s'.
      by_clause 𝓤 walk_compute_wait_hints.ended κs a r r' left left' (λ p q. (search one_answer, search one_answer)) s s';
}
