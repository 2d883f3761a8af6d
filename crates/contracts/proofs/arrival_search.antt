-- Each public function of arrival_search has one answer and one lent memory. tools/contracts.py writes this file.
-- Assumes nothing.
use mathlib.Core.Path.{refl}
use base.Logic.{id⊢, emp}
use Rattle.arrival_search.specs.contracts.leaving.left_at as leaving_left_at
use Rattle.arrival_search.proofs.leaving.left_at.Symbol as leaving_left_at_symbol
use Rattle.arrival_search.proofs.leaving.left_at.Met as leaving_left_at_met
use Rattle.arrival_search.specs.contracts.next.sooner_of as next_sooner_of
use Rattle.arrival_search.proofs.next.sooner_of.Symbol as next_sooner_of_symbol
use Rattle.arrival_search.proofs.next.sooner_of.Met as next_sooner_of_met
use Rattle.arrival_search.specs.contracts.turn.AdjustmentPartialEq.eq as turn_adjustment_partial_eq_eq
use Rattle.arrival_search.proofs.turn.AdjustmentPartialEq.eq.Symbol as turn_adjustment_partial_eq_eq_symbol
use Rattle.arrival_search.proofs.turn.AdjustmentPartialEq.eq.Met as turn_adjustment_partial_eq_eq_met
use Rattle.arrival_search.specs.contracts.turn.SweptPartialEq.eq as turn_swept_partial_eq_eq
use Rattle.arrival_search.proofs.turn.SweptPartialEq.eq.Symbol as turn_swept_partial_eq_eq_symbol
use Rattle.arrival_search.proofs.turn.SweptPartialEq.eq.Met as turn_swept_partial_eq_eq_met
use Rattle.arrival_search.specs.contracts.turn.TurnPartialEq.eq as turn_turn_partial_eq_eq
use Rattle.arrival_search.proofs.turn.TurnPartialEq.eq.Symbol as turn_turn_partial_eq_eq_symbol
use Rattle.arrival_search.proofs.turn.TurnPartialEq.eq.Met as turn_turn_partial_eq_eq_met
use Rattle.settling.specs.Determined.{Determined}
use Rattle.settling.proofs.Facts.{by_clause}
use Rattle.contracts.proofs.Rules.{one_answer}

pub leaving_left_at_determined :
    Determined leaving_left_at_symbol.code leaving_left_at_symbol.name leaving_left_at.ended (λ M 𝓤. leaving_left_at.clauses)
leaving_left_at_determined = record {
  met = λ M. leaving_left_at_met.met;
  kept = refl;
  free = λ M 𝓤 𝓛 mem run κs a. (tt, id⊢ 𝓤 (emp 𝓤));
  one = λ M 𝓤 𝓛 mem run κs a g g' r r' left left' s s'.
      by_clause 𝓤 leaving_left_at.ended κs a r r' left left' (λ p q. (search one_answer, search one_answer)) s s';
}

pub next_sooner_of_determined :
    Determined next_sooner_of_symbol.code next_sooner_of_symbol.name next_sooner_of.ended (λ M 𝓤. next_sooner_of.clauses)
next_sooner_of_determined = record {
  met = λ M. next_sooner_of_met.met;
  kept = refl;
  free = λ M 𝓤 𝓛 mem run κs a. (tt, id⊢ 𝓤 (emp 𝓤));
  one = λ M 𝓤 𝓛 mem run κs a g g' r r' left left' s s'.
      by_clause 𝓤 next_sooner_of.ended κs a r r' left left' (λ p q. (search one_answer, search one_answer)) s s';
}

pub turn_adjustment_partial_eq_eq_determined :
    Determined turn_adjustment_partial_eq_eq_symbol.code turn_adjustment_partial_eq_eq_symbol.name turn_adjustment_partial_eq_eq.ended (λ M 𝓤. turn_adjustment_partial_eq_eq.clauses)
turn_adjustment_partial_eq_eq_determined = record {
  met = λ M. turn_adjustment_partial_eq_eq_met.met;
  kept = refl;
  free = λ M 𝓤 𝓛 mem run κs a. (tt, id⊢ 𝓤 (emp 𝓤));
  one = λ M 𝓤 𝓛 mem run κs a g g' r r' left left' s s'.
      by_clause 𝓤 turn_adjustment_partial_eq_eq.ended κs a r r' left left' (λ p q. (search one_answer, search one_answer)) s s';
}

pub turn_swept_partial_eq_eq_determined :
    Determined turn_swept_partial_eq_eq_symbol.code turn_swept_partial_eq_eq_symbol.name turn_swept_partial_eq_eq.ended (λ M 𝓤. turn_swept_partial_eq_eq.clauses)
turn_swept_partial_eq_eq_determined = record {
  met = λ M. turn_swept_partial_eq_eq_met.met;
  kept = refl;
  free = λ M 𝓤 𝓛 mem run κs a. (tt, id⊢ 𝓤 (emp 𝓤));
  one = λ M 𝓤 𝓛 mem run κs a g g' r r' left left' s s'.
      by_clause 𝓤 turn_swept_partial_eq_eq.ended κs a r r' left left' (λ p q. (search one_answer, search one_answer)) s s';
}

pub turn_turn_partial_eq_eq_determined :
    Determined turn_turn_partial_eq_eq_symbol.code turn_turn_partial_eq_eq_symbol.name turn_turn_partial_eq_eq.ended (λ M 𝓤. turn_turn_partial_eq_eq.clauses)
turn_turn_partial_eq_eq_determined = record {
  met = λ M. turn_turn_partial_eq_eq_met.met;
  kept = refl;
  free = λ M 𝓤 𝓛 mem run κs a. (tt, id⊢ 𝓤 (emp 𝓤));
  one = λ M 𝓤 𝓛 mem run κs a g g' r r' left left' s s'.
      by_clause 𝓤 turn_turn_partial_eq_eq.ended κs a r r' left left' (λ p q. (search one_answer, search one_answer)) s s';
}
