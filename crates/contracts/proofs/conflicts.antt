-- Each public function of conflicts has one answer and one lent memory. tools/contracts.py writes this file.
-- Assumes nothing.
use mathlib.Core.Path.{refl}
use base.Logic.{id⊢, emp}
use Rattle.conflicts.specs.contracts.calls.conflict as calls_conflict
use Rattle.conflicts.proofs.calls.conflict.Symbol as calls_conflict_symbol
use Rattle.conflicts.proofs.calls.conflict.Met as calls_conflict_met
use Rattle.conflicts.specs.contracts.conflict.proximity_in_boxes as conflict_proximity_in_boxes
use Rattle.conflicts.proofs.conflict.proximity_in_boxes.Symbol as conflict_proximity_in_boxes_symbol
use Rattle.conflicts.proofs.conflict.proximity_in_boxes.Met as conflict_proximity_in_boxes_met
use Rattle.conflicts.specs.contracts.conflict.entered_at as conflict_entered_at
use Rattle.conflicts.proofs.conflict.entered_at.Symbol as conflict_entered_at_symbol
use Rattle.conflicts.proofs.conflict.entered_at.Met as conflict_entered_at_met
use Rattle.conflicts.specs.contracts.conflict.have_conflict as conflict_have_conflict
use Rattle.conflicts.proofs.conflict.have_conflict.Symbol as conflict_have_conflict_symbol
use Rattle.conflicts.proofs.conflict.have_conflict.Met as conflict_have_conflict_met
use Rattle.conflicts.specs.contracts.conflict.VerdictPartialEq.eq as conflict_verdict_partial_eq_eq
use Rattle.conflicts.proofs.conflict.VerdictPartialEq.eq.Symbol as conflict_verdict_partial_eq_eq_symbol
use Rattle.conflicts.proofs.conflict.VerdictPartialEq.eq.Met as conflict_verdict_partial_eq_eq_met
use Rattle.settling.specs.Determined.{Determined}
use Rattle.settling.proofs.Facts.{by_clause}
use Rattle.contracts.proofs.Rules.{one_answer}

pub calls_conflict_determined :
    Determined calls_conflict_symbol.code calls_conflict_symbol.name calls_conflict.ended (λ M 𝓤. calls_conflict.clauses)
calls_conflict_determined = record {
  met = λ M. calls_conflict_met.met;
  kept = refl;
  free = λ M 𝓤 𝓛 mem run κs a. (tt, id⊢ 𝓤 (emp 𝓤));
  one = λ M 𝓤 𝓛 mem run κs a g g' r r' left left' s s'.
      by_clause 𝓤 calls_conflict.ended κs a r r' left left' (λ p q. (search one_answer, search one_answer)) s s';
}

pub conflict_proximity_in_boxes_determined :
    Determined conflict_proximity_in_boxes_symbol.code conflict_proximity_in_boxes_symbol.name conflict_proximity_in_boxes.ended (λ M 𝓤. conflict_proximity_in_boxes.clauses)
conflict_proximity_in_boxes_determined = record {
  met = λ M. conflict_proximity_in_boxes_met.met;
  kept = refl;
  free = λ M 𝓤 𝓛 mem run κs a. (tt, id⊢ 𝓤 (emp 𝓤));
  one = λ M 𝓤 𝓛 mem run κs a g g' r r' left left' s s'.
      by_clause 𝓤 conflict_proximity_in_boxes.ended κs a r r' left left' (λ p q. (search one_answer, search one_answer)) s s';
}

pub conflict_entered_at_determined :
    Determined conflict_entered_at_symbol.code conflict_entered_at_symbol.name conflict_entered_at.ended (λ M 𝓤. conflict_entered_at.clauses)
conflict_entered_at_determined = record {
  met = λ M. conflict_entered_at_met.met;
  kept = refl;
  free = λ M 𝓤 𝓛 mem run κs a. (tt, id⊢ 𝓤 (emp 𝓤));
  one = λ M 𝓤 𝓛 mem run κs a g g' r r' left left' s s'.
      by_clause 𝓤 conflict_entered_at.ended κs a r r' left left' (λ p q. (search one_answer, search one_answer)) s s';
}

pub conflict_have_conflict_determined :
    Determined conflict_have_conflict_symbol.code conflict_have_conflict_symbol.name conflict_have_conflict.ended (λ M 𝓤. conflict_have_conflict.clauses)
conflict_have_conflict_determined = record {
  met = λ M. conflict_have_conflict_met.met;
  kept = refl;
  free = λ M 𝓤 𝓛 mem run κs a. (tt, id⊢ 𝓤 (emp 𝓤));
  one = λ M 𝓤 𝓛 mem run κs a g g' r r' left left' s s'.
      by_clause 𝓤 conflict_have_conflict.ended κs a r r' left left' (λ p q. (search one_answer, search one_answer)) s s';
}

pub conflict_verdict_partial_eq_eq_determined :
    Determined conflict_verdict_partial_eq_eq_symbol.code conflict_verdict_partial_eq_eq_symbol.name conflict_verdict_partial_eq_eq.ended (λ M 𝓤. conflict_verdict_partial_eq_eq.clauses)
conflict_verdict_partial_eq_eq_determined = record {
  met = λ M. conflict_verdict_partial_eq_eq_met.met;
  kept = refl;
  free = λ M 𝓤 𝓛 mem run κs a. (tt, id⊢ 𝓤 (emp 𝓤));
  one = λ M 𝓤 𝓛 mem run κs a g g' r r' left left' s s'.
      by_clause 𝓤 conflict_verdict_partial_eq_eq.ended κs a r r' left left' (λ p q. (search one_answer, search one_answer)) s s';
}
