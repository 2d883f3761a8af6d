-- Each public function of refusals has one answer and one lent memory. tools/contracts.py writes this file.
-- Assumes nothing.
use mathlib.Core.Path.{refl}
use base.Logic.{id⊢, emp}
use Rattle.refusals.specs.contracts.U64FromRefusal.from as u64_from_refusal_from
use Rattle.refusals.proofs.U64FromRefusal.from.Symbol as u64_from_refusal_from_symbol
use Rattle.refusals.proofs.U64FromRefusal.from.Met as u64_from_refusal_from_met
use Rattle.refusals.specs.contracts.RefusalPartialEq.eq as refusal_partial_eq_eq
use Rattle.refusals.proofs.RefusalPartialEq.eq.Symbol as refusal_partial_eq_eq_symbol
use Rattle.refusals.proofs.RefusalPartialEq.eq.Met as refusal_partial_eq_eq_met
use Rattle.settling.specs.Determined.{Determined}
use Rattle.settling.proofs.Facts.{by_clause}
use Rattle.contracts.proofs.Rules.{one_answer}

pub u64_from_refusal_from_determined :
    Determined u64_from_refusal_from_symbol.code u64_from_refusal_from_symbol.name u64_from_refusal_from.ended (λ M 𝓤. u64_from_refusal_from.clauses)
u64_from_refusal_from_determined = record {
  met = λ M. u64_from_refusal_from_met.met;
  kept = refl;
  free = λ M 𝓤 𝓛 mem run κs a. (tt, id⊢ 𝓤 (emp 𝓤));
  one = λ M 𝓤 𝓛 mem run κs a g g' r r' left left' s s'.
      by_clause 𝓤 u64_from_refusal_from.ended κs a r r' left left' (λ p q. (search one_answer, search one_answer)) s s';
}

pub refusal_partial_eq_eq_determined :
    Determined refusal_partial_eq_eq_symbol.code refusal_partial_eq_eq_symbol.name refusal_partial_eq_eq.ended (λ M 𝓤. refusal_partial_eq_eq.clauses)
refusal_partial_eq_eq_determined = record {
  met = λ M. refusal_partial_eq_eq_met.met;
  kept = refl;
  free = λ M 𝓤 𝓛 mem run κs a. (tt, id⊢ 𝓤 (emp 𝓤));
  one = λ M 𝓤 𝓛 mem run κs a g g' r r' left left' s s'.
      by_clause 𝓤 refusal_partial_eq_eq.ended κs a r r' left left' (λ p q. (search one_answer, search one_answer)) s s';
}
