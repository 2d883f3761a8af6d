-- Each public function of request_format has one answer and one lent memory. tools/contracts.py writes this file.
-- Assumes nothing.
use mathlib.Core.Path.{refl}
use base.Logic.{id⊢, emp}
use Rattle.request_format.specs.contracts.bits.number_at as bits_number_at
use Rattle.request_format.proofs.bits.number_at.Symbol as bits_number_at_symbol
use Rattle.request_format.proofs.bits.number_at.Met as bits_number_at_met
use Rattle.request_format.specs.contracts.format.is_request as format_is_request
use Rattle.request_format.proofs.format.is_request.Symbol as format_is_request_symbol
use Rattle.request_format.proofs.format.is_request.Met as format_is_request_met
use Rattle.settling.specs.Determined.{Determined}
use Rattle.settling.proofs.Facts.{by_clause}
use Rattle.contracts.proofs.Rules.{one_answer}

pub bits_number_at_determined :
    Determined bits_number_at_symbol.code bits_number_at_symbol.name bits_number_at.ended (λ M 𝓤. bits_number_at.clauses)
bits_number_at_determined = record {
  met = λ M. bits_number_at_met.met;
  kept = refl;
  free = λ M 𝓤 𝓛 mem run κs a. (tt, id⊢ 𝓤 (emp 𝓤));
  one = λ M 𝓤 𝓛 mem run κs a g g' r r' left left' s s'.
      by_clause 𝓤 bits_number_at.ended κs a r r' left left' (λ p q. (search one_answer, search one_answer)) s s';
}

pub format_is_request_determined :
    Determined format_is_request_symbol.code format_is_request_symbol.name format_is_request.ended (λ M 𝓤. format_is_request.clauses)
format_is_request_determined = record {
  met = λ M. format_is_request_met.met;
  kept = refl;
  free = λ M 𝓤 𝓛 mem run κs a. (tt, id⊢ 𝓤 (emp 𝓤));
  one = λ M 𝓤 𝓛 mem run κs a g g' r r' left left' s s'.
      by_clause 𝓤 format_is_request.ended κs a r r' left left' (λ p q. (search one_answer, search one_answer)) s s';
}
