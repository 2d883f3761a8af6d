-- Each public function of segments has one answer and one lent memory. tools/contracts.py writes this file.
-- Assumes nothing.
use mathlib.Core.Path.{refl}
use base.Logic.{id⊢, emp}
use Rattle.segments.specs.contracts.calls.segment as calls_segment
use Rattle.segments.proofs.calls.segment.Symbol as calls_segment_symbol
use Rattle.segments.proofs.calls.segment.Met as calls_segment_met
use Rattle.segments.specs.contracts.segment.is_safe_segment as segment_is_safe_segment
use Rattle.segments.proofs.segment.is_safe_segment.Symbol as segment_is_safe_segment_symbol
use Rattle.segments.proofs.segment.is_safe_segment.Met as segment_is_safe_segment_met
use Rattle.settling.specs.Determined.{Determined}
use Rattle.settling.proofs.Facts.{by_clause}
use Rattle.contracts.proofs.Rules.{one_answer}

pub calls_segment_determined :
    Determined calls_segment_symbol.code calls_segment_symbol.name calls_segment.ended (λ M 𝓤. calls_segment.clauses)
calls_segment_determined = record {
  met = λ M. calls_segment_met.met;
  kept = refl;
  free = λ M 𝓤 𝓛 mem run κs a. (tt, id⊢ 𝓤 (emp 𝓤));
  one = λ M 𝓤 𝓛 mem run κs a g g' r r' left left' s s'.
      by_clause 𝓤 calls_segment.ended κs a r r' left left' (λ p q. (search one_answer, search one_answer)) s s';
}

pub segment_is_safe_segment_determined :
    Determined segment_is_safe_segment_symbol.code segment_is_safe_segment_symbol.name segment_is_safe_segment.ended (λ M 𝓤. segment_is_safe_segment.clauses)
segment_is_safe_segment_determined = record {
  met = λ M. segment_is_safe_segment_met.met;
  kept = refl;
  free = λ M 𝓤 𝓛 mem run κs a. (tt, id⊢ 𝓤 (emp 𝓤));
  one = λ M 𝓤 𝓛 mem run κs a g g' r r' left left' s s'.
      by_clause 𝓤 segment_is_safe_segment.ended κs a r r' left left' (λ p q. (search one_answer, search one_answer)) s s';
}
