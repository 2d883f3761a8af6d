-- Each public function of hold_exports_c has one answer and one lent memory. tools/contracts.py writes this file.
-- Assumes nothing.
use mathlib.Core.Path.{refl}
use base.Logic.{id⊢, emp}
use Rattle.hold_exports_c.specs.contracts.hold_calls.igelbert_holds_begin as hold_calls_igelbert_holds_begin
use Rattle.hold_exports_c.proofs.hold_calls.igelbert_holds_begin.Symbol as hold_calls_igelbert_holds_begin_symbol
use Rattle.hold_exports_c.proofs.hold_calls.igelbert_holds_begin.Met as hold_calls_igelbert_holds_begin_met
use Rattle.hold_exports_c.specs.contracts.hold_calls.igelbert_holds_feed as hold_calls_igelbert_holds_feed
use Rattle.hold_exports_c.proofs.hold_calls.igelbert_holds_feed.Symbol as hold_calls_igelbert_holds_feed_symbol
use Rattle.hold_exports_c.proofs.hold_calls.igelbert_holds_feed.Met as hold_calls_igelbert_holds_feed_met
use Rattle.hold_exports_c.specs.contracts.hold_calls.igelbert_holds_finish as hold_calls_igelbert_holds_finish
use Rattle.hold_exports_c.proofs.hold_calls.igelbert_holds_finish.Symbol as hold_calls_igelbert_holds_finish_symbol
use Rattle.hold_exports_c.proofs.hold_calls.igelbert_holds_finish.Met as hold_calls_igelbert_holds_finish_met
use Rattle.settling.specs.Determined.{Determined}
use Rattle.settling.proofs.Facts.{by_clause}
use Rattle.settling.proofs.Facts.{one_answer}

pub hold_calls_igelbert_holds_begin_determined :
    Determined hold_calls_igelbert_holds_begin_symbol.code hold_calls_igelbert_holds_begin_symbol.name hold_calls_igelbert_holds_begin.ended (λ M 𝓤. hold_calls_igelbert_holds_begin.clauses)
hold_calls_igelbert_holds_begin_determined = record {
  met = λ M. hold_calls_igelbert_holds_begin_met.met;
  kept = refl;
  free = λ M 𝓤 𝓛 mem run κs a. (tt, id⊢ 𝓤 (emp 𝓤));
  one = λ M 𝓤 𝓛 mem run κs a g g' r r' left left' s s'.
      by_clause 𝓤 hold_calls_igelbert_holds_begin.ended κs a r r' left left' (λ p q. (search one_answer, search one_answer)) s s';
}

pub hold_calls_igelbert_holds_feed_determined :
    Determined hold_calls_igelbert_holds_feed_symbol.code hold_calls_igelbert_holds_feed_symbol.name hold_calls_igelbert_holds_feed.ended (λ M 𝓤. hold_calls_igelbert_holds_feed.clauses)
hold_calls_igelbert_holds_feed_determined = record {
  met = λ M. hold_calls_igelbert_holds_feed_met.met;
  kept = refl;
  free = λ M 𝓤 𝓛 mem run κs a. (tt, id⊢ 𝓤 (emp 𝓤));
  one = λ M 𝓤 𝓛 mem run κs a g g' r r' left left' s s'.
      by_clause 𝓤 hold_calls_igelbert_holds_feed.ended κs a r r' left left' (λ p q. (search one_answer, search one_answer)) s s';
}

pub hold_calls_igelbert_holds_finish_determined :
    Determined hold_calls_igelbert_holds_finish_symbol.code hold_calls_igelbert_holds_finish_symbol.name hold_calls_igelbert_holds_finish.ended (λ M 𝓤. hold_calls_igelbert_holds_finish.clauses)
hold_calls_igelbert_holds_finish_determined = record {
  met = λ M. hold_calls_igelbert_holds_finish_met.met;
  kept = refl;
  free = λ M 𝓤 𝓛 mem run κs a. (tt, id⊢ 𝓤 (emp 𝓤));
  one = λ M 𝓤 𝓛 mem run κs a g g' r r' left left' s s'.
      by_clause 𝓤 hold_calls_igelbert_holds_finish.ended κs a r r' left left' (λ p q. (search one_answer, search one_answer)) s s';
}
