-- Each public function of reply_text has one answer and one lent memory. tools/contracts.py writes this file.
-- Assumes nothing.
use mathlib.Core.Path.{refl}
use base.Logic.{id⊢, emp}
use Rattle.reply_text.specs.contracts.answer.put_answer as answer_put_answer
use Rattle.reply_text.proofs.answer.put_answer.Symbol as answer_put_answer_symbol
use Rattle.reply_text.proofs.answer.put_answer.Met as answer_put_answer_met
use Rattle.settling.specs.Determined.{Determined}
use Rattle.settling.proofs.Facts.{by_clauses}
use Rattle.contracts.proofs.Rules.{one_answer}

pub answer_put_answer_determined :
    Determined answer_put_answer_symbol.code answer_put_answer_symbol.name answer_put_answer.ended (λ M 𝓤. answer_put_answer.clauses)
answer_put_answer_determined = record {
  met = λ M. answer_put_answer_met.met;
  kept = refl;
  free = λ M 𝓤 𝓛 mem run κs a. (tt, id⊢ 𝓤 (emp 𝓤));
  one = λ M 𝓤 𝓛 mem run κs a g g' r r' left left' s s'.
      by_clauses 𝓤 answer_put_answer.ended κs a r r' left left' (λ p q. (search one_answer, search one_answer)) s s';
}
