-- Each public function of reply has one answer and one lent memory. tools/contracts.py writes this file.
-- Assumes nothing.
use mathlib.Core.Path.{refl}
use base.Logic.{id⊢, emp}
use Rattle.reply.specs.contracts.replying.reply as replying_reply
use Rattle.reply.proofs.replying.reply.Symbol as replying_reply_symbol
use Rattle.reply.proofs.replying.reply.Met as replying_reply_met
use Rattle.reply.specs.contracts.replying.whole_reply as replying_whole_reply
use Rattle.reply.proofs.replying.whole_reply.Symbol as replying_whole_reply_symbol
use Rattle.reply.proofs.replying.whole_reply.Met as replying_whole_reply_met
use Rattle.settling.specs.Determined.{Determined}
use Rattle.settling.proofs.Facts.{by_clauses}
use Rattle.contracts.proofs.Rules.{one_answer}

pub replying_reply_determined :
    Determined replying_reply_symbol.code replying_reply_symbol.name replying_reply.ended (λ M 𝓤. replying_reply.clauses)
replying_reply_determined = record {
  met = λ M. replying_reply_met.met;
  kept = refl;
  free = λ M 𝓤 𝓛 mem run κs a. (tt, id⊢ 𝓤 (emp 𝓤));
  one = λ M 𝓤 𝓛 mem run κs a g g' r r' left left' s s'.
      by_clauses 𝓤 replying_reply.ended κs a r r' left left' (λ p q. (search one_answer, search one_answer)) s s';
}

pub replying_whole_reply_determined :
    Determined replying_whole_reply_symbol.code replying_whole_reply_symbol.name replying_whole_reply.ended (λ M 𝓤. replying_whole_reply.clauses)
replying_whole_reply_determined = record {
  met = λ M. replying_whole_reply_met.met;
  kept = refl;
  free = λ M 𝓤 𝓛 mem run κs a. (tt, id⊢ 𝓤 (emp 𝓤));
  one = λ M 𝓤 𝓛 mem run κs a g g' r r' left left' s s'.
      by_clauses 𝓤 replying_whole_reply.ended κs a r r' left left' (λ p q. (search one_answer, search one_answer)) s s';
}
