-- Each public function of hint_following has one answer and one lent memory. tools/contracts.py writes this file.
-- Assumes nothing.
use mathlib.Core.Path.{refl}
use base.Logic.{id⊢, emp}
use Rattle.hint_following.specs.contracts.follow.follow as follow_follow
use Rattle.hint_following.proofs.follow.follow.Symbol as follow_follow_symbol
use Rattle.hint_following.proofs.follow.follow.Met as follow_follow_met
use Rattle.settling.specs.Determined.{Determined}
use Rattle.settling.proofs.Facts.{by_clause}
use Rattle.contracts.proofs.Rules.{one_answer}

pub follow_follow_determined :
    Determined follow_follow_symbol.code follow_follow_symbol.name follow_follow.ended (λ M 𝓤. follow_follow.clauses)
follow_follow_determined = record {
  met = λ M. follow_follow_met.met;
  kept = refl;
  free = λ M 𝓤 𝓛 mem run κs a. (tt, id⊢ 𝓤 (emp 𝓤));
  one = λ M 𝓤 𝓛 mem run κs a g g' r r' left left' s s'.
      by_clause 𝓤 follow_follow.ended κs a r r' left left' (λ p q. (search one_answer, search one_answer)) s s';
}
