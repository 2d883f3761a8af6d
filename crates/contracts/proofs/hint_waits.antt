-- Each public function of hint_waits has one answer and one lent memory. tools/contracts.py writes this file.
-- Assumes nothing.
use mathlib.Core.Path.{refl}
use base.Logic.{id⊢, emp}
use Rattle.hint_waits.specs.contracts.crossing.crossing_wait as crossing_crossing_wait
use Rattle.hint_waits.proofs.crossing.crossing_wait.Symbol as crossing_crossing_wait_symbol
use Rattle.hint_waits.proofs.crossing.crossing_wait.Met as crossing_crossing_wait_met
use Rattle.hint_waits.specs.contracts.oncoming.oncoming_wait as oncoming_oncoming_wait
use Rattle.hint_waits.proofs.oncoming.oncoming_wait.Symbol as oncoming_oncoming_wait_symbol
use Rattle.hint_waits.proofs.oncoming.oncoming_wait.Met as oncoming_oncoming_wait_met
use Rattle.hint_waits.specs.contracts.standing.standing_wait as standing_standing_wait
use Rattle.hint_waits.proofs.standing.standing_wait.Symbol as standing_standing_wait_symbol
use Rattle.hint_waits.proofs.standing.standing_wait.Met as standing_standing_wait_met
use Rattle.settling.specs.Determined.{Determined}
use Rattle.settling.proofs.Facts.{by_clause}
use Rattle.contracts.proofs.Rules.{one_answer}

pub crossing_crossing_wait_determined :
    Determined crossing_crossing_wait_symbol.code crossing_crossing_wait_symbol.name crossing_crossing_wait.ended (λ M 𝓤. crossing_crossing_wait.clauses)
crossing_crossing_wait_determined = record {
  met = λ M. crossing_crossing_wait_met.met;
  kept = refl;
  free = λ M 𝓤 𝓛 mem run κs a. (tt, id⊢ 𝓤 (emp 𝓤));
  one = λ M 𝓤 𝓛 mem run κs a g g' r r' left left' s s'.
      by_clause 𝓤 crossing_crossing_wait.ended κs a r r' left left' (λ p q. (search one_answer, search one_answer)) s s';
}

pub oncoming_oncoming_wait_determined :
    Determined oncoming_oncoming_wait_symbol.code oncoming_oncoming_wait_symbol.name oncoming_oncoming_wait.ended (λ M 𝓤. oncoming_oncoming_wait.clauses)
oncoming_oncoming_wait_determined = record {
  met = λ M. oncoming_oncoming_wait_met.met;
  kept = refl;
  free = λ M 𝓤 𝓛 mem run κs a. (tt, id⊢ 𝓤 (emp 𝓤));
  one = λ M 𝓤 𝓛 mem run κs a g g' r r' left left' s s'.
      by_clause 𝓤 oncoming_oncoming_wait.ended κs a r r' left left' (λ p q. (search one_answer, search one_answer)) s s';
}

pub standing_standing_wait_determined :
    Determined standing_standing_wait_symbol.code standing_standing_wait_symbol.name standing_standing_wait.ended (λ M 𝓤. standing_standing_wait.clauses)
standing_standing_wait_determined = record {
  met = λ M. standing_standing_wait_met.met;
  kept = refl;
  free = λ M 𝓤 𝓛 mem run κs a. (tt, id⊢ 𝓤 (emp 𝓤));
  one = λ M 𝓤 𝓛 mem run κs a g g' r r' left left' s s'.
      by_clause 𝓤 standing_standing_wait.ended κs a r r' left left' (λ p q. (search one_answer, search one_answer)) s s';
}
