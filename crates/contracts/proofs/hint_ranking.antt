-- Each public function of hint_ranking has one answer and one lent memory. tools/contracts.py writes this file.
-- Assumes nothing.
use mathlib.Core.Path.{refl}
use base.Logic.{id⊢, emp}
use Rattle.hint_ranking.specs.contracts.order.goes_before as order_goes_before
use Rattle.hint_ranking.proofs.order.goes_before.Symbol as order_goes_before_symbol
use Rattle.hint_ranking.proofs.order.goes_before.Met as order_goes_before_met
use Rattle.hint_ranking.specs.contracts.ranked_hints.put_in_rank as ranked_hints_put_in_rank
use Rattle.hint_ranking.proofs.ranked_hints.put_in_rank.Symbol as ranked_hints_put_in_rank_symbol
use Rattle.hint_ranking.proofs.ranked_hints.put_in_rank.Met as ranked_hints_put_in_rank_met
use Rattle.hint_ranking.specs.contracts.ranked_hints.is_ranked as ranked_hints_is_ranked
use Rattle.hint_ranking.proofs.ranked_hints.is_ranked.Symbol as ranked_hints_is_ranked_symbol
use Rattle.hint_ranking.proofs.ranked_hints.is_ranked.Met as ranked_hints_is_ranked_met
use Rattle.settling.specs.Determined.{Determined}
use Rattle.settling.proofs.Facts.{by_clause}
use Rattle.contracts.proofs.Rules.{one_answer}

pub order_goes_before_determined :
    Determined order_goes_before_symbol.code order_goes_before_symbol.name order_goes_before.ended (λ M 𝓤. order_goes_before.clauses)
order_goes_before_determined = record {
  met = λ M. order_goes_before_met.met;
  kept = refl;
  free = λ M 𝓤 𝓛 mem run κs a. (tt, id⊢ 𝓤 (emp 𝓤));
  one = λ M 𝓤 𝓛 mem run κs a g g' r r' left left' s s'.
      by_clause 𝓤 order_goes_before.ended κs a r r' left left' (λ p q. (search one_answer, search one_answer)) s s';
}

pub ranked_hints_put_in_rank_determined :
    Determined ranked_hints_put_in_rank_symbol.code ranked_hints_put_in_rank_symbol.name ranked_hints_put_in_rank.ended (λ M 𝓤. ranked_hints_put_in_rank.clauses)
ranked_hints_put_in_rank_determined = record {
  met = λ M. ranked_hints_put_in_rank_met.met;
  kept = refl;
  free = λ M 𝓤 𝓛 mem run κs a. (tt, id⊢ 𝓤 (emp 𝓤));
  one = λ M 𝓤 𝓛 mem run κs a g g' r r' left left' s s'.
      by_clause 𝓤 ranked_hints_put_in_rank.ended κs a r r' left left' (λ p q. (search one_answer, search one_answer)) s s';
}

pub ranked_hints_is_ranked_determined :
    Determined ranked_hints_is_ranked_symbol.code ranked_hints_is_ranked_symbol.name ranked_hints_is_ranked.ended (λ M 𝓤. ranked_hints_is_ranked.clauses)
ranked_hints_is_ranked_determined = record {
  met = λ M. ranked_hints_is_ranked_met.met;
  kept = refl;
  free = λ M 𝓤 𝓛 mem run κs a. (tt, id⊢ 𝓤 (emp 𝓤));
  one = λ M 𝓤 𝓛 mem run κs a g g' r r' left left' s s'.
      by_clause 𝓤 ranked_hints_is_ranked.ended κs a r r' left left' (λ p q. (search one_answer, search one_answer)) s s';
}
