-- Each public function of hint_words has one answer and one lent memory. tools/contracts.py writes this file.
-- Assumes nothing.
use mathlib.Core.Path.{refl}
use base.Logic.{id⊢, emp}
use Rattle.hint_words.specs.contracts.taken.lent_hints as taken_lent_hints
use Rattle.hint_words.proofs.taken.lent_hints.Symbol as taken_lent_hints_symbol
use Rattle.hint_words.proofs.taken.lent_hints.Met as taken_lent_hints_met
use Rattle.settling.specs.Determined.{Determined}
use Rattle.settling.proofs.Facts.{by_clause}
use Rattle.contracts.proofs.Rules.{one_answer}

pub taken_lent_hints_determined :
    Determined taken_lent_hints_symbol.code taken_lent_hints_symbol.name taken_lent_hints.ended (λ M 𝓤. taken_lent_hints.clauses)
taken_lent_hints_determined = record {
  met = λ M. taken_lent_hints_met.met;
  kept = refl;
  free = λ M 𝓤 𝓛 mem run κs a. (tt, id⊢ 𝓤 (emp 𝓤));
  one = λ M 𝓤 𝓛 mem run κs a g g' r r' left left' s s'.
      by_clause 𝓤 taken_lent_hints.ended κs a r r' left left' (λ p q. (search one_answer, search one_answer)) s s';
}
