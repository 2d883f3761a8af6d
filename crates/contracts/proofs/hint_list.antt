-- Each public function of hint_list has one answer and one lent memory. tools/contracts.py writes this file.
-- Assumes nothing.
use mathlib.Core.Path.{refl}
use base.Logic.{id⊢, emp}
use Rattle.hint_list.specs.contracts.entries.count_of as entries_count_of
use Rattle.hint_list.proofs.entries.count_of.Symbol as entries_count_of_symbol
use Rattle.hint_list.proofs.entries.count_of.Met as entries_count_of_met
use Rattle.hint_list.specs.contracts.entries.hint_at as entries_hint_at
use Rattle.hint_list.proofs.entries.hint_at.Symbol as entries_hint_at_symbol
use Rattle.hint_list.proofs.entries.hint_at.Met as entries_hint_at_met
use Rattle.hint_list.specs.contracts.entries.put_hint as entries_put_hint
use Rattle.hint_list.proofs.entries.put_hint.Symbol as entries_put_hint_symbol
use Rattle.hint_list.proofs.entries.put_hint.Met as entries_put_hint_met
use Rattle.hint_list.specs.contracts.entries.refuse as entries_refuse
use Rattle.hint_list.proofs.entries.refuse.Symbol as entries_refuse_symbol
use Rattle.hint_list.proofs.entries.refuse.Met as entries_refuse_met
use Rattle.hint_list.specs.contracts.entries.refuse_for as entries_refuse_for
use Rattle.hint_list.proofs.entries.refuse_for.Symbol as entries_refuse_for_symbol
use Rattle.hint_list.proofs.entries.refuse_for.Met as entries_refuse_for_met
use Rattle.hint_list.specs.contracts.entries.with_hint as entries_with_hint
use Rattle.hint_list.proofs.entries.with_hint.Symbol as entries_with_hint_symbol
use Rattle.hint_list.proofs.entries.with_hint.Met as entries_with_hint_met
use Rattle.hint_list.specs.contracts.entries.with_wait as entries_with_wait
use Rattle.hint_list.proofs.entries.with_wait.Symbol as entries_with_wait_symbol
use Rattle.hint_list.proofs.entries.with_wait.Met as entries_with_wait_met
use Rattle.hint_list.specs.contracts.entries.with_answer as entries_with_answer
use Rattle.hint_list.proofs.entries.with_answer.Symbol as entries_with_answer_symbol
use Rattle.hint_list.proofs.entries.with_answer.Met as entries_with_answer_met
use Rattle.hint_list.specs.contracts.hint.is_placed as hint_is_placed
use Rattle.hint_list.proofs.hint.is_placed.Symbol as hint_is_placed_symbol
use Rattle.hint_list.proofs.hint.is_placed.Met as hint_is_placed_met
use Rattle.settling.specs.Determined.{Determined}
use Rattle.settling.proofs.Facts.{by_clause}
use Rattle.contracts.proofs.Rules.{one_answer}

pub entries_count_of_determined :
    Determined entries_count_of_symbol.code entries_count_of_symbol.name entries_count_of.ended (λ M 𝓤. entries_count_of.clauses)
entries_count_of_determined = record {
  met = λ M. entries_count_of_met.met;
  kept = refl;
  free = λ M 𝓤 𝓛 mem run κs a. (tt, id⊢ 𝓤 (emp 𝓤));
  one = λ M 𝓤 𝓛 mem run κs a g g' r r' left left' s s'.
      by_clause 𝓤 entries_count_of.ended κs a r r' left left' (λ p q. (search one_answer, search one_answer)) s s';
}

pub entries_hint_at_determined :
    Determined entries_hint_at_symbol.code entries_hint_at_symbol.name entries_hint_at.ended (λ M 𝓤. entries_hint_at.clauses)
entries_hint_at_determined = record {
  met = λ M. entries_hint_at_met.met;
  kept = refl;
  free = λ M 𝓤 𝓛 mem run κs a. (tt, id⊢ 𝓤 (emp 𝓤));
  one = λ M 𝓤 𝓛 mem run κs a g g' r r' left left' s s'.
      by_clause 𝓤 entries_hint_at.ended κs a r r' left left' (λ p q. (search one_answer, search one_answer)) s s';
}

pub entries_put_hint_determined :
    Determined entries_put_hint_symbol.code entries_put_hint_symbol.name entries_put_hint.ended (λ M 𝓤. entries_put_hint.clauses)
entries_put_hint_determined = record {
  met = λ M. entries_put_hint_met.met;
  kept = refl;
  free = λ M 𝓤 𝓛 mem run κs a. (tt, id⊢ 𝓤 (emp 𝓤));
  one = λ M 𝓤 𝓛 mem run κs a g g' r r' left left' s s'.
      by_clause 𝓤 entries_put_hint.ended κs a r r' left left' (λ p q. (search one_answer, search one_answer)) s s';
}

pub entries_refuse_determined :
    Determined entries_refuse_symbol.code entries_refuse_symbol.name entries_refuse.ended (λ M 𝓤. entries_refuse.clauses)
entries_refuse_determined = record {
  met = λ M. entries_refuse_met.met;
  kept = refl;
  free = λ M 𝓤 𝓛 mem run κs a. (tt, id⊢ 𝓤 (emp 𝓤));
  one = λ M 𝓤 𝓛 mem run κs a g g' r r' left left' s s'.
      by_clause 𝓤 entries_refuse.ended κs a r r' left left' (λ p q. (search one_answer, search one_answer)) s s';
}

pub entries_refuse_for_determined :
    Determined entries_refuse_for_symbol.code entries_refuse_for_symbol.name entries_refuse_for.ended (λ M 𝓤. entries_refuse_for.clauses)
entries_refuse_for_determined = record {
  met = λ M. entries_refuse_for_met.met;
  kept = refl;
  free = λ M 𝓤 𝓛 mem run κs a. (tt, id⊢ 𝓤 (emp 𝓤));
  one = λ M 𝓤 𝓛 mem run κs a g g' r r' left left' s s'.
      by_clause 𝓤 entries_refuse_for.ended κs a r r' left left' (λ p q. (search one_answer, search one_answer)) s s';
}

pub entries_with_hint_determined :
    Determined entries_with_hint_symbol.code entries_with_hint_symbol.name entries_with_hint.ended (λ M 𝓤. entries_with_hint.clauses)
entries_with_hint_determined = record {
  met = λ M. entries_with_hint_met.met;
  kept = refl;
  free = λ M 𝓤 𝓛 mem run κs a. (tt, id⊢ 𝓤 (emp 𝓤));
  one = λ M 𝓤 𝓛 mem run κs a g g' r r' left left' s s'.
      by_clause 𝓤 entries_with_hint.ended κs a r r' left left' (λ p q. (search one_answer, search one_answer)) s s';
}

pub entries_with_wait_determined :
    Determined entries_with_wait_symbol.code entries_with_wait_symbol.name entries_with_wait.ended (λ M 𝓤. entries_with_wait.clauses)
entries_with_wait_determined = record {
  met = λ M. entries_with_wait_met.met;
  kept = refl;
  free = λ M 𝓤 𝓛 mem run κs a. (tt, id⊢ 𝓤 (emp 𝓤));
  one = λ M 𝓤 𝓛 mem run κs a g g' r r' left left' s s'.
      by_clause 𝓤 entries_with_wait.ended κs a r r' left left' (λ p q. (search one_answer, search one_answer)) s s';
}

pub entries_with_answer_determined :
    Determined entries_with_answer_symbol.code entries_with_answer_symbol.name entries_with_answer.ended (λ M 𝓤. entries_with_answer.clauses)
entries_with_answer_determined = record {
  met = λ M. entries_with_answer_met.met;
  kept = refl;
  free = λ M 𝓤 𝓛 mem run κs a. (tt, id⊢ 𝓤 (emp 𝓤));
  one = λ M 𝓤 𝓛 mem run κs a g g' r r' left left' s s'.
      by_clause 𝓤 entries_with_answer.ended κs a r r' left left' (λ p q. (search one_answer, search one_answer)) s s';
}

pub hint_is_placed_determined :
    Determined hint_is_placed_symbol.code hint_is_placed_symbol.name hint_is_placed.ended (λ M 𝓤. hint_is_placed.clauses)
hint_is_placed_determined = record {
  met = λ M. hint_is_placed_met.met;
  kept = refl;
  free = λ M 𝓤 𝓛 mem run κs a. (tt, id⊢ 𝓤 (emp 𝓤));
  one = λ M 𝓤 𝓛 mem run κs a g g' r r' left left' s s'.
      by_clause 𝓤 hint_is_placed.ended κs a r r' left left' (λ p q. (search one_answer, search one_answer)) s s';
}
