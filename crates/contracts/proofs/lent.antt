-- Each public function of lent has one answer and one lent memory. tools/contracts.py writes this file.
-- Assumes nothing.
use mathlib.Core.Path.{refl}
use base.Logic.{id⊢, emp}
use Rattle.lent.specs.contracts.rows.put_row as rows_put_row
use Rattle.lent.proofs.rows.put_row.Symbol as rows_put_row_symbol
use Rattle.lent.proofs.rows.put_row.Met as rows_put_row_met
use Rattle.lent.specs.contracts.rows.has_room as rows_has_room
use Rattle.lent.proofs.rows.has_room.Symbol as rows_has_room_symbol
use Rattle.lent.proofs.rows.has_room.Met as rows_has_room_met
use Rattle.lent.specs.contracts.rows.settle as rows_settle
use Rattle.lent.proofs.rows.settle.Symbol as rows_settle_symbol
use Rattle.lent.proofs.rows.settle.Met as rows_settle_met
use Rattle.lent.specs.contracts.words.wipe_from as words_wipe_from
use Rattle.lent.proofs.words.wipe_from.Symbol as words_wipe_from_symbol
use Rattle.lent.proofs.words.wipe_from.Met as words_wipe_from_met
use Rattle.lent.specs.contracts.words.hand_over as words_hand_over
use Rattle.lent.proofs.words.hand_over.Symbol as words_hand_over_symbol
use Rattle.lent.proofs.words.hand_over.Met as words_hand_over_met
use Rattle.lent.specs.contracts.words.refuse as words_refuse
use Rattle.lent.proofs.words.refuse.Symbol as words_refuse_symbol
use Rattle.lent.proofs.words.refuse.Met as words_refuse_met
use Rattle.settling.specs.Determined.{Determined}
use Rattle.settling.proofs.Facts.{by_clause}
use Rattle.contracts.proofs.Rules.{one_answer}

pub rows_put_row_determined :
    Determined rows_put_row_symbol.code rows_put_row_symbol.name rows_put_row.ended (λ M 𝓤. rows_put_row.clauses)
rows_put_row_determined = record {
  met = λ M. rows_put_row_met.met;
  kept = refl;
  free = λ M 𝓤 𝓛 mem run κs a. (tt, id⊢ 𝓤 (emp 𝓤));
  one = λ M 𝓤 𝓛 mem run κs a g g' r r' left left' s s'.
      by_clause 𝓤 rows_put_row.ended κs a r r' left left' (λ p q. (search one_answer, search one_answer)) s s';
}

pub rows_has_room_determined :
    Determined rows_has_room_symbol.code rows_has_room_symbol.name rows_has_room.ended (λ M 𝓤. rows_has_room.clauses)
rows_has_room_determined = record {
  met = λ M. rows_has_room_met.met;
  kept = refl;
  free = λ M 𝓤 𝓛 mem run κs a. (tt, id⊢ 𝓤 (emp 𝓤));
  one = λ M 𝓤 𝓛 mem run κs a g g' r r' left left' s s'.
      by_clause 𝓤 rows_has_room.ended κs a r r' left left' (λ p q. (search one_answer, search one_answer)) s s';
}

pub rows_settle_determined :
    Determined rows_settle_symbol.code rows_settle_symbol.name rows_settle.ended (λ M 𝓤. rows_settle.clauses)
rows_settle_determined = record {
  met = λ M. rows_settle_met.met;
  kept = refl;
  free = λ M 𝓤 𝓛 mem run κs a. (tt, id⊢ 𝓤 (emp 𝓤));
  one = λ M 𝓤 𝓛 mem run κs a g g' r r' left left' s s'.
      by_clause 𝓤 rows_settle.ended κs a r r' left left' (λ p q. (search one_answer, search one_answer)) s s';
}

pub words_wipe_from_determined :
    Determined words_wipe_from_symbol.code words_wipe_from_symbol.name words_wipe_from.ended (λ M 𝓤. words_wipe_from.clauses)
words_wipe_from_determined = record {
  met = λ M. words_wipe_from_met.met;
  kept = refl;
  free = λ M 𝓤 𝓛 mem run κs a. (tt, id⊢ 𝓤 (emp 𝓤));
  one = λ M 𝓤 𝓛 mem run κs a g g' r r' left left' s s'.
      by_clause 𝓤 words_wipe_from.ended κs a r r' left left' (λ p q. (search one_answer, search one_answer)) s s';
}

pub words_hand_over_determined :
    Determined words_hand_over_symbol.code words_hand_over_symbol.name words_hand_over.ended (λ M 𝓤. words_hand_over.clauses)
words_hand_over_determined = record {
  met = λ M. words_hand_over_met.met;
  kept = refl;
  free = λ M 𝓤 𝓛 mem run κs a. (tt, id⊢ 𝓤 (emp 𝓤));
  one = λ M 𝓤 𝓛 mem run κs a g g' r r' left left' s s'.
      by_clause 𝓤 words_hand_over.ended κs a r r' left left' (λ p q. (search one_answer, search one_answer)) s s';
}

pub words_refuse_determined :
    Determined words_refuse_symbol.code words_refuse_symbol.name words_refuse.ended (λ M 𝓤. words_refuse.clauses)
words_refuse_determined = record {
  met = λ M. words_refuse_met.met;
  kept = refl;
  free = λ M 𝓤 𝓛 mem run κs a. (tt, id⊢ 𝓤 (emp 𝓤));
  one = λ M 𝓤 𝓛 mem run κs a g g' r r' left left' s s'.
      by_clause 𝓤 words_refuse.ended κs a r r' left left' (λ p q. (search one_answer, search one_answer)) s s';
}
