-- Each public function of texts has one answer and one lent memory. tools/contracts.py writes this file.
-- Assumes nothing.
use mathlib.Core.Path.{refl}
use base.Logic.{id⊢, emp}
use Rattle.texts.specs.contracts.numerals.put_count as numerals_put_count
use Rattle.texts.proofs.numerals.put_count.Symbol as numerals_put_count_symbol
use Rattle.texts.proofs.numerals.put_count.Met as numerals_put_count_met
use Rattle.texts.specs.contracts.numerals.put_time as numerals_put_time
use Rattle.texts.proofs.numerals.put_time.Symbol as numerals_put_time_symbol
use Rattle.texts.proofs.numerals.put_time.Met as numerals_put_time_met
use Rattle.texts.specs.contracts.numerals.put_bits as numerals_put_bits
use Rattle.texts.proofs.numerals.put_bits.Symbol as numerals_put_bits_symbol
use Rattle.texts.proofs.numerals.put_bits.Met as numerals_put_bits_met
use Rattle.texts.specs.contracts.room.put_byte as room_put_byte
use Rattle.texts.proofs.room.put_byte.Symbol as room_put_byte_symbol
use Rattle.texts.proofs.room.put_byte.Met as room_put_byte_met
use Rattle.texts.specs.contracts.room.put_word as room_put_word
use Rattle.texts.proofs.room.put_word.Symbol as room_put_word_symbol
use Rattle.texts.proofs.room.put_word.Met as room_put_word_met
use Rattle.texts.specs.contracts.room.settle as room_settle
use Rattle.texts.proofs.room.settle.Symbol as room_settle_symbol
use Rattle.texts.proofs.room.settle.Met as room_settle_met
use Rattle.texts.specs.contracts.room.refuse as room_refuse
use Rattle.texts.proofs.room.refuse.Symbol as room_refuse_symbol
use Rattle.texts.proofs.room.refuse.Met as room_refuse_met
use Rattle.texts.specs.contracts.room.told_number as room_told_number
use Rattle.texts.proofs.room.told_number.Symbol as room_told_number_symbol
use Rattle.texts.proofs.room.told_number.Met as room_told_number_met
use Rattle.settling.specs.Determined.{Determined}
use Rattle.settling.proofs.Facts.{by_clause}
use Rattle.contracts.proofs.Rules.{one_answer}

pub numerals_put_count_determined :
    Determined numerals_put_count_symbol.code numerals_put_count_symbol.name numerals_put_count.ended (λ M 𝓤. numerals_put_count.clauses)
numerals_put_count_determined = record {
  met = λ M. numerals_put_count_met.met;
  kept = refl;
  free = λ M 𝓤 𝓛 mem run κs a. (tt, id⊢ 𝓤 (emp 𝓤));
  one = λ M 𝓤 𝓛 mem run κs a g g' r r' left left' s s'.
      by_clause 𝓤 numerals_put_count.ended κs a r r' left left' (λ p q. (search one_answer, search one_answer)) s s';
}

pub numerals_put_time_determined :
    Determined numerals_put_time_symbol.code numerals_put_time_symbol.name numerals_put_time.ended (λ M 𝓤. numerals_put_time.clauses)
numerals_put_time_determined = record {
  met = λ M. numerals_put_time_met.met;
  kept = refl;
  free = λ M 𝓤 𝓛 mem run κs a. (tt, id⊢ 𝓤 (emp 𝓤));
  one = λ M 𝓤 𝓛 mem run κs a g g' r r' left left' s s'.
      by_clause 𝓤 numerals_put_time.ended κs a r r' left left' (λ p q. (search one_answer, search one_answer)) s s';
}

pub numerals_put_bits_determined :
    Determined numerals_put_bits_symbol.code numerals_put_bits_symbol.name numerals_put_bits.ended (λ M 𝓤. numerals_put_bits.clauses)
numerals_put_bits_determined = record {
  met = λ M. numerals_put_bits_met.met;
  kept = refl;
  free = λ M 𝓤 𝓛 mem run κs a. (tt, id⊢ 𝓤 (emp 𝓤));
  one = λ M 𝓤 𝓛 mem run κs a g g' r r' left left' s s'.
      by_clause 𝓤 numerals_put_bits.ended κs a r r' left left' (λ p q. (search one_answer, search one_answer)) s s';
}

pub room_put_byte_determined :
    Determined room_put_byte_symbol.code room_put_byte_symbol.name room_put_byte.ended (λ M 𝓤. room_put_byte.clauses)
room_put_byte_determined = record {
  met = λ M. room_put_byte_met.met;
  kept = refl;
  free = λ M 𝓤 𝓛 mem run κs a. (tt, id⊢ 𝓤 (emp 𝓤));
  one = λ M 𝓤 𝓛 mem run κs a g g' r r' left left' s s'.
      by_clause 𝓤 room_put_byte.ended κs a r r' left left' (λ p q. (search one_answer, search one_answer)) s s';
}

pub room_put_word_determined :
    Determined room_put_word_symbol.code room_put_word_symbol.name room_put_word.ended (λ M 𝓤. room_put_word.clauses)
room_put_word_determined = record {
  met = λ M. room_put_word_met.met;
  kept = refl;
  free = λ M 𝓤 𝓛 mem run κs a. (tt, id⊢ 𝓤 (emp 𝓤));
  one = λ M 𝓤 𝓛 mem run κs a g g' r r' left left' s s'.
      by_clause 𝓤 room_put_word.ended κs a r r' left left' (λ p q. (search one_answer, search one_answer)) s s';
}

pub room_settle_determined :
    Determined room_settle_symbol.code room_settle_symbol.name room_settle.ended (λ M 𝓤. room_settle.clauses)
room_settle_determined = record {
  met = λ M. room_settle_met.met;
  kept = refl;
  free = λ M 𝓤 𝓛 mem run κs a. (tt, id⊢ 𝓤 (emp 𝓤));
  one = λ M 𝓤 𝓛 mem run κs a g g' r r' left left' s s'.
      by_clause 𝓤 room_settle.ended κs a r r' left left' (λ p q. (search one_answer, search one_answer)) s s';
}

pub room_refuse_determined :
    Determined room_refuse_symbol.code room_refuse_symbol.name room_refuse.ended (λ M 𝓤. room_refuse.clauses)
room_refuse_determined = record {
  met = λ M. room_refuse_met.met;
  kept = refl;
  free = λ M 𝓤 𝓛 mem run κs a. (tt, id⊢ 𝓤 (emp 𝓤));
  one = λ M 𝓤 𝓛 mem run κs a g g' r r' left left' s s'.
      by_clause 𝓤 room_refuse.ended κs a r r' left left' (λ p q. (search one_answer, search one_answer)) s s';
}

pub room_told_number_determined :
    Determined room_told_number_symbol.code room_told_number_symbol.name room_told_number.ended (λ M 𝓤. room_told_number.clauses)
room_told_number_determined = record {
  met = λ M. room_told_number_met.met;
  kept = refl;
  free = λ M 𝓤 𝓛 mem run κs a. (tt, id⊢ 𝓤 (emp 𝓤));
  one = λ M 𝓤 𝓛 mem run κs a g g' r r' left left' s s'.
      by_clause 𝓤 room_told_number.ended κs a r r' left left' (λ p q. (search one_answer, search one_answer)) s s';
}
