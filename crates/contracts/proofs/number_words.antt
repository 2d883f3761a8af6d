-- Each public function of number_words has one answer and one lent memory. tools/contracts.py writes this file.
-- Assumes nothing.
use mathlib.Core.Path.{refl}
use base.Logic.{id⊢, emp}
use Rattle.number_words.specs.contracts.word.of_signed as word_of_signed
use Rattle.number_words.proofs.word.of_signed.Symbol as word_of_signed_symbol
use Rattle.number_words.proofs.word.of_signed.Met as word_of_signed_met
use Rattle.number_words.specs.contracts.word.signed_of as word_signed_of
use Rattle.number_words.proofs.word.signed_of.Symbol as word_signed_of_symbol
use Rattle.number_words.proofs.word.signed_of.Met as word_signed_of_met
use Rattle.number_words.specs.contracts.word.of_double as word_of_double
use Rattle.number_words.proofs.word.of_double.Symbol as word_of_double_symbol
use Rattle.number_words.proofs.word.of_double.Met as word_of_double_met
use Rattle.number_words.specs.contracts.word.double_of as word_double_of
use Rattle.number_words.proofs.word.double_of.Symbol as word_double_of_symbol
use Rattle.number_words.proofs.word.double_of.Met as word_double_of_met
use Rattle.settling.specs.Determined.{Determined}
use Rattle.settling.proofs.Facts.{by_clause}
use Rattle.contracts.proofs.Rules.{one_answer}

pub word_of_signed_determined :
    Determined word_of_signed_symbol.code word_of_signed_symbol.name word_of_signed.ended (λ M 𝓤. word_of_signed.clauses)
word_of_signed_determined = record {
  met = λ M. word_of_signed_met.met;
  kept = refl;
  free = λ M 𝓤 𝓛 mem run κs a. (tt, id⊢ 𝓤 (emp 𝓤));
  one = λ M 𝓤 𝓛 mem run κs a g g' r r' left left' s s'.
      by_clause 𝓤 word_of_signed.ended κs a r r' left left' (λ p q. (search one_answer, search one_answer)) s s';
}

pub word_signed_of_determined :
    Determined word_signed_of_symbol.code word_signed_of_symbol.name word_signed_of.ended (λ M 𝓤. word_signed_of.clauses)
word_signed_of_determined = record {
  met = λ M. word_signed_of_met.met;
  kept = refl;
  free = λ M 𝓤 𝓛 mem run κs a. (tt, id⊢ 𝓤 (emp 𝓤));
  one = λ M 𝓤 𝓛 mem run κs a g g' r r' left left' s s'.
      by_clause 𝓤 word_signed_of.ended κs a r r' left left' (λ p q. (search one_answer, search one_answer)) s s';
}

pub word_of_double_determined :
    Determined word_of_double_symbol.code word_of_double_symbol.name word_of_double.ended (λ M 𝓤. word_of_double.clauses)
word_of_double_determined = record {
  met = λ M. word_of_double_met.met;
  kept = refl;
  free = λ M 𝓤 𝓛 mem run κs a. (tt, id⊢ 𝓤 (emp 𝓤));
  one = λ M 𝓤 𝓛 mem run κs a g g' r r' left left' s s'.
      by_clause 𝓤 word_of_double.ended κs a r r' left left' (λ p q. (search one_answer, search one_answer)) s s';
}

pub word_double_of_determined :
    Determined word_double_of_symbol.code word_double_of_symbol.name word_double_of.ended (λ M 𝓤. word_double_of.clauses)
word_double_of_determined = record {
  met = λ M. word_double_of_met.met;
  kept = refl;
  free = λ M 𝓤 𝓛 mem run κs a. (tt, id⊢ 𝓤 (emp 𝓤));
  one = λ M 𝓤 𝓛 mem run κs a g g' r r' left left' s s'.
      by_clause 𝓤 word_double_of.ended κs a r r' left left' (λ p q. (search one_answer, search one_answer)) s s';
}
