-- Each public function of number_exports_c has one answer and one lent memory. tools/contracts.py writes this file.
-- Assumes nothing.
use mathlib.Core.Path.{refl}
use base.Logic.{id⊢, emp}
use Rattle.number_exports_c.specs.contracts.root_calls.igelbert_square_root as root_calls_igelbert_square_root
use Rattle.number_exports_c.proofs.root_calls.igelbert_square_root.Symbol as root_calls_igelbert_square_root_symbol
use Rattle.number_exports_c.proofs.root_calls.igelbert_square_root.Met as root_calls_igelbert_square_root_met
use Rattle.number_exports_c.specs.contracts.time_calls.igelbert_span_between as time_calls_igelbert_span_between
use Rattle.number_exports_c.proofs.time_calls.igelbert_span_between.Symbol as time_calls_igelbert_span_between_symbol
use Rattle.number_exports_c.proofs.time_calls.igelbert_span_between.Met as time_calls_igelbert_span_between_met
use Rattle.number_exports_c.specs.contracts.time_calls.igelbert_instant_after as time_calls_igelbert_instant_after
use Rattle.number_exports_c.proofs.time_calls.igelbert_instant_after.Symbol as time_calls_igelbert_instant_after_symbol
use Rattle.number_exports_c.proofs.time_calls.igelbert_instant_after.Met as time_calls_igelbert_instant_after_met
use Rattle.number_exports_c.specs.contracts.time_calls.igelbert_seconds_of_instant as time_calls_igelbert_seconds_of_instant
use Rattle.number_exports_c.proofs.time_calls.igelbert_seconds_of_instant.Symbol as time_calls_igelbert_seconds_of_instant_symbol
use Rattle.number_exports_c.proofs.time_calls.igelbert_seconds_of_instant.Met as time_calls_igelbert_seconds_of_instant_met
use Rattle.number_exports_c.specs.contracts.time_calls.igelbert_seconds_of_span as time_calls_igelbert_seconds_of_span
use Rattle.number_exports_c.proofs.time_calls.igelbert_seconds_of_span.Symbol as time_calls_igelbert_seconds_of_span_symbol
use Rattle.number_exports_c.proofs.time_calls.igelbert_seconds_of_span.Met as time_calls_igelbert_seconds_of_span_met
use Rattle.number_exports_c.specs.contracts.time_calls.igelbert_instant_of_seconds as time_calls_igelbert_instant_of_seconds
use Rattle.number_exports_c.proofs.time_calls.igelbert_instant_of_seconds.Symbol as time_calls_igelbert_instant_of_seconds_symbol
use Rattle.number_exports_c.proofs.time_calls.igelbert_instant_of_seconds.Met as time_calls_igelbert_instant_of_seconds_met
use Rattle.number_exports_c.specs.contracts.time_calls.igelbert_span_of_seconds as time_calls_igelbert_span_of_seconds
use Rattle.number_exports_c.proofs.time_calls.igelbert_span_of_seconds.Symbol as time_calls_igelbert_span_of_seconds_symbol
use Rattle.number_exports_c.proofs.time_calls.igelbert_span_of_seconds.Met as time_calls_igelbert_span_of_seconds_met
use Rattle.settling.specs.Determined.{Determined}
use Rattle.settling.proofs.Facts.{by_clause}
use Rattle.settling.proofs.Facts.{one_answer}

pub root_calls_igelbert_square_root_determined :
    Determined root_calls_igelbert_square_root_symbol.code root_calls_igelbert_square_root_symbol.name root_calls_igelbert_square_root.ended (λ M 𝓤. root_calls_igelbert_square_root.clauses)
root_calls_igelbert_square_root_determined = record {
  met = λ M. root_calls_igelbert_square_root_met.met;
  kept = refl;
  free = λ M 𝓤 𝓛 mem run κs a. (tt, id⊢ 𝓤 (emp 𝓤));
  one = λ M 𝓤 𝓛 mem run κs a g g' r r' left left' s s'.
      by_clause 𝓤 root_calls_igelbert_square_root.ended κs a r r' left left' (λ p q. (search one_answer, search one_answer)) s s';
}

pub time_calls_igelbert_span_between_determined :
    Determined time_calls_igelbert_span_between_symbol.code time_calls_igelbert_span_between_symbol.name time_calls_igelbert_span_between.ended (λ M 𝓤. time_calls_igelbert_span_between.clauses)
time_calls_igelbert_span_between_determined = record {
  met = λ M. time_calls_igelbert_span_between_met.met;
  kept = refl;
  free = λ M 𝓤 𝓛 mem run κs a. (tt, id⊢ 𝓤 (emp 𝓤));
  one = λ M 𝓤 𝓛 mem run κs a g g' r r' left left' s s'.
      by_clause 𝓤 time_calls_igelbert_span_between.ended κs a r r' left left' (λ p q. (search one_answer, search one_answer)) s s';
}

pub time_calls_igelbert_instant_after_determined :
    Determined time_calls_igelbert_instant_after_symbol.code time_calls_igelbert_instant_after_symbol.name time_calls_igelbert_instant_after.ended (λ M 𝓤. time_calls_igelbert_instant_after.clauses)
time_calls_igelbert_instant_after_determined = record {
  met = λ M. time_calls_igelbert_instant_after_met.met;
  kept = refl;
  free = λ M 𝓤 𝓛 mem run κs a. (tt, id⊢ 𝓤 (emp 𝓤));
  one = λ M 𝓤 𝓛 mem run κs a g g' r r' left left' s s'.
      by_clause 𝓤 time_calls_igelbert_instant_after.ended κs a r r' left left' (λ p q. (search one_answer, search one_answer)) s s';
}

pub time_calls_igelbert_seconds_of_instant_determined :
    Determined time_calls_igelbert_seconds_of_instant_symbol.code time_calls_igelbert_seconds_of_instant_symbol.name time_calls_igelbert_seconds_of_instant.ended (λ M 𝓤. time_calls_igelbert_seconds_of_instant.clauses)
time_calls_igelbert_seconds_of_instant_determined = record {
  met = λ M. time_calls_igelbert_seconds_of_instant_met.met;
  kept = refl;
  free = λ M 𝓤 𝓛 mem run κs a. (tt, id⊢ 𝓤 (emp 𝓤));
  one = λ M 𝓤 𝓛 mem run κs a g g' r r' left left' s s'.
      by_clause 𝓤 time_calls_igelbert_seconds_of_instant.ended κs a r r' left left' (λ p q. (search one_answer, search one_answer)) s s';
}

pub time_calls_igelbert_seconds_of_span_determined :
    Determined time_calls_igelbert_seconds_of_span_symbol.code time_calls_igelbert_seconds_of_span_symbol.name time_calls_igelbert_seconds_of_span.ended (λ M 𝓤. time_calls_igelbert_seconds_of_span.clauses)
time_calls_igelbert_seconds_of_span_determined = record {
  met = λ M. time_calls_igelbert_seconds_of_span_met.met;
  kept = refl;
  free = λ M 𝓤 𝓛 mem run κs a. (tt, id⊢ 𝓤 (emp 𝓤));
  one = λ M 𝓤 𝓛 mem run κs a g g' r r' left left' s s'.
      by_clause 𝓤 time_calls_igelbert_seconds_of_span.ended κs a r r' left left' (λ p q. (search one_answer, search one_answer)) s s';
}

pub time_calls_igelbert_instant_of_seconds_determined :
    Determined time_calls_igelbert_instant_of_seconds_symbol.code time_calls_igelbert_instant_of_seconds_symbol.name time_calls_igelbert_instant_of_seconds.ended (λ M 𝓤. time_calls_igelbert_instant_of_seconds.clauses)
time_calls_igelbert_instant_of_seconds_determined = record {
  met = λ M. time_calls_igelbert_instant_of_seconds_met.met;
  kept = refl;
  free = λ M 𝓤 𝓛 mem run κs a. (tt, id⊢ 𝓤 (emp 𝓤));
  one = λ M 𝓤 𝓛 mem run κs a g g' r r' left left' s s'.
      by_clause 𝓤 time_calls_igelbert_instant_of_seconds.ended κs a r r' left left' (λ p q. (search one_answer, search one_answer)) s s';
}

pub time_calls_igelbert_span_of_seconds_determined :
    Determined time_calls_igelbert_span_of_seconds_symbol.code time_calls_igelbert_span_of_seconds_symbol.name time_calls_igelbert_span_of_seconds.ended (λ M 𝓤. time_calls_igelbert_span_of_seconds.clauses)
time_calls_igelbert_span_of_seconds_determined = record {
  met = λ M. time_calls_igelbert_span_of_seconds_met.met;
  kept = refl;
  free = λ M 𝓤 𝓛 mem run κs a. (tt, id⊢ 𝓤 (emp 𝓤));
  one = λ M 𝓤 𝓛 mem run κs a g g' r r' left left' s s'.
      by_clause 𝓤 time_calls_igelbert_span_of_seconds.ended κs a r r' left left' (λ p q. (search one_answer, search one_answer)) s s';
}
