-- Each public function of hold_year has one answer and one lent memory. tools/contracts.py writes this file.
-- Assumes nothing.
use mathlib.Core.Path.{refl}
use base.Logic.{id⊢, emp}
use Rattle.hold_year.specs.contracts.printing.print_refusal as printing_print_refusal
use Rattle.hold_year.proofs.printing.print_refusal.Symbol as printing_print_refusal_symbol
use Rattle.hold_year.proofs.printing.print_refusal.Met as printing_print_refusal_met
use Rattle.hold_year.specs.contracts.printing.print_finish as printing_print_finish
use Rattle.hold_year.proofs.printing.print_finish.Symbol as printing_print_finish_symbol
use Rattle.hold_year.proofs.printing.print_finish.Met as printing_print_finish_met
use Rattle.hold_year.specs.contracts.year.begin as year_begin
use Rattle.hold_year.proofs.year.begin.Symbol as year_begin_symbol
use Rattle.hold_year.proofs.year.begin.Met as year_begin_met
use Rattle.hold_year.specs.contracts.year.feed as year_feed
use Rattle.hold_year.proofs.year.feed.Symbol as year_feed_symbol
use Rattle.hold_year.proofs.year.feed.Met as year_feed_met
use Rattle.hold_year.specs.contracts.year.finish as year_finish
use Rattle.hold_year.proofs.year.finish.Symbol as year_finish_symbol
use Rattle.hold_year.proofs.year.finish.Met as year_finish_met
use Rattle.settling.specs.Determined.{Determined}
use Rattle.settling.proofs.Facts.{by_clause, by_clauses}
use Rattle.contracts.proofs.Rules.{one_answer}

pub printing_print_refusal_determined :
    Determined printing_print_refusal_symbol.code printing_print_refusal_symbol.name printing_print_refusal.ended (λ M 𝓤. printing_print_refusal.clauses)
printing_print_refusal_determined = record {
  met = λ M. printing_print_refusal_met.met;
  kept = refl;
  free = λ M 𝓤 𝓛 mem run κs a. (tt, id⊢ 𝓤 (emp 𝓤));
  one = λ M 𝓤 𝓛 mem run κs a g g' r r' left left' s s'.
      by_clauses 𝓤 printing_print_refusal.ended κs a r r' left left' (λ p q. (search one_answer, search one_answer)) s s';
}

pub printing_print_finish_determined :
    Determined printing_print_finish_symbol.code printing_print_finish_symbol.name printing_print_finish.ended (λ M 𝓤. printing_print_finish.clauses)
printing_print_finish_determined = record {
  met = λ M. printing_print_finish_met.met;
  kept = refl;
  free = λ M 𝓤 𝓛 mem run κs a. (tt, id⊢ 𝓤 (emp 𝓤));
  one = λ M 𝓤 𝓛 mem run κs a g g' r r' left left' s s'.
      by_clauses 𝓤 printing_print_finish.ended κs a r r' left left' (λ p q. (search one_answer, search one_answer)) s s';
}

pub year_begin_determined :
    Determined year_begin_symbol.code year_begin_symbol.name year_begin.ended (λ M 𝓤. year_begin.clauses)
year_begin_determined = record {
  met = λ M. year_begin_met.met;
  kept = refl;
  free = λ M 𝓤 𝓛 mem run κs a. (tt, id⊢ 𝓤 (emp 𝓤));
  one = λ M 𝓤 𝓛 mem run κs a g g' r r' left left' s s'.
      by_clause 𝓤 year_begin.ended κs a r r' left left' (λ p q. (search one_answer, search one_answer)) s s';
}

pub year_feed_determined :
    Determined year_feed_symbol.code year_feed_symbol.name year_feed.ended (λ M 𝓤. year_feed.clauses)
year_feed_determined = record {
  met = λ M. year_feed_met.met;
  kept = refl;
  free = λ M 𝓤 𝓛 mem run κs a. (tt, id⊢ 𝓤 (emp 𝓤));
  one = λ M 𝓤 𝓛 mem run κs a g g' r r' left left' s s'.
      by_clause 𝓤 year_feed.ended κs a r r' left left' (λ p q. (search one_answer, search one_answer)) s s';
}

pub year_finish_determined :
    Determined year_finish_symbol.code year_finish_symbol.name year_finish.ended (λ M 𝓤. year_finish.clauses)
year_finish_determined = record {
  met = λ M. year_finish_met.met;
  kept = refl;
  free = λ M 𝓤 𝓛 mem run κs a. (tt, id⊢ 𝓤 (emp 𝓤));
  one = λ M 𝓤 𝓛 mem run κs a g g' r r' left left' s s'.
      by_clause 𝓤 year_finish.ended κs a r r' left left' (λ p q. (search one_answer, search one_answer)) s s';
}
