-- Each public function of hold_report has one answer and one lent memory. tools/contracts.py writes this file.
-- Assumes nothing.
use mathlib.Core.Path.{refl}
use base.Logic.{id⊢, emp}
use Rattle.hold_report.specs.contracts.report.put_report as report_put_report
use Rattle.hold_report.proofs.report.put_report.Symbol as report_put_report_symbol
use Rattle.hold_report.proofs.report.put_report.Met as report_put_report_met
use Rattle.settling.specs.Determined.{Determined}
use Rattle.settling.proofs.Facts.{by_clause}
use Rattle.contracts.proofs.Rules.{one_answer}

pub report_put_report_determined :
    Determined report_put_report_symbol.code report_put_report_symbol.name report_put_report.ended (λ M 𝓤. report_put_report.clauses)
report_put_report_determined = record {
  met = λ M. report_put_report_met.met;
  kept = refl;
  free = λ M 𝓤 𝓛 mem run κs a. (tt, id⊢ 𝓤 (emp 𝓤));
  one = λ M 𝓤 𝓛 mem run κs a g g' r r' left left' s s'.
      by_clause 𝓤 report_put_report.ended κs a r r' left left' (λ p q. (search one_answer, search one_answer)) s s';
}
