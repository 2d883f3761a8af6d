-- Each public function of reply_lines has one answer and one lent memory. tools/contracts.py writes this file.
-- Assumes nothing.
use mathlib.Core.Path.{refl}
use base.Logic.{id⊢, emp}
use Rattle.reply_lines.specs.contracts.line.put_ok as line_put_ok
use Rattle.reply_lines.proofs.line.put_ok.Symbol as line_put_ok_symbol
use Rattle.reply_lines.proofs.line.put_ok.Met as line_put_ok_met
use Rattle.reply_lines.specs.contracts.line.put_path as line_put_path
use Rattle.reply_lines.proofs.line.put_path.Symbol as line_put_path_symbol
use Rattle.reply_lines.proofs.line.put_path.Met as line_put_path_met
use Rattle.reply_lines.specs.contracts.line.put_move as line_put_move
use Rattle.reply_lines.proofs.line.put_move.Symbol as line_put_move_symbol
use Rattle.reply_lines.proofs.line.put_move.Met as line_put_move_met
use Rattle.reply_lines.specs.contracts.line.put_wait as line_put_wait
use Rattle.reply_lines.proofs.line.put_wait.Symbol as line_put_wait_symbol
use Rattle.reply_lines.proofs.line.put_wait.Met as line_put_wait_met
use Rattle.reply_lines.specs.contracts.line.put_refused as line_put_refused
use Rattle.reply_lines.proofs.line.put_refused.Symbol as line_put_refused_symbol
use Rattle.reply_lines.proofs.line.put_refused.Met as line_put_refused_met
use Rattle.settling.specs.Determined.{Determined}
use Rattle.settling.proofs.Facts.{by_clause}
use Rattle.contracts.proofs.Rules.{one_answer}

pub line_put_ok_determined :
    Determined line_put_ok_symbol.code line_put_ok_symbol.name line_put_ok.ended (λ M 𝓤. line_put_ok.clauses)
line_put_ok_determined = record {
  met = λ M. line_put_ok_met.met;
  kept = refl;
  free = λ M 𝓤 𝓛 mem run κs a. (tt, id⊢ 𝓤 (emp 𝓤));
  one = λ M 𝓤 𝓛 mem run κs a g g' r r' left left' s s'.
      by_clause 𝓤 line_put_ok.ended κs a r r' left left' (λ p q. (search one_answer, search one_answer)) s s';
}

pub line_put_path_determined :
    Determined line_put_path_symbol.code line_put_path_symbol.name line_put_path.ended (λ M 𝓤. line_put_path.clauses)
line_put_path_determined = record {
  met = λ M. line_put_path_met.met;
  kept = refl;
  free = λ M 𝓤 𝓛 mem run κs a. (tt, id⊢ 𝓤 (emp 𝓤));
  one = λ M 𝓤 𝓛 mem run κs a g g' r r' left left' s s'.
      by_clause 𝓤 line_put_path.ended κs a r r' left left' (λ p q. (search one_answer, search one_answer)) s s';
}

pub line_put_move_determined :
    Determined line_put_move_symbol.code line_put_move_symbol.name line_put_move.ended (λ M 𝓤. line_put_move.clauses)
line_put_move_determined = record {
  met = λ M. line_put_move_met.met;
  kept = refl;
  free = λ M 𝓤 𝓛 mem run κs a. (tt, id⊢ 𝓤 (emp 𝓤));
  one = λ M 𝓤 𝓛 mem run κs a g g' r r' left left' s s'.
      by_clause 𝓤 line_put_move.ended κs a r r' left left' (λ p q. (search one_answer, search one_answer)) s s';
}

pub line_put_wait_determined :
    Determined line_put_wait_symbol.code line_put_wait_symbol.name line_put_wait.ended (λ M 𝓤. line_put_wait.clauses)
line_put_wait_determined = record {
  met = λ M. line_put_wait_met.met;
  kept = refl;
  free = λ M 𝓤 𝓛 mem run κs a. (tt, id⊢ 𝓤 (emp 𝓤));
  one = λ M 𝓤 𝓛 mem run κs a g g' r r' left left' s s'.
      by_clause 𝓤 line_put_wait.ended κs a r r' left left' (λ p q. (search one_answer, search one_answer)) s s';
}

pub line_put_refused_determined :
    Determined line_put_refused_symbol.code line_put_refused_symbol.name line_put_refused.ended (λ M 𝓤. line_put_refused.clauses)
line_put_refused_determined = record {
  met = λ M. line_put_refused_met.met;
  kept = refl;
  free = λ M 𝓤 𝓛 mem run κs a. (tt, id⊢ 𝓤 (emp 𝓤));
  one = λ M 𝓤 𝓛 mem run κs a g g' r r' left left' s s'.
      by_clause 𝓤 line_put_refused.ended κs a r r' left left' (λ p q. (search one_answer, search one_answer)) s s';
}
