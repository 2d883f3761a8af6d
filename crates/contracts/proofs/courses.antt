-- Each public function of courses has one answer and one lent memory. tools/contracts.py writes this file.
-- Assumes nothing.
use mathlib.Core.Path.{refl}
use base.Logic.{id⊢, emp}
use Rattle.courses.specs.contracts.course.run_of as course_run_of
use Rattle.courses.proofs.course.run_of.Symbol as course_run_of_symbol
use Rattle.courses.proofs.course.run_of.Met as course_run_of_met
use Rattle.courses.specs.contracts.course.course_of as course_course_of
use Rattle.courses.proofs.course.course_of.Symbol as course_course_of_symbol
use Rattle.courses.proofs.course.course_of.Met as course_course_of_met
use Rattle.courses.specs.contracts.norm.norm as norm_norm
use Rattle.courses.proofs.norm.norm.Symbol as norm_norm_symbol
use Rattle.courses.proofs.norm.norm.Met as norm_norm_met
use Rattle.courses.specs.contracts.norm.try_normalize as norm_try_normalize
use Rattle.courses.proofs.norm.try_normalize.Symbol as norm_try_normalize_symbol
use Rattle.courses.proofs.norm.try_normalize.Met as norm_try_normalize_met
use Rattle.settling.specs.Determined.{Determined}
use Rattle.settling.proofs.Facts.{by_clause}
use Rattle.contracts.proofs.Rules.{one_answer}

pub course_run_of_determined :
    Determined course_run_of_symbol.code course_run_of_symbol.name course_run_of.ended (λ M 𝓤. course_run_of.clauses)
course_run_of_determined = record {
  met = λ M. course_run_of_met.met;
  kept = refl;
  free = λ M 𝓤 𝓛 mem run κs a. (tt, id⊢ 𝓤 (emp 𝓤));
  one = λ M 𝓤 𝓛 mem run κs a g g' r r' left left' s s'.
      by_clause 𝓤 course_run_of.ended κs a r r' left left' (λ p q. (search one_answer, search one_answer)) s s';
}

pub course_course_of_determined :
    Determined course_course_of_symbol.code course_course_of_symbol.name course_course_of.ended (λ M 𝓤. course_course_of.clauses)
course_course_of_determined = record {
  met = λ M. course_course_of_met.met;
  kept = refl;
  free = λ M 𝓤 𝓛 mem run κs a. (tt, id⊢ 𝓤 (emp 𝓤));
  one = λ M 𝓤 𝓛 mem run κs a g g' r r' left left' s s'.
      by_clause 𝓤 course_course_of.ended κs a r r' left left' (λ p q. (search one_answer, search one_answer)) s s';
}

pub norm_norm_determined :
    Determined norm_norm_symbol.code norm_norm_symbol.name norm_norm.ended (λ M 𝓤. norm_norm.clauses)
norm_norm_determined = record {
  met = λ M. norm_norm_met.met;
  kept = refl;
  free = λ M 𝓤 𝓛 mem run κs a. (tt, id⊢ 𝓤 (emp 𝓤));
  one = λ M 𝓤 𝓛 mem run κs a g g' r r' left left' s s'.
      by_clause 𝓤 norm_norm.ended κs a r r' left left' (λ p q. (search one_answer, search one_answer)) s s';
}

pub norm_try_normalize_determined :
    Determined norm_try_normalize_symbol.code norm_try_normalize_symbol.name norm_try_normalize.ended (λ M 𝓤. norm_try_normalize.clauses)
norm_try_normalize_determined = record {
  met = λ M. norm_try_normalize_met.met;
  kept = refl;
  free = λ M 𝓤 𝓛 mem run κs a. (tt, id⊢ 𝓤 (emp 𝓤));
  one = λ M 𝓤 𝓛 mem run κs a g g' r r' left left' s s'.
      by_clause 𝓤 norm_try_normalize.ended κs a r r' left left' (λ p q. (search one_answer, search one_answer)) s s';
}
