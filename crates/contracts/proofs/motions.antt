-- Each public function of motions has one answer and one lent memory. tools/contracts.py writes this file.
-- Assumes nothing.
use mathlib.Core.Path.{refl}
use base.Logic.{id⊢, emp}
use Rattle.motions.specs.contracts.motion.motion_at as motion_motion_at
use Rattle.motions.proofs.motion.motion_at.Symbol as motion_motion_at_symbol
use Rattle.motions.proofs.motion.motion_at.Met as motion_motion_at_met
use Rattle.motions.specs.contracts.quadratic.meeting_from as quadratic_meeting_from
use Rattle.motions.proofs.quadratic.meeting_from.Symbol as quadratic_meeting_from_symbol
use Rattle.motions.proofs.quadratic.meeting_from.Met as quadratic_meeting_from_met
use Rattle.settling.specs.Determined.{Determined}
use Rattle.settling.proofs.Facts.{by_clause}
use Rattle.contracts.proofs.Rules.{one_answer}

pub motion_motion_at_determined :
    Determined motion_motion_at_symbol.code motion_motion_at_symbol.name motion_motion_at.ended (λ M 𝓤. motion_motion_at.clauses)
motion_motion_at_determined = record {
  met = λ M. motion_motion_at_met.met;
  kept = refl;
  free = λ M 𝓤 𝓛 mem run κs a. (tt, id⊢ 𝓤 (emp 𝓤));
  one = λ M 𝓤 𝓛 mem run κs a g g' r r' left left' s s'.
      by_clause 𝓤 motion_motion_at.ended κs a r r' left left' (λ p q. (search one_answer, search one_answer)) s s';
}

pub quadratic_meeting_from_determined :
    Determined quadratic_meeting_from_symbol.code quadratic_meeting_from_symbol.name quadratic_meeting_from.ended (λ M 𝓤. quadratic_meeting_from.clauses)
quadratic_meeting_from_determined = record {
  met = λ M. quadratic_meeting_from_met.met;
  kept = refl;
  free = λ M 𝓤 𝓛 mem run κs a. (tt, id⊢ 𝓤 (emp 𝓤));
  one = λ M 𝓤 𝓛 mem run κs a g g' r r' left left' s s'.
      by_clause 𝓤 quadratic_meeting_from.ended κs a r r' left left' (λ p q. (search one_answer, search one_answer)) s s';
}
