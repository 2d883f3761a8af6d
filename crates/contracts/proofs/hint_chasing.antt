-- Each public function of hint_chasing has one answer and one lent memory. tools/contracts.py writes this file.
-- Assumes nothing.
use mathlib.Core.Path.{refl}
use base.Logic.{id⊢, emp}
use Rattle.hint_chasing.specs.contracts.chase.first_seen as chase_first_seen
use Rattle.hint_chasing.proofs.chase.first_seen.Symbol as chase_first_seen_symbol
use Rattle.hint_chasing.proofs.chase.first_seen.Met as chase_first_seen_met
use Rattle.hint_chasing.specs.contracts.chase.chase_of as chase_chase_of
use Rattle.hint_chasing.proofs.chase.chase_of.Symbol as chase_chase_of_symbol
use Rattle.hint_chasing.proofs.chase.chase_of.Met as chase_chase_of_met
use Rattle.hint_chasing.specs.contracts.chase.set_out as chase_set_out
use Rattle.hint_chasing.proofs.chase.set_out.Symbol as chase_set_out_symbol
use Rattle.hint_chasing.proofs.chase.set_out.Met as chase_set_out_met
use Rattle.settling.specs.Determined.{Determined}
use Rattle.settling.proofs.Facts.{by_clause}
use Rattle.contracts.proofs.Rules.{one_answer}

pub chase_first_seen_determined :
    Determined chase_first_seen_symbol.code chase_first_seen_symbol.name chase_first_seen.ended (λ M 𝓤. chase_first_seen.clauses)
chase_first_seen_determined = record {
  met = λ M. chase_first_seen_met.met;
  kept = refl;
  free = λ M 𝓤 𝓛 mem run κs a. (tt, id⊢ 𝓤 (emp 𝓤));
  one = λ M 𝓤 𝓛 mem run κs a g g' r r' left left' s s'.
      by_clause 𝓤 chase_first_seen.ended κs a r r' left left' (λ p q. (search one_answer, search one_answer)) s s';
}

pub chase_chase_of_determined :
    Determined chase_chase_of_symbol.code chase_chase_of_symbol.name chase_chase_of.ended (λ M 𝓤. chase_chase_of.clauses)
chase_chase_of_determined = record {
  met = λ M. chase_chase_of_met.met;
  kept = refl;
  free = λ M 𝓤 𝓛 mem run κs a. (tt, id⊢ 𝓤 (emp 𝓤));
  one = λ M 𝓤 𝓛 mem run κs a g g' r r' left left' s s'.
      by_clause 𝓤 chase_chase_of.ended κs a r r' left left' (λ p q. (search one_answer, search one_answer)) s s';
}

pub chase_set_out_determined :
    Determined chase_set_out_symbol.code chase_set_out_symbol.name chase_set_out.ended (λ M 𝓤. chase_set_out.clauses)
chase_set_out_determined = record {
  met = λ M. chase_set_out_met.met;
  kept = refl;
  free = λ M 𝓤 𝓛 mem run κs a. (tt, id⊢ 𝓤 (emp 𝓤));
  one = λ M 𝓤 𝓛 mem run κs a g g' r r' left left' s s'.
      by_clause 𝓤 chase_set_out.ended κs a r r' left left' (λ p q. (search one_answer, search one_answer)) s s';
}
