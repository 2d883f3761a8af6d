-- Each public function of path_search has one answer and one lent memory. tools/contracts.py writes this file.
-- Assumes nothing.
use mathlib.Core.Path.{refl}
use base.Logic.{id⊢, emp}
use Rattle.path_search.specs.contracts.trial.TrialPartialEq.eq as trial_trial_partial_eq_eq
use Rattle.path_search.proofs.trial.TrialPartialEq.eq.Symbol as trial_trial_partial_eq_eq_symbol
use Rattle.path_search.proofs.trial.TrialPartialEq.eq.Met as trial_trial_partial_eq_eq_met
use Rattle.path_search.specs.contracts.tried.Tried.ended as tried_tried_ended
use Rattle.path_search.proofs.tried.Tried.ended.Symbol as tried_tried_ended_symbol
use Rattle.path_search.proofs.tried.Tried.ended.Met as tried_tried_ended_met
use Rattle.path_search.specs.contracts.tried.links_of as tried_links_of
use Rattle.path_search.proofs.tried.links_of.Symbol as tried_links_of_symbol
use Rattle.path_search.proofs.tried.links_of.Met as tried_links_of_met
use Rattle.path_search.specs.contracts.tried.link_at as tried_link_at
use Rattle.path_search.proofs.tried.link_at.Symbol as tried_link_at_symbol
use Rattle.path_search.proofs.tried.link_at.Met as tried_link_at_met
use Rattle.path_search.specs.contracts.tried.add_link as tried_add_link
use Rattle.path_search.proofs.tried.add_link.Symbol as tried_add_link_symbol
use Rattle.path_search.proofs.tried.add_link.Met as tried_add_link_met
use Rattle.path_search.specs.contracts.tried.EndingPartialEq.eq as tried_ending_partial_eq_eq
use Rattle.path_search.proofs.tried.EndingPartialEq.eq.Symbol as tried_ending_partial_eq_eq_symbol
use Rattle.path_search.proofs.tried.EndingPartialEq.eq.Met as tried_ending_partial_eq_eq_met
use Rattle.path_search.specs.contracts.tried.TriedPartialEq.eq as tried_tried_partial_eq_eq
use Rattle.path_search.proofs.tried.TriedPartialEq.eq.Symbol as tried_tried_partial_eq_eq_symbol
use Rattle.path_search.proofs.tried.TriedPartialEq.eq.Met as tried_tried_partial_eq_eq_met
use Rattle.settling.specs.Determined.{Determined}
use Rattle.settling.proofs.Facts.{by_clause}
use Rattle.contracts.proofs.Rules.{one_answer}

pub trial_trial_partial_eq_eq_determined :
    Determined trial_trial_partial_eq_eq_symbol.code trial_trial_partial_eq_eq_symbol.name trial_trial_partial_eq_eq.ended (λ M 𝓤. trial_trial_partial_eq_eq.clauses)
trial_trial_partial_eq_eq_determined = record {
  met = λ M. trial_trial_partial_eq_eq_met.met;
  kept = refl;
  free = λ M 𝓤 𝓛 mem run κs a. (tt, id⊢ 𝓤 (emp 𝓤));
  one = λ M 𝓤 𝓛 mem run κs a g g' r r' left left' s s'.
      by_clause 𝓤 trial_trial_partial_eq_eq.ended κs a r r' left left' (λ p q. (search one_answer, search one_answer)) s s';
}

pub tried_tried_ended_determined :
    Determined tried_tried_ended_symbol.code tried_tried_ended_symbol.name tried_tried_ended.ended (λ M 𝓤. tried_tried_ended.clauses)
tried_tried_ended_determined = record {
  met = λ M. tried_tried_ended_met.met;
  kept = refl;
  free = λ M 𝓤 𝓛 mem run κs a. (tt, id⊢ 𝓤 (emp 𝓤));
  one = λ M 𝓤 𝓛 mem run κs a g g' r r' left left' s s'.
      by_clause 𝓤 tried_tried_ended.ended κs a r r' left left' (λ p q. (search one_answer, search one_answer)) s s';
}

pub tried_links_of_determined :
    Determined tried_links_of_symbol.code tried_links_of_symbol.name tried_links_of.ended (λ M 𝓤. tried_links_of.clauses)
tried_links_of_determined = record {
  met = λ M. tried_links_of_met.met;
  kept = refl;
  free = λ M 𝓤 𝓛 mem run κs a. (tt, id⊢ 𝓤 (emp 𝓤));
  one = λ M 𝓤 𝓛 mem run κs a g g' r r' left left' s s'.
      by_clause 𝓤 tried_links_of.ended κs a r r' left left' (λ p q. (search one_answer, search one_answer)) s s';
}

pub tried_link_at_determined :
    Determined tried_link_at_symbol.code tried_link_at_symbol.name tried_link_at.ended (λ M 𝓤. tried_link_at.clauses)
tried_link_at_determined = record {
  met = λ M. tried_link_at_met.met;
  kept = refl;
  free = λ M 𝓤 𝓛 mem run κs a. (tt, id⊢ 𝓤 (emp 𝓤));
  one = λ M 𝓤 𝓛 mem run κs a g g' r r' left left' s s'.
      by_clause 𝓤 tried_link_at.ended κs a r r' left left' (λ p q. (search one_answer, search one_answer)) s s';
}

pub tried_add_link_determined :
    Determined tried_add_link_symbol.code tried_add_link_symbol.name tried_add_link.ended (λ M 𝓤. tried_add_link.clauses)
tried_add_link_determined = record {
  met = λ M. tried_add_link_met.met;
  kept = refl;
  free = λ M 𝓤 𝓛 mem run κs a. (tt, id⊢ 𝓤 (emp 𝓤));
  one = λ M 𝓤 𝓛 mem run κs a g g' r r' left left' s s'.
      by_clause 𝓤 tried_add_link.ended κs a r r' left left' (λ p q. (search one_answer, search one_answer)) s s';
}

pub tried_ending_partial_eq_eq_determined :
    Determined tried_ending_partial_eq_eq_symbol.code tried_ending_partial_eq_eq_symbol.name tried_ending_partial_eq_eq.ended (λ M 𝓤. tried_ending_partial_eq_eq.clauses)
tried_ending_partial_eq_eq_determined = record {
  met = λ M. tried_ending_partial_eq_eq_met.met;
  kept = refl;
  free = λ M 𝓤 𝓛 mem run κs a. (tt, id⊢ 𝓤 (emp 𝓤));
  one = λ M 𝓤 𝓛 mem run κs a g g' r r' left left' s s'.
      by_clause 𝓤 tried_ending_partial_eq_eq.ended κs a r r' left left' (λ p q. (search one_answer, search one_answer)) s s';
}

pub tried_tried_partial_eq_eq_determined :
    Determined tried_tried_partial_eq_eq_symbol.code tried_tried_partial_eq_eq_symbol.name tried_tried_partial_eq_eq.ended (λ M 𝓤. tried_tried_partial_eq_eq.clauses)
tried_tried_partial_eq_eq_determined = record {
  met = λ M. tried_tried_partial_eq_eq_met.met;
  kept = refl;
  free = λ M 𝓤 𝓛 mem run κs a. (tt, id⊢ 𝓤 (emp 𝓤));
  one = λ M 𝓤 𝓛 mem run κs a g g' r r' left left' s s'.
      by_clause 𝓤 tried_tried_partial_eq_eq.ended κs a r r' left left' (λ p q. (search one_answer, search one_answer)) s s';
}
