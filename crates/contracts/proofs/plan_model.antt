-- Each public function of plan_model has one answer and one lent memory. tools/contracts.py writes this file.
-- Assumes nothing.
use mathlib.Core.Path.{refl}
use base.Logic.{id⊢, emp}
use Rattle.plan_model.specs.contracts.rooms.put_path as rooms_put_path
use Rattle.plan_model.proofs.rooms.put_path.Symbol as rooms_put_path_symbol
use Rattle.plan_model.proofs.rooms.put_path.Met as rooms_put_path_met
use Rattle.plan_model.specs.contracts.rooms.refuse as rooms_refuse
use Rattle.plan_model.proofs.rooms.refuse.Symbol as rooms_refuse_symbol
use Rattle.plan_model.proofs.rooms.refuse.Met as rooms_refuse_met
use Rattle.plan_model.specs.contracts.rooms.settle as rooms_settle
use Rattle.plan_model.proofs.rooms.settle.Symbol as rooms_settle_symbol
use Rattle.plan_model.proofs.rooms.settle.Met as rooms_settle_met
use Rattle.plan_model.specs.contracts.rooms.move_at_once as rooms_move_at_once
use Rattle.plan_model.proofs.rooms.move_at_once.Symbol as rooms_move_at_once_symbol
use Rattle.plan_model.proofs.rooms.move_at_once.Met as rooms_move_at_once_met
use Rattle.plan_model.specs.contracts.rooms.PathsPartialEq.eq as rooms_paths_partial_eq_eq
use Rattle.plan_model.proofs.rooms.PathsPartialEq.eq.Symbol as rooms_paths_partial_eq_eq_symbol
use Rattle.plan_model.proofs.rooms.PathsPartialEq.eq.Met as rooms_paths_partial_eq_eq_met
use Rattle.settling.specs.Determined.{Determined}
use Rattle.settling.proofs.Facts.{by_clause}
use Rattle.contracts.proofs.Rules.{one_answer}

pub rooms_put_path_determined :
    Determined rooms_put_path_symbol.code rooms_put_path_symbol.name rooms_put_path.ended (λ M 𝓤. rooms_put_path.clauses)
rooms_put_path_determined = record {
  met = λ M. rooms_put_path_met.met;
  kept = refl;
  free = λ M 𝓤 𝓛 mem run κs a. (tt, id⊢ 𝓤 (emp 𝓤));
  one = λ M 𝓤 𝓛 mem run κs a g g' r r' left left' s s'.
      by_clause 𝓤 rooms_put_path.ended κs a r r' left left' (λ p q. (search one_answer, search one_answer)) s s';
}

pub rooms_refuse_determined :
    Determined rooms_refuse_symbol.code rooms_refuse_symbol.name rooms_refuse.ended (λ M 𝓤. rooms_refuse.clauses)
rooms_refuse_determined = record {
  met = λ M. rooms_refuse_met.met;
  kept = refl;
  free = λ M 𝓤 𝓛 mem run κs a. (tt, id⊢ 𝓤 (emp 𝓤));
  one = λ M 𝓤 𝓛 mem run κs a g g' r r' left left' s s'.
      by_clause 𝓤 rooms_refuse.ended κs a r r' left left' (λ p q. (search one_answer, search one_answer)) s s';
}

pub rooms_settle_determined :
    Determined rooms_settle_symbol.code rooms_settle_symbol.name rooms_settle.ended (λ M 𝓤. rooms_settle.clauses)
rooms_settle_determined = record {
  met = λ M. rooms_settle_met.met;
  kept = refl;
  free = λ M 𝓤 𝓛 mem run κs a. (tt, id⊢ 𝓤 (emp 𝓤));
  one = λ M 𝓤 𝓛 mem run κs a g g' r r' left left' s s'.
      by_clause 𝓤 rooms_settle.ended κs a r r' left left' (λ p q. (search one_answer, search one_answer)) s s';
}

pub rooms_move_at_once_determined :
    Determined rooms_move_at_once_symbol.code rooms_move_at_once_symbol.name rooms_move_at_once.ended (λ M 𝓤. rooms_move_at_once.clauses)
rooms_move_at_once_determined = record {
  met = λ M. rooms_move_at_once_met.met;
  kept = refl;
  free = λ M 𝓤 𝓛 mem run κs a. (tt, id⊢ 𝓤 (emp 𝓤));
  one = λ M 𝓤 𝓛 mem run κs a g g' r r' left left' s s'.
      by_clause 𝓤 rooms_move_at_once.ended κs a r r' left left' (λ p q. (search one_answer, search one_answer)) s s';
}

pub rooms_paths_partial_eq_eq_determined :
    Determined rooms_paths_partial_eq_eq_symbol.code rooms_paths_partial_eq_eq_symbol.name rooms_paths_partial_eq_eq.ended (λ M 𝓤. rooms_paths_partial_eq_eq.clauses)
rooms_paths_partial_eq_eq_determined = record {
  met = λ M. rooms_paths_partial_eq_eq_met.met;
  kept = refl;
  free = λ M 𝓤 𝓛 mem run κs a. (tt, id⊢ 𝓤 (emp 𝓤));
  one = λ M 𝓤 𝓛 mem run κs a g g' r r' left left' s s'.
      by_clause 𝓤 rooms_paths_partial_eq_eq.ended κs a r r' left left' (λ p q. (search one_answer, search one_answer)) s s';
}
