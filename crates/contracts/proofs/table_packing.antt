-- Each public function of table_packing has one answer and one lent memory. tools/contracts.py writes this file.
-- Assumes nothing.
use mathlib.Core.Path.{refl}
use base.Logic.{id⊢, emp}
use Rattle.table_packing.specs.contracts.boxes.put_boxes as boxes_put_boxes
use Rattle.table_packing.proofs.boxes.put_boxes.Symbol as boxes_put_boxes_symbol
use Rattle.table_packing.proofs.boxes.put_boxes.Met as boxes_put_boxes_met
use Rattle.table_packing.specs.contracts.filling.put_count as filling_put_count
use Rattle.table_packing.proofs.filling.put_count.Symbol as filling_put_count_symbol
use Rattle.table_packing.proofs.filling.put_count.Met as filling_put_count_met
use Rattle.table_packing.specs.contracts.filling.put_ends as filling_put_ends
use Rattle.table_packing.proofs.filling.put_ends.Symbol as filling_put_ends_symbol
use Rattle.table_packing.proofs.filling.put_ends.Met as filling_put_ends_met
use Rattle.table_packing.specs.contracts.filling.put_profile as filling_put_profile
use Rattle.table_packing.proofs.filling.put_profile.Symbol as filling_put_profile_symbol
use Rattle.table_packing.proofs.filling.put_profile.Met as filling_put_profile_met
use Rattle.table_packing.specs.contracts.filling.put_box as filling_put_box
use Rattle.table_packing.proofs.filling.put_box.Symbol as filling_put_box_symbol
use Rattle.table_packing.proofs.filling.put_box.Met as filling_put_box_met
use Rattle.table_packing.specs.contracts.filling.put_waypoint as filling_put_waypoint
use Rattle.table_packing.proofs.filling.put_waypoint.Symbol as filling_put_waypoint_symbol
use Rattle.table_packing.proofs.filling.put_waypoint.Met as filling_put_waypoint_met
use Rattle.table_packing.specs.contracts.packing.pack as packing_pack
use Rattle.table_packing.proofs.packing.pack.Symbol as packing_pack_symbol
use Rattle.table_packing.proofs.packing.pack.Met as packing_pack_met
use Rattle.settling.specs.Determined.{Determined}
use Rattle.settling.proofs.Facts.{by_clause}
use Rattle.contracts.proofs.Rules.{one_answer}

pub boxes_put_boxes_determined :
    Determined boxes_put_boxes_symbol.code boxes_put_boxes_symbol.name boxes_put_boxes.ended (λ M 𝓤. boxes_put_boxes.clauses)
boxes_put_boxes_determined = record {
  met = λ M. boxes_put_boxes_met.met;
  kept = refl;
  free = λ M 𝓤 𝓛 mem run κs a. (tt, id⊢ 𝓤 (emp 𝓤));
  one = λ M 𝓤 𝓛 mem run κs a g g' r r' left left' s s'.
      by_clause 𝓤 boxes_put_boxes.ended κs a r r' left left' (λ p q. (search one_answer, search one_answer)) s s';
}

pub filling_put_count_determined :
    Determined filling_put_count_symbol.code filling_put_count_symbol.name filling_put_count.ended (λ M 𝓤. filling_put_count.clauses)
filling_put_count_determined = record {
  met = λ M. filling_put_count_met.met;
  kept = refl;
  free = λ M 𝓤 𝓛 mem run κs a. (tt, id⊢ 𝓤 (emp 𝓤));
  one = λ M 𝓤 𝓛 mem run κs a g g' r r' left left' s s'.
      by_clause 𝓤 filling_put_count.ended κs a r r' left left' (λ p q. (search one_answer, search one_answer)) s s';
}

pub filling_put_ends_determined :
    Determined filling_put_ends_symbol.code filling_put_ends_symbol.name filling_put_ends.ended (λ M 𝓤. filling_put_ends.clauses)
filling_put_ends_determined = record {
  met = λ M. filling_put_ends_met.met;
  kept = refl;
  free = λ M 𝓤 𝓛 mem run κs a. (tt, id⊢ 𝓤 (emp 𝓤));
  one = λ M 𝓤 𝓛 mem run κs a g g' r r' left left' s s'.
      by_clause 𝓤 filling_put_ends.ended κs a r r' left left' (λ p q. (search one_answer, search one_answer)) s s';
}

pub filling_put_profile_determined :
    Determined filling_put_profile_symbol.code filling_put_profile_symbol.name filling_put_profile.ended (λ M 𝓤. filling_put_profile.clauses)
filling_put_profile_determined = record {
  met = λ M. filling_put_profile_met.met;
  kept = refl;
  free = λ M 𝓤 𝓛 mem run κs a. (tt, id⊢ 𝓤 (emp 𝓤));
  one = λ M 𝓤 𝓛 mem run κs a g g' r r' left left' s s'.
      by_clause 𝓤 filling_put_profile.ended κs a r r' left left' (λ p q. (search one_answer, search one_answer)) s s';
}

pub filling_put_box_determined :
    Determined filling_put_box_symbol.code filling_put_box_symbol.name filling_put_box.ended (λ M 𝓤. filling_put_box.clauses)
filling_put_box_determined = record {
  met = λ M. filling_put_box_met.met;
  kept = refl;
  free = λ M 𝓤 𝓛 mem run κs a. (tt, id⊢ 𝓤 (emp 𝓤));
  one = λ M 𝓤 𝓛 mem run κs a g g' r r' left left' s s'.
      by_clause 𝓤 filling_put_box.ended κs a r r' left left' (λ p q. (search one_answer, search one_answer)) s s';
}

pub filling_put_waypoint_determined :
    Determined filling_put_waypoint_symbol.code filling_put_waypoint_symbol.name filling_put_waypoint.ended (λ M 𝓤. filling_put_waypoint.clauses)
filling_put_waypoint_determined = record {
  met = λ M. filling_put_waypoint_met.met;
  kept = refl;
  free = λ M 𝓤 𝓛 mem run κs a. (tt, id⊢ 𝓤 (emp 𝓤));
  one = λ M 𝓤 𝓛 mem run κs a g g' r r' left left' s s'.
      by_clause 𝓤 filling_put_waypoint.ended κs a r r' left left' (λ p q. (search one_answer, search one_answer)) s s';
}

pub packing_pack_determined :
    Determined packing_pack_symbol.code packing_pack_symbol.name packing_pack.ended (λ M 𝓤. packing_pack.clauses)
packing_pack_determined = record {
  met = λ M. packing_pack_met.met;
  kept = refl;
  free = λ M 𝓤 𝓛 mem run κs a. (tt, id⊢ 𝓤 (emp 𝓤));
  one = λ M 𝓤 𝓛 mem run κs a g g' r r' left left' s s'.
      by_clause 𝓤 packing_pack.ended κs a r r' left left' (λ p q. (search one_answer, search one_answer)) s s';
}
