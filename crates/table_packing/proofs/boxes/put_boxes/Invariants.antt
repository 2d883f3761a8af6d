-- `table_packing::boxes::put_boxes` meets its contract: at each turn, the places with the boxes from o on put are still those with them
-- all, and the box of each obstacle is the one that it had at first.
-- Assumes nothing.
use mathlib.Core.Path.{◌≡◌}
use mathlib.Core.List.{List}
use Prim.Native.Nat.{ℕ}
use lib.Ieee.{Float}
use Rattle.table.specs.Table.{obstacle_count}
use Rattle.table_packing.specs.Filling.{with_box, put_to, own_box, boxes_in}
use Rattle.table_packing.proofs.boxes.put_boxes.Given as goal

-- What is put for each.
abbrev pub box_at : List ℕ → List Float → ℕ → List Float → List Float
box_at marks places o l = with_box l o (own_box marks places o)

abbrev pub invariant-loop-o : goal.invariant-loop-o
invariant-loop-o l =
    ((p : ℕ) → own_box l.marks l.places p ≡ own_box l.marks l.initial.places p) ×
    (put_to (box_at l.marks l.initial.places) (obstacle_count l.marks) l.o l.places ≡ boxes_in l.marks l.initial.places)
