-- `table_packing::boxes::put_boxes` meets its contract: at each turn, the places with the boxes from o on put are still those with them
-- all, and the box of each obstacle is the one that it had at first.
-- Assumes nothing.
use mathlib.Core.Path.{◌≡◌, sym, ap, ◌∙◌}
use Prim.Native.Nat.{◌+◌, ◌<◌}
use native.Mathlib.Omega.{arith}
use Rattle.table.specs.Table.{obstacle_count}
use Rattle.table_packing.specs.Filling.{with_box, put_to, own_box}
use Rattle.table_packing.proofs.Stored.{put_next}
use Rattle.table_packing.proofs.Boxed.{own_box_kept}
use Rattle.table_packing.proofs.boxes.put_boxes.Goals as goal
use Rattle.table_packing.proofs.boxes.put_boxes.Invariants.{box_at}

pub loop-o-preserved : goal.loop-o-preserved
loop-o-preserved c =
    let l = c.loop-o in
    let m = c.args.marks.now in
    let places = c.args.places.now in
    let n = obstacle_count m in
    let more : l.o < n = omega (arith, c.loop-o-test.true, c.count_of-o-end.ensures) in
    let put : c.put_box.new.places ≡ box_at m places l.o l.places =
    c.put_box.ensures ∙ ap (with_box l.places l.o) (c.box_of-b.ensures ∙ l.invariant.0 l.o) in (
      λ p. ap (λ ps. own_box m ps p) put ∙ own_box_kept l.places l.o (own_box m places l.o) m p ∙ l.invariant.0 p,
      ap (put_to (box_at m places) n (l.o + 1)) put ∙ sym (put_next (box_at m places) n l.o l.places more) ∙ l.invariant.1,
    )
