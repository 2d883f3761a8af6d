-- `table_packing::boxes::for_trajectory` meets its contract: at each turn, the box widened by the waypoints from i on and
-- grown is still the box of them all.
-- Assumes nothing.
use mathlib.Core.Path.{sym}
use lib.Ieee
use Rattle.table.specs.Table.{waypoint_in}
use Rattle.table_packing.proofs.Widening.{box_of_none}
use Rattle.table_packing.proofs.boxes.for_trajectory.Goals as goal

pub returns-then-to-from : goal.returns-then-to-from
unfolding Ieee.of_bits
returns-then-to-from c =
    let a = c.args in
    sym (box_of_none (waypoint_in a.marks.now a.places.now) a.to a.from a.footprint c.if-to-from.true)
