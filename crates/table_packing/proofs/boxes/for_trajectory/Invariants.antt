-- `table_packing::boxes::for_trajectory` meets its contract: at each turn, the box widened by the waypoints from i on and
-- grown is still the box of them all.
-- Assumes nothing.
use mathlib.Core.Path.{◌≡◌}
use Prim.Native.Nat.{ℕ}
use Rattle.lent.specs.Listed.{listed_to}
use Rattle.shapes.specs.Box.{inflated}
use Rattle.shapes.specs.declared.waypoint.Waypoint.{Waypoint}
use Rattle.table.specs.Table.{waypoint_in}
use Rattle.table.specs.Obstacle.{widened, box_of_trajectory}
use Rattle.table_packing.proofs.boxes.for_trajectory.Given as goal

abbrev pub invariant-loop-i : goal.invariant-loop-i
invariant-loop-i l =
    let w : ℕ → Waypoint = waypoint_in l.marks l.places in
    inflated (widened l.b (listed_to w l.to l.i)) l.footprint ≡ box_of_trajectory l.footprint (listed_to w l.to l.from)
