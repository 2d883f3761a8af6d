-- The box of the waypoints in a range, as it is widened one waypoint at a time.
-- Assumes nothing.
use Prim.Native.Nat.{ℕ, ◌+◌, ◌≤◌, ◌<◌}
use mathlib.Core.Path.{◌≡◌}
use lib.Ieee.{Float}
use Rattle.lent.specs.Listed.{listed_to}
use Rattle.lent.proofs.Listed.{listed_done, listed_next}
use Rattle.floats.specs.Constants.{nought}
use Rattle.shapes.specs.Box.{box_of_point, incorporating, inflated}
use Rattle.shapes.specs.declared.bounding_box.BoundingBox.{BoundingBox}
use Rattle.shapes.specs.declared.waypoint.Waypoint.{Waypoint}
use Rattle.table.specs.Obstacle.{widened, box_of_trajectory}

module _ (w : ℕ → Waypoint) (end i : ℕ) where
  pub widened_next : (b : BoundingBox) → i < end →
      widened b (listed_to w end i) ≡ widened (incorporating b (w i).x (w i).y) (listed_to w end (i + 1))
  unfolding widened
  widened_next b h = rw (listed_next w end i h)

  pub widened_done : (b : BoundingBox) → end ≤ i → widened b (listed_to w end i) ≡ b
  unfolding widened
  widened_done b h = rw (listed_done w end i h)

  -- It begins as the box of the first waypoint.
  pub box_begins : (footprint : Float) → i < end →
      inflated (widened (box_of_point (w i).x (w i).y) (listed_to w end i)) footprint ≡
      box_of_trajectory footprint (listed_to w end i)
  unfolding box_of_trajectory
  box_begins footprint h = rw (listed_next w end i h)

  pub box_of_none : (footprint : Float) → end ≤ i →
      box_of_trajectory footprint (listed_to w end i) ≡ record { left = nought; bottom = nought; right = nought; top = nought }
  unfolding box_of_trajectory
  box_of_none footprint h = rw (listed_done w end i h)

-- What a loop that widens a box cites.
pub ruleset widening = (widened_next, widened_done, box_begins, box_of_none)
