-- How far an obstacle's waypoints are walked.
-- Assumes nothing.
use Rattle.std.specs.Prelude.{ℕ, ◌-◌, cond, List, Float}
use Rattle.shapes.specs.Box.{overlap}
use Rattle.shapes.specs.declared.bounding_box.BoundingBox.{BoundingBox}
use Rattle.table.specs.Table.{end_in, box_in}

-- The last waypoint of obstacle o: its legs are those from each waypoint before it to the next.
unfoldable pub last_in : List ℕ → ℕ → ℕ
last_in marks o = end_in marks o - 1

-- Where the walk over its legs ends: there, and at 0 where its box does not overlap the agent's (RULES 9.8, 10.3).
unfoldable pub walked_in : BoundingBox → List ℕ → List Float → ℕ → ℕ
walked_in bounds marks places o = cond (overlap bounds (box_in places o)) (last_in marks o) 0
