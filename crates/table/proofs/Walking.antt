-- What is read of the packed table: at most 32 obstacles and 288 waypoints, and the legs of an obstacle.
-- Assumes nothing.
use Prim.Native.Nat.{ℕ, ◌+◌, ◌-◌, ◌≤◌, min}
use mathlib.Core.Path.{◌≡◌, ◌∙◌}
use mathlib.Core.Bool.{Bool, true, false, cond}
use mathlib.Core.List.{List, []}
use native.Mathlib.Nat.{sub-zero}
use native.Mathlib.Omega.{arith}
use lib.ListN.{length}
use lib.Ieee.{Float}
use Rattle.lent.specs.Listed.{listed_to}
use Rattle.lent.proofs.Listed.{listed_done, length_listed}
use Rattle.shapes.specs.Box.{overlap}
use Rattle.shapes.specs.declared.bounding_box.BoundingBox.{BoundingBox}
use Rattle.table.specs.Obstacle.{legs_of}
use Rattle.table.proofs.Legs.{legs_up_to}
use Rattle.table.specs.Table.{obstacle_count, first_in, end_in, box_in, waypoint_in, leg_in, waypoints_in, obstacle_in, obstacles_in}
use Rattle.table.specs.Walked.{last_in, walked_in}

-- Past the room the last waypoint in it is read.
pub waypoint_capped : (marks : List ℕ) (places : List Float) (i : ℕ) →
    waypoint_in marks places (min 287 i) ≡ waypoint_in marks places i
unfolding waypoint_in
waypoint_capped marks places i = let same : min 287 (min 287 i) ≡ min 287 i = omega arith in rw same

pub next_capped : (marks : List ℕ) (places : List Float) (i : ℕ) →
    waypoint_in marks places (min 287 i + 1) ≡ waypoint_in marks places (i + 1)
unfolding waypoint_in
next_capped marks places i = let same : min 287 (min 287 i + 1) ≡ min 287 (i + 1) = omega arith in rw same

-- ---- How many there are.

pub few_in_table : (marks : List ℕ) → obstacle_count marks ≤ 32
unfolding obstacle_count
few_in_table marks = omega arith

pub end_in_room : (marks : List ℕ) (o : ℕ) → end_in marks o ≤ 288
unfolding end_in
end_in_room marks o = omega arith

pub last_in_room : (marks : List ℕ) (o : ℕ) → last_in marks o ≤ 287
unfolding last_in
last_in_room marks o = omega (arith, end_in_room marks o)

pub obstacles_counted : (marks : List ℕ) (places : List Float) → length (obstacles_in marks places) ≡ obstacle_count marks
unfolding obstacles_in
obstacles_counted marks places =
    length_listed (obstacle_in marks places) (obstacle_count marks - 0) 0 ∙ sub-zero (obstacle_count marks)

-- ---- The legs of obstacle o, up to its last waypoint. A walk up to waypoint 0 has no legs, as one that ends before its first has none.

pub legs_in_law : (marks : List ℕ) (places : List Float) (o : ℕ) →
    listed_to (leg_in marks places) (last_in marks o) (first_in marks o) ≡ legs_of (waypoints_in marks places o)
unfolding last_in waypoints_in
legs_in_law marks places o = legs_up_to (waypoint_in marks places) (end_in marks o) (first_in marks o)

-- Those that a walk takes: all of them where its box overlaps the agent's, else none.
pub legs_walked : (bounds : BoundingBox) (marks : List ℕ) (places : List Float) (o : ℕ) →
    listed_to (leg_in marks places) (walked_in bounds marks places o) (first_in marks o) ≡
    cond (overlap bounds (box_in places o)) (legs_of (waypoints_in marks places o)) []
unfolding walked_in
legs_walked bounds marks places o = by (overlap bounds (box_in places o))
  where
    by : (t : Bool) →
        listed_to (leg_in marks places) (cond t (last_in marks o) 0) (first_in marks o) ≡ cond t (legs_of (waypoints_in marks places o)) []
    by true = legs_in_law marks places o
    by false = listed_done (leg_in marks places) 0 (first_in marks o) (omega arith)
