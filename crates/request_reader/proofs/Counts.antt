-- How many waypoints the obstacles of a request have: those that are left, and all of them.
-- Assumes nothing.
use Prim.Native.Nat.{ℕ, ◌+◌, ◌-◌, ◌*◌, ◌≤◌, ◌<◌}
use mathlib.Core.Path.{◌≡◌, refl}
use mathlib.Core.Bool.{true}
use mathlib.Core.List.{List, [], ◌∷◌}
use native.Mathlib.Omega.{arith}
use lib.ListN.{length, length-append}
use Rattle.request_format.specs.Bits.{number_at}
use Rattle.request_format.specs.Request.{StreamObstacle}
use Rattle.request_format.specs.Format.{obstacle_at, obstacles_at, legs_counted, are_counted}
pub use Rattle.request_format.proofs.Counts.{few_obstacles}
use Rattle.request_format.proofs.Counts.{length_own, obstacles_next, counts}
use Rattle.request_reader.specs.Table.{points_of}

-- Those of the first of the obstacles that are left after o of them, and of the others.
pub count_next : (s : List ℕ) (at end o : ℕ) → o < end → let p = number_at s (at + 192) 9 in
    length (points_of (obstacles_at s at (end - o))) ≡ p + length (points_of (obstacles_at s (at + (201 + 178 * p)) (end - (o + 1))))
unfolding points_of
count_next s at end o h =
    rw (obstacles_next s at end o _ h refl, length-append (obstacle_at s at).points _, length_own s at)

-- At most one more for each obstacle than it has legs.
points_at_most : (os : List StreamObstacle) → length (points_of os) ≤ length os + legs_counted os
unfolding points_of legs_counted
points_at_most [] = omega arith
points_at_most (o ∷ os) = omega (arith, points_at_most os, length-append o.points (points_of os))

pub few_points : (os : List StreamObstacle) → are_counted os ≡ true → length (points_of os) ≤ 288
few_points os h = omega (arith, (counts os h).0, (counts os h).1, points_at_most os)

-- How many waypoints there are, and how many obstacles.
pub ruleset points_told = (count_next, few_points, few_obstacles)
