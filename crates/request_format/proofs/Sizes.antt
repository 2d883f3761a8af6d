-- How many bits the parts of a request take, and that each is 0 or 1.
-- Assumes nothing.
use Prim.Native.Nat.{◌*◌}
use mathlib.Core.Path.{◌≡◌, refl, ◌∙◌}
use mathlib.Core.List.{List, [], ◌∷◌}
use native.Mathlib.Omega.{arith}
use lib.ListN.{length, length-append}
use Rattle.request_format.specs.Request.{Point, StreamObstacle, Request}
use Rattle.request_format.specs.Format.{obstacle_bits, bits_in_all, request_bits}
use Rattle.request_format.specs.Written.{bits_for, point_bits, obstacle_fields, request_fields}
use Rattle.request_format.proofs.Numbers.{length_bits}
use Rattle.request_format.proofs.Packing.{AreBits, bits_append, bits_of_law, bits_for_law}

-- A waypoint takes 178 (RULES 14.12),
pub length_point : (p : Point) → length (point_bits p) ≡ 178
unfolding point_bits
length_point p = simp (length-append, length_bits)

pub length_points : (ps : List Point) → length (bits_for point_bits ps) ≡ 178 * length ps
unfolding bits_for
length_points [] = refl
length_points (p ∷ ps) =
    length-append (point_bits p) (bits_for point_bits ps) ∙ omega (arith, length_point p, length_points ps)

-- an obstacle 201 and its waypoints (RULES 14.8 to 14.12),
pub length_obstacle : (o : StreamObstacle) → length (obstacle_fields o) ≡ obstacle_bits (length o.points)
unfolding obstacle_fields
length_obstacle o = simp (length-append, length_bits, length_points) (omega arith)

pub length_obstacles : (os : List StreamObstacle) → length (bits_for obstacle_fields os) ≡ bits_in_all os
unfolding bits_for bits_in_all
length_obstacles [] = refl
length_obstacles (o ∷ os) =
    length-append (obstacle_fields o) (bits_for obstacle_fields os) ∙ omega (arith, length_obstacle o, length_obstacles os)

-- a request 510 and its obstacles (RULES 14.1 to 14.12).
pub length_request : (r : Request) → length (request_fields r) ≡ request_bits r.obstacles
unfolding request_fields request_bits
length_request r = simp (length-append, length_bits, length_point, length_obstacles) (omega arith)

-- ---- Each of them is a bit.

point_bits_law : (p : Point) → AreBits (point_bits p)
unfolding point_bits
point_bits_law p = search (bits_append, bits_of_law)

obstacle_bits_law : (o : StreamObstacle) → AreBits (obstacle_fields o)
unfolding obstacle_fields
obstacle_bits_law o = search (bits_append, bits_of_law, bits_for_law point_bits point_bits_law) depth 8

pub request_bits_law : (r : Request) → AreBits (request_fields r)
unfolding request_fields
request_bits_law r = search (bits_append, bits_of_law, point_bits_law, bits_for_law obstacle_fields obstacle_bits_law) depth 12
