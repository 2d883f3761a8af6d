-- A request as the numbers that a plan is asked with: the agent, and the lent lists of the obstacles (RULES 14.14, 14.15, 20.7).
-- Assumes nothing.
use Rattle.std.specs.Prelude.{ℕ, ◌+◌, List, [], ◌∷◌, ◌++◌, map, ℤ, pos, Float, length}
use Rattle.std.specs.Float.{binary64}
use Rattle.std.specs.Float.Ieee.{of_bits}
use Rattle.shapes.specs.declared.profile.CircularProfile.{CircularProfile}
use Rattle.shapes.specs.declared.waypoint.Leg.{Leg}
use Rattle.shapes.specs.declared.waypoint.Waypoint.{Waypoint}
use Rattle.table.specs.Obstacle as O
use Rattle.table.specs.Obstacle.{box_of_trajectory}
use Rattle.table.specs.Lent.{Lent, lent_of}
use Rattle.request_format.specs.Request.{Point, StreamObstacle, Request}

-- The double of 64 bits (RULES 14.14).
abbrev pub double : ℕ → Float
double w = of_bits binary64 w

-- ---- The agent.

abbrev pub request_waypoint : Point → Waypoint
request_waypoint p = record { time = record { 0 = pos p.time }; x = double p.x; y = double p.y }

abbrev pub request_profile : ℕ → ℕ → CircularProfile
request_profile footprint follow = record { footprint = double footprint; follow = double follow }

unfoldable pub request_leg : Request → Leg
request_leg r = record { start = request_waypoint r.from; end = request_waypoint r.to }

-- ---- The obstacles.

-- What an obstacle of the request is: its profile, the conflict distance squared that it carries, its waypoints, its box
-- (RULES 2.16, 7.10).
unfoldable pub obstacle_of : StreamObstacle → O.Obstacle
obstacle_of o =
    record {
      profile = request_profile o.footprint o.follow;
      limit = double o.limit;
      waypoints = map request_waypoint o.points;
      bounds = box_of_trajectory (double o.footprint) (map request_waypoint o.points);
    }

-- Where the waypoints of each obstacle begin, when i stand before them.
unfoldable pub starts_from : ℕ → List StreamObstacle → List ℕ
starts_from i [] = []
starts_from i (o ∷ os) = i ∷ starts_from (i + length o.points) os

-- Three numbers for each.
unfoldable pub obstacle_numbers : List StreamObstacle → List Float
obstacle_numbers [] = []
obstacle_numbers (o ∷ os) = double o.footprint ∷ (double o.follow ∷ (double o.limit ∷ obstacle_numbers os))

-- The waypoints of all, one obstacle behind another.
unfoldable pub points_of : List StreamObstacle → List Point
points_of [] = []
points_of (o ∷ os) = o.points ++ points_of os

abbrev pub times_of : List Point → List ℤ
times_of ps = map (λ p. pos p.time) ps

abbrev pub xs_of : List Point → List Float
xs_of ps = map (λ p. double p.x) ps

abbrev pub ys_of : List Point → List Float
ys_of ps = map (λ p. double p.y) ps

unfoldable pub table_of : List StreamObstacle → Lent
table_of os =
    lent_of (starts_from 0 os) (obstacle_numbers os) (times_of (points_of os)) (xs_of (points_of os)) (ys_of (points_of os))
