-- The legs that the search watches: those of all obstacles, each with its limit, as seen from the place that is asked for
-- (RULES 12.1, 12.2, 12.16).
-- Assumes nothing.
use Rattle.std.specs.Prelude.{Bool, List, [], ◌∷◌, Float}
use Rattle.std.specs.Float.Ieee
use Rattle.shapes.specs.Distance.{critical_distance_squared}
use Rattle.shapes.specs.Leg.{place_of}
use Rattle.shapes.specs.Vector.{vector_difference, dot_of}
use Rattle.shapes.specs.declared.profile.CircularProfile.{CircularProfile}
use Rattle.shapes.specs.declared.waypoint.Leg.{Leg}
use Rattle.shapes.specs.declared.waypoint.Waypoint.{Waypoint}
use Rattle.proximity.specs.Proximity.{proximity_of}
use Rattle.proximity.specs.declared.detect.Proximity.{Proximity}
use Rattle.table.specs.Obstacle.{Obstacle, legs_of}
use Rattle.arrival_search.specs.Search.{View, Searched, arrivals}
use Rattle.std.specs.Prelude.{Result}
use Rattle.refusals.specs.declared.Refusal.{Refusal}

-- A leg of an obstacle, and the squared distance that it is held to.
pub record Watched : Type 0 where
  pub leg : Leg
  pub limit : Float

abbrev pub watched : Float → Leg → Watched
watched limit leg = record { leg = leg; limit = limit }

-- The agent standing at the place for as long as the leg lasts (RULES 12.2).
unfoldable pub standing_leg : Waypoint → Leg → Leg
standing_leg g leg =
    record {
      start = record { time = leg.start.time; x = g.x; y = g.y };
      end = record { time = leg.end.time; x = g.x; y = g.y };
    }

unfoldable pub near_of : Waypoint → Float → Leg → Result Proximity Refusal
near_of g limit leg = proximity_of limit (standing_leg g leg) leg

-- The last place is within the limit of the place asked for (RULES 12.16).
unfoldable pub ends_near : Waypoint → Float → Waypoint → Bool
ends_near g limit w = let apart = vector_difference (place_of w) (place_of g) in Ieee.le (dot_of apart apart) limit

-- What the search asks of such a leg.
abbrev pub view_at : Waypoint → View Watched
view_at g =
    record {
      start = λ w. w.leg.start.time;
      end = λ w. w.leg.end.time;
      near = λ w. near_of g w.limit w.leg;
      ends_near = λ w. ends_near g w.limit w.leg.end;
    }

-- The legs of an obstacle, held to the critical distance squared of the agent and the obstacle (RULES 12.1).
unfoldable pub watched_legs : Float → List Leg → List Watched
watched_legs limit [] = []
watched_legs limit (leg ∷ legs) = watched limit leg ∷ watched_legs limit legs

abbrev pub watched_of : CircularProfile → Obstacle → List Watched
watched_of p o = watched_legs (critical_distance_squared p o.profile) (legs_of o.waypoints)

unfoldable pub watched_all : CircularProfile → List Obstacle → List (List Watched)
watched_all p [] = []
watched_all p (o ∷ os) = watched_of p o ∷ watched_all p os

-- The safe arrival times at a waypoint's place, from its time on (RULES 12.3).
unfoldable pub arrivals_at : CircularProfile → Waypoint → List Obstacle → Searched
arrivals_at p g os = arrivals (view_at g) (watched_all p os) g.time
