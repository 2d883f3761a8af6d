-- An obstacle, its legs and its box.
-- Assumes nothing.
use Rattle.std.specs.Prelude.{List, [], ◌∷◌, Float}
use Rattle.floats.specs.Constants.{nought}
use Rattle.shapes.specs.Box.{box_of_point, incorporating, inflated}
use Rattle.shapes.specs.declared.bounding_box.BoundingBox.{BoundingBox}
use Rattle.shapes.specs.declared.profile.CircularProfile.{CircularProfile}
use Rattle.shapes.specs.declared.waypoint.Leg.{Leg}
use Rattle.shapes.specs.declared.waypoint.Waypoint.{Waypoint}

-- A profile, the conflict distance squared that it carries, its waypoints (none where it has no trajectory), and its box
-- (RULES, Words and signs; 2.16, 7.10).
pub record Obstacle : Type 0 where
  pub profile : CircularProfile
  pub limit : Float
  pub waypoints : List Waypoint
  pub bounds : BoundingBox

-- The legs of a trajectory: from each waypoint to the next (RULES, Words and signs).
abbrev pub legs_from : Waypoint → List Waypoint → List Leg
legs_from w [] = []
legs_from w (v ∷ vs) = record { start = w; end = v } ∷ legs_from v vs

unfoldable pub legs_of : List Waypoint → List Leg
legs_of [] = []
legs_of (w ∷ ws) = legs_from w ws

-- A box that takes in every waypoint's place, in order (RULES 7.7).
unfoldable pub widened : BoundingBox → List Waypoint → BoundingBox
widened b [] = b
widened b (w ∷ ws) = widened (incorporating b w.x w.y) ws

-- All waypoints, grown once by the footprint. A missing trajectory has no box; zeros stand in its place (RULES 7.10).
unfoldable pub box_of_trajectory : Float → List Waypoint → BoundingBox
box_of_trajectory footprint [] = record { left = nought; bottom = nought; right = nought; top = nought }
box_of_trajectory footprint (w ∷ ws) = inflated (widened (box_of_point w.x w.y) (w ∷ ws)) footprint

-- An obstacle with the box of its own waypoints and footprint (RULES 7.10).
unfoldable pub boxed : Obstacle → Obstacle
boxed o =
    record {
      profile = o.profile;
      limit = o.limit;
      waypoints = o.waypoints;
      bounds = box_of_trajectory o.profile.footprint o.waypoints;
    }
