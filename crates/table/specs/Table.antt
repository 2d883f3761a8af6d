-- The obstacles that stand in a packed table, a list of marks and one of places. Mark 0 is their count; four marks for each from
-- mark 1 on: where its waypoints begin, where they end, and two that are spare; the time of each waypoint from mark 129 on. Seven
-- places for each obstacle: footprint, follow buffer, conflict distance squared, and its box; x and y of each waypoint from place
-- 224 on. There is room for 32 obstacles and 288 waypoints, which 256 legs of 32 obstacles have (RULES 3.5).
-- Assumes nothing.
use Rattle.std.specs.Prelude.{ℕ, ◌+◌, ◌*◌, min, List, get_or, Float}
use Rattle.std.specs.Float.{nan}
use Rattle.lent.specs.Listed.{listed_to}
use Rattle.number_words.specs.Word.{signed_of}
use Rattle.shapes.specs.declared.bounding_box.BoundingBox.{BoundingBox}
use Rattle.shapes.specs.declared.profile.CircularProfile.{CircularProfile}
use Rattle.shapes.specs.declared.waypoint.Leg.{Leg}
use Rattle.shapes.specs.declared.waypoint.Waypoint.{Waypoint}
use Rattle.table.specs.Obstacle.{Obstacle}

-- How many obstacles there are.
unfoldable pub obstacle_count : List ℕ → ℕ
obstacle_count marks = min 32 (get_or marks 0 0)

-- Where the waypoints of obstacle o begin, and where they end.
unfoldable pub first_in : List ℕ → ℕ → ℕ
first_in marks o = min 288 (get_or marks (4 * min 31 o + 1) 0)

unfoldable pub end_in : List ℕ → ℕ → ℕ
end_in marks o = min 288 (get_or marks (4 * min 31 o + 2) 0)

-- Its profile, the conflict distance squared that it carries, and its box (RULES 2.16, 7.1, 7.10).
unfoldable pub profile_in : List Float → ℕ → CircularProfile
profile_in places o = record { footprint = get_or places (7 * min 31 o) nan; follow = get_or places (7 * min 31 o + 1) nan }

unfoldable pub limit_in : List Float → ℕ → Float
limit_in places o = get_or places (7 * min 31 o + 2) nan

unfoldable pub box_in : List Float → ℕ → BoundingBox
box_in places o =
    record {
      left = get_or places (7 * min 31 o + 3) nan;
      bottom = get_or places (7 * min 31 o + 4) nan;
      right = get_or places (7 * min 31 o + 5) nan;
      top = get_or places (7 * min 31 o + 6) nan;
    }

-- Waypoint i of the table, and the leg from it to the next.
unfoldable pub waypoint_in : List ℕ → List Float → ℕ → Waypoint
waypoint_in marks places i =
    record {
      time = record { 0 = signed_of (get_or marks (min 287 i + 129) 0) };
      x = get_or places (2 * min 287 i + 224) nan;
      y = get_or places (2 * min 287 i + 225) nan;
    }

abbrev pub leg_in : List ℕ → List Float → ℕ → Leg
leg_in marks places i = record { start = waypoint_in marks places i; end = waypoint_in marks places (i + 1) }

-- The waypoints of obstacle o.
unfoldable pub waypoints_in : List ℕ → List Float → ℕ → List Waypoint
waypoints_in marks places o = listed_to (waypoint_in marks places) (end_in marks o) (first_in marks o)

-- Obstacle o.
abbrev pub obstacle_in : List ℕ → List Float → ℕ → Obstacle
obstacle_in marks places o =
    record {
      profile = profile_in places o;
      limit = limit_in places o;
      waypoints = waypoints_in marks places o;
      bounds = box_in places o;
    }

-- All obstacles, in order.
unfoldable pub obstacles_in : List ℕ → List Float → List Obstacle
obstacles_in marks places = listed_to (obstacle_in marks places) (obstacle_count marks) 0
