-- The obstacles that lent lists stand for: times and coordinates with a start for each obstacle (RULES 20.7).
-- Assumes nothing.
use Rattle.std.specs.Prelude.{ℕ, ◌+◌, ◌*◌, List, length, get_or, ℤ, pos, Float}
use Rattle.lent.specs.Listed.{listed_to}
use Rattle.floats.specs.Constants.{nought}
use Rattle.shapes.specs.declared.profile.CircularProfile.{CircularProfile}
use Rattle.shapes.specs.declared.waypoint.Waypoint.{Waypoint}
use Rattle.table.specs.Obstacle.{Obstacle, box_of_trajectory}

-- The lists. `numbers` has three for each obstacle: footprint, follow buffer, conflict distance squared.
pub record Lent : Type 0 where
  pub starts : List ℕ
  pub numbers : List Float
  pub times : List ℤ
  pub xs : List Float
  pub ys : List Float

abbrev pub lent_of : List ℕ → List Float → List ℤ → List Float → List Float → Lent
lent_of starts numbers times xs ys = record { starts = starts; numbers = numbers; times = times; xs = xs; ys = ys }

-- Where the waypoints of obstacle o begin; past the last obstacle, how many waypoints there are.
abbrev pub start_in : List ℕ → ℕ → ℕ → ℕ
start_in starts count o = get_or starts o count

-- Its profile, and the conflict distance squared that it carries (RULES 2.16, 7.1).
abbrev pub profile_listed : List Float → ℕ → CircularProfile
profile_listed numbers o = record { footprint = get_or numbers (3 * o) nought; follow = get_or numbers (3 * o + 1) nought }

abbrev pub limit_listed : List Float → ℕ → Float
limit_listed numbers o = get_or numbers (3 * o + 2) nought

-- Waypoint i of the lists. What a list does not reach is zero.
abbrev pub waypoint_listed : List ℤ → List Float → List Float → ℕ → Waypoint
waypoint_listed times xs ys i = record { time = record { 0 = get_or times i (pos 0) }; x = get_or xs i nought; y = get_or ys i nought }

-- The waypoints of obstacle o: from its start up to the next one's.
unfoldable pub waypoints_listed : Lent → ℕ → List Waypoint
waypoints_listed lent o =
    listed_to (waypoint_listed lent.times lent.xs lent.ys)
    (start_in lent.starts (length lent.times) (o + 1))
    (start_in lent.starts (length lent.times) o)

-- Obstacle o, with the box of its own waypoints and footprint (RULES 7.10).
abbrev pub obstacle_listed : Lent → ℕ → Obstacle
obstacle_listed lent o =
    record {
      profile = profile_listed lent.numbers o;
      limit = limit_listed lent.numbers o;
      waypoints = waypoints_listed lent o;
      bounds = box_of_trajectory (profile_listed lent.numbers o).footprint (waypoints_listed lent o);
    }

-- All obstacles, in order.
unfoldable pub obstacles_of : Lent → List Obstacle
obstacles_of lent = listed_to (obstacle_listed lent) (length lent.starts) 0
