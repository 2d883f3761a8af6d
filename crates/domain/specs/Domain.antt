-- The table of the domain, a test for each row (RULES, section 3). Every range has both its ends, and no NaN.
-- Assumes nothing.
use Rattle.std.specs.Prelude.{◌^◌, Bool, not, ◌&&◌, ℤ, pos, Float}
use Rattle.std.specs.Int.Signed.{lt_z, le_z}
use Rattle.std.specs.Float.Ieee
use Rattle.std.specs.Float.{binary64}
use Rattle.floats.specs.Constants.{nought}
use Rattle.floats.specs.Compare.{is_between}
use Rattle.times.specs.declared.time.TimePoint.{TimePoint}
use Rattle.shapes.specs.declared.bounding_box.BoundingBox.{BoundingBox}
use Rattle.shapes.specs.declared.profile.CircularProfile.{CircularProfile}
use Rattle.shapes.specs.declared.waypoint.Leg.{Leg}
use Rattle.shapes.specs.declared.vector.Vector.{Vector}
use Rattle.shapes.specs.declared.waypoint.Waypoint.{Waypoint}

-- A whole number as a double.
abbrev whole_number : ℤ → Float
whole_number = Ieee.of_int binary64

-- 0 to 10^15 ns (RULES 3.1).
unfoldable pub is_time : TimePoint → Bool
is_time t = not (lt_z t.0 (pos 0)) && le_z t.0 (pos (10 ^ 15))

-- -10,000 to 10,000 m (RULES 3.2).
unfoldable pub is_coordinate : Float → Bool
is_coordinate = is_between (Ieee.neg (whole_number (pos 10000))) (whole_number (pos 10000))

-- A footprint or a follow buffer: 0 to 100 m (RULES 3.3).
unfoldable pub is_radius : Float → Bool
is_radius = is_between nought (whole_number (pos 100))

-- A conflict distance squared: 0 to 1,000,000 (RULES 3.4).
unfoldable pub is_limit : Float → Bool
is_limit = is_between nought (whole_number (pos 1000000))

-- A bound of a box: -20,000 to 20,000 m (RULES 3.7).
unfoldable pub is_bound : Float → Bool
is_bound = is_between (Ieee.neg (whole_number (pos 20000))) (whole_number (pos 20000))

-- A coordinate of a velocity: at most 10^14 m/s in size (RULES 3.8, 3.12).
unfoldable pub is_speed : Float → Bool
is_speed = is_between (Ieee.neg (whole_number (pos (10 ^ 14)))) (whole_number (pos (10 ^ 14)))

-- A place, a waypoint, a leg, a profile and a box, of such numbers.
unfoldable pub is_place : Vector → Bool
is_place p = is_coordinate p.x && is_coordinate p.y

unfoldable pub is_waypoint : Waypoint → Bool
is_waypoint w = is_time w.time && (is_coordinate w.x && is_coordinate w.y)

unfoldable pub is_leg : Leg → Bool
is_leg leg = is_waypoint leg.start && is_waypoint leg.end

unfoldable pub is_profile : CircularProfile → Bool
is_profile p = is_radius p.footprint && is_radius p.follow

unfoldable pub is_box : BoundingBox → Bool
is_box b = is_bound b.left && (is_bound b.bottom && (is_bound b.right && is_bound b.top))
