-- Waypoints, legs and profiles of the plain numbers that a call is handed.
-- Assumes nothing.
use Rattle.std.specs.Prelude.{ℤ, Float}
use Rattle.times.specs.declared.time.TimePoint.{TimePoint}
use Rattle.shapes.specs.declared.profile.CircularProfile.{CircularProfile}
use Rattle.shapes.specs.declared.waypoint.Leg.{Leg}
use Rattle.shapes.specs.declared.waypoint.Waypoint.{Waypoint}
use Rattle.shapes.specs.declared.vector.Vector.{Vector}

abbrev pub instant_of : ℤ → TimePoint
instant_of t = record { 0 = t }

abbrev pub plain_waypoint : ℤ → Float → Float → Waypoint
plain_waypoint t x y = record { time = instant_of t; x = x; y = y }

-- The leg from (x0, y0) at t0 to (x1, y1) at t1.
abbrev pub plain_leg : ℤ → Float → Float → ℤ → Float → Float → Leg
plain_leg t0 x0 y0 t1 x1 y1 = record { start = plain_waypoint t0 x0 y0; end = plain_waypoint t1 x1 y1 }

abbrev pub plain_profile : Float → Float → CircularProfile
plain_profile footprint follow = record { footprint = footprint; follow = follow }

abbrev pub vector_of : Float → Float → Vector
vector_of x y = record { x = x; y = y }
