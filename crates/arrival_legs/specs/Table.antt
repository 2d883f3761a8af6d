-- What the search finds by index in a table.
-- Assumes nothing.
use Rattle.std.specs.Prelude.{cond, ◌&&◌, Float}
use Rattle.std.specs.Int.Signed.{lt_z}
use Rattle.times.specs.declared.time.TimePoint.{TimePoint}
use Rattle.shapes.specs.declared.waypoint.Waypoint.{Waypoint}
use Rattle.arrival_legs.specs.Watched.{ends_near}
use Rattle.std.specs.Prelude.{Option, Some, None}

-- The finish of an obstacle that ends at this waypoint, where it is after the candidate and within the limit (RULES 12.16).
unfoldable pub ending_of : Waypoint → Float → Waypoint → TimePoint → Option TimePoint
ending_of g limit w c = cond (lt_z c.0 w.time.0 && ends_near g limit w) (Some w.time) None
