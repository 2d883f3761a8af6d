-- Where a leg is at an instant and how fast it goes (RULES 8.1 to 8.3).
-- Assumes nothing.
use Rattle.std.specs.Prelude.{cond, Float}
use Rattle.std.specs.Float.Ieee
use Rattle.std.specs.Float.{binary64}
use Rattle.times.specs.Time.{span_between, seconds_of, with_span}
use Rattle.times.specs.declared.time.TimePoint.{TimePoint}
use Rattle.shapes.specs.Leg.{holds}
use Rattle.shapes.specs.declared.waypoint.Leg.{Leg}
use Rattle.shapes.specs.declared.vector.Vector.{Vector}
use Rattle.std.specs.Prelude.{Result, Ok}
use Rattle.std.specs.Prelude.{Option, Some, None}
use Rattle.times.specs.Time.{strayed}
use Rattle.times.specs.declared.time.Strayed.{Strayed}
use Rattle.motions.specs.declared.motion.State.{State}

-- End minus start, over the seconds that the leg lasts (RULES 8.1).
abbrev pub velocity_over : Leg → Float → Vector
velocity_over leg seconds =
    record {
      x = Ieee.div binary64 (Ieee.sub binary64 leg.end.x leg.start.x) seconds;
      y = Ieee.div binary64 (Ieee.sub binary64 leg.end.y leg.start.y) seconds;
    }

-- The start plus the velocity times the seconds gone (RULES 8.2).
abbrev pub place_after : Leg → Vector → Float → Vector
place_after leg v seconds =
    record {
      x = Ieee.add binary64 leg.start.x (Ieee.mul binary64 v.x seconds);
      y = Ieee.add binary64 leg.start.y (Ieee.mul binary64 v.y seconds);
    }

-- The leg at t. The Rust works out how long the leg lasts before it asks whether its times hold t (RULES 8.2, 8.8).
unfoldable pub motion_at : Leg → TimePoint → Result (Option State) Strayed
motion_at leg t =
    with_span strayed (span_between leg.start.time leg.end.time) (λ lasts.
    cond (holds leg t)
    (with_span strayed (span_between leg.start.time t) (λ gone.
    let v = velocity_over leg (seconds_of lasts.0) in
    Ok (Some (record { place = place_after leg v (seconds_of gone.0); velocity = v }))))
    (Ok None))
