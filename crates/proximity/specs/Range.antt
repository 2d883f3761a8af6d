-- The meeting range of two legs, and what is answered where it is short (RULES 8.4 to 8.8).
-- Assumes nothing.
use Rattle.std.specs.Prelude.{Bool, cond, Float}
use Rattle.std.specs.Float.Ieee
use Rattle.std.specs.Float.{binary64}
use Rattle.floats.specs.Quadratic.{dot}
use Rattle.floats.specs.Compare.{size_of}
use Rattle.floats.specs.Constants.{ten_thousandth}
use Rattle.times.specs.Time.{later_of, earlier_of, seconds_of}
use Rattle.times.specs.declared.time.TimePoint.{TimePoint}
use Rattle.times.specs.declared.time.Duration.{Duration}
use Rattle.shapes.specs.declared.waypoint.Leg.{Leg}
use Rattle.shapes.specs.declared.vector.Vector.{Vector}
use Rattle.motions.specs.Motion.{motion_at}
use Rattle.proximity.specs.declared.detect.Proximity.{Proximity}
use Rattle.proximity.specs.declared.detect.Proximity.TheVariants.{Never, Enters, Passes}
use Rattle.std.specs.Prelude.{Result, Ok, Err}
use Rattle.std.specs.Prelude.{Option, Some, None}
use Rattle.times.specs.declared.time.Strayed.{Strayed}
use Rattle.motions.specs.declared.motion.State.{State}
use Rattle.refusals.specs.declared.Refusal.{Refusal}
use Rattle.refusals.specs.declared.Refusal.TheVariants as Refusals

-- From the later start to the earlier end (RULES 8.4).
abbrev pub range_start : Leg → Leg → TimePoint
range_start agent obstacle = later_of agent.start.time obstacle.start.time

abbrev pub range_end : Leg → Leg → TimePoint
range_end agent obstacle = earlier_of agent.end.time obstacle.end.time

-- Under 100,000 ns, which is 1e-4 s, gaps included (RULES 8.6).
abbrev pub is_short : Duration → Bool
is_short d = Ieee.lt (size_of (seconds_of d.0)) ten_thousandth

-- The squared distance is at most the limit (RULES 8.7).
abbrev pub is_near : Float → Vector → Vector → Bool
is_near limit p q =
    let x = Ieee.sub binary64 p.x q.x in
    let y = Ieee.sub binary64 p.y q.y in
    Ieee.le (dot x y x y) limit

-- The entry at t, where both legs have a place then and are near (RULES 8.7); both durations come first (RULES 8.8).
abbrev pub near_by : Float → Result (Option State) Strayed → Result (Option State) Strayed → TimePoint → Result Proximity Refusal
near_by limit (Ok (Some p)) (Ok (Some q)) t = cond (is_near limit p.place q.place) (Ok (Enters t)) (Ok Never)
near_by limit (Ok (Some p)) (Ok None) t = Ok Never
near_by limit (Ok (Some p)) (Err _) t = Err Refusals.Strayed
near_by limit (Ok None) (Ok (Some q)) t = Ok Never
near_by limit (Ok None) (Ok None) t = Ok Never
near_by limit (Ok None) (Err _) t = Err Refusals.Strayed
near_by limit (Err _) other t = Err Refusals.Strayed

unfoldable pub near_at : Float → Leg → Leg → TimePoint → Result Proximity Refusal
near_at limit agent obstacle t = near_by limit (motion_at agent t) (motion_at obstacle t) t

-- The first of two answers that says something.
abbrev pub or_at_end : Result Proximity Refusal → Result Proximity Refusal → Result Proximity Refusal
or_at_end (Ok Never) second = second
or_at_end (Ok (Enters t)) second = Ok (Enters t)
or_at_end (Ok (Passes t u)) second = Ok (Passes t u)
or_at_end (Err why) second = Err why

-- Each end in turn, the range's start first (RULES 8.7).
unfoldable pub short_range : Float → Leg → Leg → TimePoint → TimePoint → Result Proximity Refusal
short_range limit agent obstacle t0 t1 = or_at_end (near_at limit agent obstacle t0) (near_at limit agent obstacle t1)
