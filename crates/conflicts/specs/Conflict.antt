-- Whether two legs are in conflict (RULES 9.1 to 9.6).
-- Assumes nothing.
use Rattle.std.specs.Prelude.{Bool, cond, ◌&&◌, [], ◌∷◌, Float}
use Rattle.std.specs.Float.Ieee
use Rattle.std.specs.Float.{binary64}
use Rattle.floats.specs.Constants.{millionth}
use Rattle.lent.specs.Outcome.{Outcome, Gives, Refuses}
use Rattle.floats.specs.Quadratic.{two}
use Rattle.times.specs.Time.{span_between, seconds_of, with_span}
use Rattle.times.specs.declared.time.TimePoint.{TimePoint}
use Rattle.shapes.specs.Leg.{is_inside}
use Rattle.shapes.specs.Box.{overlap}
use Rattle.shapes.specs.declared.bounding_box.BoundingBox.{BoundingBox}
use Rattle.shapes.specs.declared.waypoint.Leg.{Leg}
use Rattle.motions.specs.Quadratic.{meeting_from, with_meeting}
use Rattle.proximity.specs.Range.{range_start}
use Rattle.proximity.specs.Proximity.{proximity_of}
use Rattle.motions.specs.declared.quadratic.Quadratic.{Quadratic}
use Rattle.proximity.specs.declared.detect.Proximity.{Proximity}
use Rattle.proximity.specs.declared.detect.Proximity.TheVariants as P
use Rattle.conflicts.specs.declared.conflict.Verdict.{Verdict}
use Rattle.conflicts.specs.declared.conflict.Verdict.TheVariants.{Clear, Conflict}
use Rattle.std.specs.Prelude.{Result, Ok, Err}
use Rattle.refusals.specs.declared.Refusal.{Refusal}
use Rattle.refusals.specs.declared.Refusal.TheVariants as Refusals
use Rattle.refusals.specs.Names.{refusal_number}

-- The derivative 2 a t + b is below -1e-6 (RULES 9.5, 9.6).
abbrev pub is_closing : Quadratic → Float → Bool
is_closing q t =
    Ieee.lt (Ieee.add binary64 (Ieee.mul binary64 (Ieee.mul binary64 two q.a) t) q.b) (Ieee.neg millionth)

-- At the entry t the legs still close in (RULES 9.5).
unfoldable pub closing_at : Float → Leg → Leg → TimePoint → Result Verdict Refusal
closing_at limit agent obstacle t =
    let t0 = range_start agent obstacle in
    with_span (Err Refusals.Strayed) (span_between t0 t) (λ d.
    with_meeting Err (meeting_from limit agent obstacle t0) (λ q. cond (is_closing q (seconds_of d.0)) (Ok Conflict) (Ok Clear)))

-- An entry counts only strictly inside both legs (RULES 9.4).
unfoldable pub entered_at : Float → Leg → Leg → TimePoint → Result Verdict Refusal
entered_at limit agent obstacle t = cond (is_inside agent t && is_inside obstacle t) (closing_at limit agent obstacle t) (Ok Clear)

-- What an answer of proximity makes of it; the exit is not read (RULES 9.3, 9.6).
abbrev pub judged : Float → Leg → Leg → Result Proximity Refusal → Result Verdict Refusal
judged limit agent obstacle (Ok P.Never) = Ok Clear
judged limit agent obstacle (Ok (P.Enters t)) = entered_at limit agent obstacle t
judged limit agent obstacle (Ok (P.Passes t u)) = entered_at limit agent obstacle t
judged limit agent obstacle (Err why) = Err why

-- How near two legs come, each in its box: proximity is asked only where the boxes overlap (RULES 9.2, 9.3).
unfoldable pub proximity_in_boxes : Leg → BoundingBox → Leg → BoundingBox → Float → Result Proximity Refusal
proximity_in_boxes agent agentBox obstacle obstacleBox limit =
    cond (overlap agentBox obstacleBox) (proximity_of limit agent obstacle) (Ok P.Never)

-- Boxes first (RULES 9.2).
unfoldable pub conflict_of : Leg → BoundingBox → Leg → BoundingBox → Float → Result Verdict Refusal
conflict_of agent agentBox obstacle obstacleBox limit =
    cond (overlap agentBox obstacleBox) (judged limit agent obstacle (proximity_of limit agent obstacle)) (Ok Clear)

-- The number and the word of each case: 0 where there is no conflict, 1 where there is.
abbrev pub verdict_outcome : Result Verdict Refusal → Outcome
verdict_outcome (Ok Clear) = Gives (0 ∷ [])
verdict_outcome (Ok Conflict) = Gives (1 ∷ [])
verdict_outcome (Err why) = Refuses (refusal_number why)
