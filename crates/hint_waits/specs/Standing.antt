-- Waiting for a leg that stands in the agent's way, or nearly so (RULES 10.24 to 10.27).
-- Assumes nothing.
use Rattle.std.specs.Prelude.{cond, Option, Some, None, Float, Result, Ok}
use Rattle.std.specs.Float.Ieee
use Rattle.floats.specs.Constants.{nought}
use Rattle.line_proximity.specs.Stationary.{stationary_proximity}
use Rattle.courses.specs.declared.course.Course.{Course}
use Rattle.courses.specs.declared.course.Run.{Run}
use Rattle.hint_waits.specs.Parts.{staying, agent_after}
use Rattle.refusals.specs.declared.Refusal.{Refusal}
use Rattle.shapes.specs.declared.vector.Vector.{Vector}
use Rattle.times.specs.declared.time.TimePoint.{TimePoint}

-- Of two begins those from 0 on count: the smaller, and of two equal ones the first (RULES 10.25, 10.26).
unfoldable pub first_begin : Float → Float → Option Float
first_begin first second =
    cond (Ieee.le nought first)
    (cond (Ieee.le nought second) (Some (cond (Ieee.lt second first) second first)) (Some first))
    (cond (Ieee.le nought second) (Some second) None)

-- The agent waits where it comes near the earlier, until the leg ends (RULES 10.27).
unfoldable pub near_ends : Course → Run → Float → Float → Option (Vector × TimePoint)
near_ends agent leg first second = by (first_begin first second)
  where
    by : Option Float → Option (Vector × TimePoint)
    by (Some wait) = Some (agent_after agent wait, leg.end)
    by None = None

-- Both ends of the leg are places that the agent comes near (RULES 10.24).
unfoldable pub standing_wait : Course → Run → Float → Result (Option (Vector × TimePoint)) Refusal
standing_wait agent leg limit =
    staying (stationary_proximity leg.from agent.run.from agent.run.velocity limit) (λ first _.
    staying (stationary_proximity leg.to agent.run.from agent.run.velocity limit) (λ second _.
    Ok (near_ends agent leg first second)))
