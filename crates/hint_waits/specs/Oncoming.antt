-- Waiting for a leg that comes toward the agent and vanishes at its end (RULES 10.28).
-- Assumes nothing.
use Rattle.std.specs.Prelude.{cond, Float, Result, Ok, Option, Some, None}
use Rattle.std.specs.Float.Ieee
use Rattle.floats.specs.Constants.{nought}
use Rattle.line_proximity.specs.Stationary.{stationary_proximity}
use Rattle.courses.specs.declared.course.Course.{Course}
use Rattle.courses.specs.declared.course.Run.{Run}
use Rattle.hint_waits.specs.Parts.{staying, agent_after}
use Rattle.refusals.specs.declared.Refusal.{Refusal}
use Rattle.shapes.specs.declared.vector.Vector.{Vector}
use Rattle.times.specs.declared.time.TimePoint.{TimePoint}

-- The agent waits where it comes near the leg's end, from its own start on, until the leg ends.
unfoldable pub oncoming_wait : Course → Run → Float → Result (Option (Vector × TimePoint)) Refusal
oncoming_wait agent leg limit =
    staying (stationary_proximity leg.to agent.run.from agent.run.velocity limit) (λ wait _.
    cond (Ieee.le nought wait) (Ok (Some (agent_after agent wait, leg.end))) (Ok None))
