-- Waiting for a leg that crosses the agent's way (RULES 10.9 to 10.13).
-- Assumes nothing.
use Rattle.std.specs.Prelude.{cond, Float, Result, Ok, Err, Option, Some, None}
use Rattle.std.specs.Int.Signed.{lt_z}
use Rattle.std.specs.Float.Ieee
use Rattle.floats.specs.Constants.{nought}
use Rattle.times.specs.Time.{instant_after_seconds, with_instant}
use Rattle.shapes.specs.Vector.{vector_difference}
use Rattle.shapes.specs.declared.vector.Vector.{Vector}
use Rattle.courses.specs.Norm.{direction_of}
use Rattle.line_proximity.specs.NearLine.{near_line}
use Rattle.courses.specs.declared.course.Course.{Course}
use Rattle.courses.specs.declared.course.Run.{Run}
use Rattle.hint_waits.specs.Parts.{staying, agent_after}
use Rattle.root.specs.declared.nearest.NoRoot.{NoRoot}
use Rattle.refusals.specs.declared.Refusal.{Refusal}
use Rattle.times.specs.declared.time.TimePoint.{TimePoint}
use Rattle.refusals.specs.declared.Refusal.TheVariants as Refusals

-- The agent is near the leg's way after `wait` seconds, and the leg leaves the agent's way after `end` seconds of its own. A hint
-- is there where the agent gets there from its start on, and not after the leg has left (RULES 10.11 to 10.13).
unfoldable pub before_crossing : Course → Run → Float → Float → Result (Option (Vector × TimePoint)) Refusal
before_crossing agent leg wait end =
    cond (Ieee.le nought wait)
    (with_instant (Err Refusals.Strayed) (instant_after_seconds leg.start end) (λ until.
    with_instant (Err Refusals.Strayed) (instant_after_seconds agent.run.start wait) (λ arrival.
    cond (lt_z until.0 arrival.0) (Ok None) (Ok (Some (agent_after agent wait, until))))))
    (Ok None)

-- The direction of the leg; without one the answer is 4 (RULES 10.10).
abbrev pub directed : {A : Type 0} → Result (Option Vector) NoRoot → (Vector → Result A Refusal) → Result A Refusal
directed (Ok (Some u)) go = go u
directed (Ok None) go = Err Refusals.NoLine
directed (Err _) go = Err Refusals.Number

-- When the agent is near the leg's line: its begin counts (RULES 10.10, 10.11).
unfoldable pub beside_line : Course → Run → Float → Float → Result (Option (Vector × TimePoint)) Refusal
beside_line agent leg limit end =
    directed (direction_of (vector_difference leg.to leg.from)) (λ u.
    staying (near_line leg.from leg.to u agent.run.from agent.run.to agent.run.seconds limit) (λ wait _.
    before_crossing agent leg wait end))

-- When the leg is near the agent's line: its end counts (RULES 10.9).
unfoldable pub crossing_wait : Course → Run → Float → Result (Option (Vector × TimePoint)) Refusal
crossing_wait agent leg limit =
    staying (near_line agent.run.from agent.run.to agent.direction leg.from leg.to leg.seconds limit) (λ _ end.
    beside_line agent leg limit end)
