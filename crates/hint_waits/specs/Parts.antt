-- What the parts of the search for hints share: going on with an answer that may be nothing or refused.
-- Assumes nothing.
use Rattle.std.specs.Prelude.{Float, Result, Ok, Err, Option, Some, None}
use Rattle.shapes.specs.Vector.{vector_sum, scaled}
use Rattle.shapes.specs.declared.vector.Vector.{Vector}
use Rattle.courses.specs.declared.course.Course.{Course}
use Rattle.root.specs.declared.nearest.NoRoot.{NoRoot}
use Rattle.refusals.specs.declared.Refusal.{Refusal}
use Rattle.refusals.specs.declared.Refusal.TheVariants as Refusals

-- With the begin and the end of a stay; a root that is not given is refused 1.
abbrev pub staying : {A : Type 0} →
    Result (Option (Float × Float)) NoRoot → (Float → Float → Result (Option A) Refusal) → Result (Option A) Refusal
staying (Ok (Some (begin, end))) go = go begin end
staying (Ok None) go = Ok None
staying (Err _) go = Err Refusals.Number

-- Where the agent is after so many seconds: q + v * t (RULES 10.13, 10.27, 10.28).
unfoldable pub agent_after : Course → Float → Vector
agent_after agent t = vector_sum agent.run.from (scaled agent.run.velocity t)
