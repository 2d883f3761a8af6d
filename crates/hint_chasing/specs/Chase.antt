-- How a chase begins: where the leg is first seen, and where the first round sets out from (RULES 10.16 to 10.21).
-- Assumes nothing.
use Rattle.std.specs.Prelude.{cond, Float, Result, Ok, Err}
use Rattle.std.specs.Int.Signed.{lt_z}
use Rattle.std.specs.Float.Ieee
use Rattle.std.specs.Float.{binary64}
use Rattle.floats.specs.Constants.{nought}
use Rattle.times.specs.Time.{span_between, seconds_of, strayed}
use Rattle.shapes.specs.Vector.{vector_sum, vector_difference, scaled}
use Rattle.shapes.specs.declared.vector.Vector.{Vector}
use Rattle.courses.specs.declared.course.Course.{Course}
use Rattle.courses.specs.declared.course.Run.{Run}
use Rattle.hint_chasing.specs.declared.chase.Gaps.{Gaps}
use Rattle.hint_chasing.specs.declared.chase.Chase.{Chase}
use Rattle.hint_chasing.specs.declared.chase.Opening.{Opening}
use Rattle.hint_chasing.specs.declared.chase.Opening.TheVariants.{Waits, Goes}
use Rattle.times.specs.declared.time.Strayed.{Strayed}
use Rattle.times.specs.declared.time.Duration.{Duration}

-- At the agent's start, where the leg has begun before; else at the leg's own (RULES 10.16).
unfoldable pub first_seen : Course → Run → Result (Vector × Float) Strayed
first_seen agent leg =
    cond (lt_z leg.start.0 agent.run.start.0)
    (by (span_between leg.start agent.run.start))
    (Ok (vector_difference leg.from agent.run.from, seconds_of leg.start.0))
  where
    by : Result Duration Strayed → Result (Vector × Float) Strayed
    by (Ok d) =
        let moved = vector_sum leg.from (scaled leg.velocity (seconds_of d.0)) in
        Ok (vector_difference moved agent.run.from, seconds_of agent.run.start.0)
    by (Err _) = strayed

-- The numbers that stay the same from round to round (RULES 10.18, 10.22).
unfoldable pub chase_of : Course → Run → Gaps → Float → Float → Chase
chase_of agent leg gaps aligned ahead =
    record {
      ahead = ahead;
      since = seconds_of leg.start.0;
      aligned = aligned;
      closing = Ieee.sub binary64 agent.speed aligned;
      gap = gaps.critical;
      rest = Ieee.div binary64 gaps.follow aligned;
    }

-- The instant, in seconds, at which a leg that is nearer than the follow distance at t is as far as that.
abbrev pub let_away : Float → Float → Float → Float → Float
let_away follow aligned ahead t =
    Ieee.add binary64 t (Ieee.div binary64 (Ieee.sub binary64 follow ahead) aligned)

-- The leg is `ahead` metres ahead of the agent's start at t seconds. Within the follow distance the agent waits at its start
-- (RULES 10.19); one that would be within it by then waits where it is (RULES 10.20); else it goes on (RULES 10.21).
unfoldable pub opening_of : Course → Float → Float → Float → Float → Opening
opening_of agent follow aligned ahead t =
    let reached = Ieee.mul binary64 agent.speed (Ieee.sub binary64 t (seconds_of agent.run.start.0)) in
    let wait = Ieee.div binary64 (Ieee.sub binary64 ahead follow) agent.speed in
    let s = Ieee.mul binary64 agent.speed wait in
    let along : Float → Vector = λ m. vector_sum agent.run.from (scaled agent.direction m) in
    cond (Ieee.le ahead follow)
    (Waits agent.run.from nought (let_away follow aligned ahead t))
    (cond (Ieee.le (Ieee.sub binary64 ahead reached) follow)
    (cond (Ieee.le nought wait) (Waits (along s) s t) (Waits (along nought) nought (let_away follow aligned ahead t)))
    (Goes reached t))
