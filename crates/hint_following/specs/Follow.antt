-- Following as a whole (RULES 10.16 to 10.23).
-- Assumes nothing.
use Rattle.std.specs.Prelude.{ℕ, Bool, cond, ◌&&◌, [], Float, Result, Ok, Err}
use Rattle.std.specs.Float.Ieee
use Rattle.refusals.specs.declared.Refusal.TheVariants as Refusals
use Rattle.floats.specs.Constants.{nought}
use Rattle.times.specs.Time.{instant_of_seconds}
use Rattle.shapes.specs.Vector.{dot_of}
use Rattle.shapes.specs.declared.vector.Vector.{Vector}
use Rattle.courses.specs.declared.course.Course.{Course}
use Rattle.courses.specs.declared.course.Run.{Run}
use Rattle.hint_list.specs.Hints.{Hints, Of, Refused, one_hint, found_then}
use Rattle.hint_chasing.specs.Chase.{first_seen, chase_of, opening_of}
use Rattle.hint_sawtooth.specs.Rounds.{rounds_from}
use Rattle.hint_chasing.specs.declared.chase.Gaps.{Gaps}
use Rattle.hint_chasing.specs.declared.chase.Chase.{Chase}
use Rattle.hint_chasing.specs.declared.chase.Opening.{Opening}
use Rattle.hint_chasing.specs.declared.chase.Opening.TheVariants.{Waits, Goes}
use Rattle.times.specs.declared.time.Strayed.{Strayed}
use Rattle.times.specs.declared.time.TimePoint.{TimePoint}

-- A hint at a place until the instant t, in seconds, behind n others (RULES 10.19, 10.20).
unfoldable pub stop_hint : ℕ → Vector → Float → ℕ → Hints
stop_hint n p t obstacle = by (instant_of_seconds t)
  where
    by : Result TimePoint Strayed → Hints
    by (Ok tp) = one_hint n (record { place = p; until = tp; obstacle = obstacle })
    by (Err _) = Refused Refusals.Strayed

-- The first wait, if there is one, then the rounds (RULES 10.19 to 10.22).
unfoldable pub opened : Course → Run → Chase → ℕ → Opening → ℕ → Hints
opened agent leg chase obstacle (Waits p s t) n =
    found_then n (stop_hint n p t obstacle) (λ m. rounds_from agent leg chase obstacle m s t)
opened agent leg chase obstacle (Goes s t) n = rounds_from agent leg chase obstacle n s t

-- A leg is followed that is not within the critical distance when it is first seen, and not behind the agent's start (RULES 10.17).
unfoldable pub is_followed : Course → Gaps → Vector → Bool
is_followed agent gaps apart = Ieee.le gaps.squared (dot_of apart apart) && Ieee.le nought (dot_of apart agent.direction)

-- The hints for a leg that goes along the agent's line at the speed `aligned`, behind n others.
unfoldable pub follow_hints : Course → Run → Gaps → Float → ℕ → ℕ → Hints
follow_hints agent leg gaps aligned obstacle n = by (first_seen agent leg)
  where
    followed : Float → Float → Hints
    followed ahead t =
        opened agent leg (chase_of agent leg gaps aligned ahead) obstacle (opening_of agent gaps.follow aligned ahead t) n

    by : Result (Vector × Float) Strayed → Hints
    by (Ok (apart, t)) = cond (is_followed agent gaps apart) (followed (dot_of apart agent.direction) t) (Of [])
    by (Err _) = Refused Refusals.Strayed
