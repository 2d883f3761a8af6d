-- When the agent is at a place (RULES 13.3).
-- Assumes nothing.
use Rattle.std.specs.Prelude.{ℕ, Float}
use Rattle.std.specs.Float.Ieee
use Rattle.std.specs.Float.{binary64}
use Rattle.refusals.specs.Names.{NUMBER, STRAYED}
use Rattle.root.specs.Root.{with_root}
use Rattle.times.specs.Time.{instant_after_seconds, with_instant}
use Rattle.times.specs.declared.time.TimePoint.{TimePoint}
use Rattle.shapes.specs.Leg.{place_of}
use Rattle.shapes.specs.Vector.{vector_difference}
use Rattle.shapes.specs.declared.vector.Vector.{Vector}
use Rattle.shapes.specs.declared.waypoint.Waypoint.{Waypoint}
use Rattle.courses.specs.Norm.{norm_of}
use Rattle.hint_list.specs.declared.hint.WaitHint.{WaitHint}
use Rattle.std.specs.Prelude.{Result, Ok, Err}
use Rattle.refusals.specs.declared.Refusal.{Refusal}
use Rattle.refusals.specs.declared.Refusal.TheVariants as Refusals

-- At a place and a time.
abbrev pub waypoint_at : Vector → TimePoint → Waypoint
waypoint_at place t = record { time = t; x = place.x; y = place.y }

-- The waypoint of a hint: its place, at its `until` (RULES 13.10).
unfoldable pub hint_waypoint : WaitHint → Waypoint
hint_waypoint h = waypoint_at h.place h.until

-- The distance divided by the speed, as seconds after the time of the waypoint that is left (RULES 13.3).
unfoldable pub reached_from : Float → Waypoint → Vector → Result Waypoint Refusal
reached_from speed from place =
    with_root (Err Refusals.Number) (norm_of (vector_difference place (place_of from))) (λ distance.
    with_instant (Err Refusals.Strayed) (instant_after_seconds from.time (Ieee.div binary64 distance speed)) (λ t.
    Ok (waypoint_at place t)))

-- Going on with the waypoint that is reached, or with the number of the refusal.
abbrev pub with_reached : {A : Type 0} → (Refusal → A) → Result Waypoint Refusal → (Waypoint → A) → A
with_reached refused (Ok w) go = go w
with_reached refused (Err n) go = refused n
