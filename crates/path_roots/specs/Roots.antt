-- The hint that the search begins with (RULES 13.8, 13.9).
-- Assumes nothing.
use Rattle.std.specs.Prelude.{ℕ, ◌+◌, cond, List, [], ◌∷◌, drop, Float}
use Rattle.std.specs.Int.Signed.{lt_z}
use Rattle.std.specs.Float.Ieee
use Rattle.std.specs.Float.{binary64}
use Rattle.refusals.specs.Names.{NUMBER, STRAYED}
use Rattle.root.specs.Root.{with_root}
use Rattle.floats.specs.Constants.{hundred_millionth}
use Rattle.times.specs.Time.{span_between, seconds_of, span_of_seconds, with_span}
use Rattle.times.specs.declared.time.Duration.{Duration}
use Rattle.times.specs.declared.time.TimePoint.{TimePoint}
use Rattle.shapes.specs.Leg.{place_of}
use Rattle.shapes.specs.Vector.{vector_difference}
use Rattle.courses.specs.Norm.{norm_of}
use Rattle.hint_list.specs.declared.hint.RankedHint.{RankedHint}
use Rattle.path_tests.specs.declared.trip.Trip.{Trip}
use Rattle.std.specs.Prelude.{Result, Ok, Err}
use Rattle.times.specs.Time.{strayed}
use Rattle.times.specs.declared.time.Strayed.{Strayed}
use Rattle.std.specs.Prelude.{Option, Some, None}
use Rattle.refusals.specs.declared.Refusal.{Refusal}
use Rattle.refusals.specs.declared.Refusal.TheVariants as Refusals

-- ---- The contour of the goal.

-- The span less the time that the way takes, where the agent gets along at all; else the span itself (RULES 13.8).
unfoldable pub lateness : Float → Duration → Float → Result Duration Strayed
lateness speed wait reach =
    cond (Ieee.lt hundred_millionth speed)
    (span_of_seconds (Ieee.sub binary64 (seconds_of wait.0) (Ieee.div binary64 reach speed)))
    (Ok wait)

unfoldable pub goal_contour : Trip → TimePoint → Result Duration Refusal
goal_contour trip arrival =
    with_root (Err Refusals.Number) (norm_of (vector_difference (place_of trip.leg.end) (place_of trip.leg.start))) (λ reach.
    with_span (Err Refusals.Strayed) (span_between trip.leg.start.time arrival) (λ wait.
    with_span (Err Refusals.Strayed) (lateness trip.speed wait reach) (λ contour. Ok contour)))

-- ---- The root.

-- How many hints stand in front of the first whose contour is not below c.
unfoldable pub count_below : Duration → List RankedHint → ℕ
count_below c [] = 0
count_below c (h ∷ hs) = cond (lt_z h.contour.0 c.0) (count_below c hs + 1) 0

-- How many stand in front of the first whose contour is above c.
unfoldable pub count_level : Duration → List RankedHint → ℕ
count_level c [] = 0
count_level c (h ∷ hs) = cond (lt_z c.0 h.contour.0) 0 (count_level c hs + 1)

-- The last hint of the first contour that is not below the goal's, if there is any (RULES 13.9).
unfoldable pub first_root : Duration → List RankedHint → Option ℕ
first_root goal hints = by (count_below goal hints) (drop (count_below goal hints) hints)
  where
    by : ℕ → List RankedHint → Option ℕ
    by i [] = None
    by i (h ∷ hs) = Some (i + count_level h.contour hs)
