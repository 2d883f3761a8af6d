-- The contour and the reach of a hint, and the hints of a leg ranked by them (RULES 11.1 to 11.7).
-- Assumes nothing.
use Rattle.std.specs.Prelude.{cond, List, [], ◌∷◌, Float, Result, Ok, Err}
use Rattle.std.specs.Float.Ieee
use Rattle.std.specs.Float.{binary64}
use Rattle.refusals.specs.declared.Refusal.{Refusal}
use Rattle.refusals.specs.declared.Refusal.TheVariants as Refusals
use Rattle.root.specs.Root.{with_root}
use Rattle.floats.specs.Constants.{hundred_millionth}
use Rattle.times.specs.Time.{span_between, seconds_of, span_of_seconds, with_span, strayed}
use Rattle.times.specs.declared.time.Duration.{Duration}
use Rattle.times.specs.declared.time.Strayed.{Strayed}
use Rattle.shapes.specs.Leg.{place_of}
use Rattle.shapes.specs.Vector.{vector_difference, divided, dot_of}
use Rattle.shapes.specs.declared.bounding_box.BoundingBox.{BoundingBox}
use Rattle.shapes.specs.declared.profile.CircularProfile.{CircularProfile}
use Rattle.shapes.specs.declared.waypoint.Leg.{Leg}
use Rattle.courses.specs.Norm.{norm_of}
use Rattle.table.specs.Obstacle.{Obstacle}
use Rattle.hint_list.specs.Hints as W
use Rattle.hint_list.specs.Hints.{Hints}
use Rattle.hint_list.specs.declared.hint.WaitHint.{WaitHint}
use Rattle.hint_list.specs.declared.hint.RankedHint.{RankedHint}
use Rattle.hint_ranking.specs.Ranked.{inserted}
use Rattle.hint_ranking.specs.Hints.{Ranked, Of, Refused}
use Rattle.hint_walk.specs.Walk.{hints_of}
use Rattle.hints.specs.declared.contour.Scale.{Scale}

-- ---- One hint.

-- The agent's line: 4 where it is shorter than 1e-8 (RULES 11.1).
unfoldable pub scale_of : Leg → Result Scale Refusal
scale_of leg =
    let way = vector_difference (place_of leg.end) (place_of leg.start) in
    with_root (Err Refusals.Number) (norm_of way) (λ distance.
    cond (Ieee.lt distance hundred_millionth)
    (Err Refusals.NoLine)
    (with_span (Err Refusals.Strayed) (span_between leg.start.time leg.end.time) (λ d.
    Ok (record {
      start = leg.start.time;
      from = place_of leg.start;
      direction = divided way distance;
      speed = Ieee.div binary64 distance (seconds_of d.0);
    }))))

-- The wait less the time that the agent takes to get there, where it gets along at all (RULES 11.4).
unfoldable pub contour_of : Float → Float → Float → Result Duration Strayed
contour_of speed wait reach =
    cond (Ieee.lt hundred_millionth speed) (span_of_seconds (Ieee.sub binary64 wait (Ieee.div binary64 reach speed))) (span_of_seconds wait)

-- Its reach, then its wait, then its contour (RULES 11.2 to 11.4, 11.8).
unfoldable pub grade_of : Scale → WaitHint → Result RankedHint Strayed
grade_of scale h =
    let reach = dot_of (vector_difference h.place scale.from) scale.direction in
    with_span strayed (span_between scale.start h.until) (λ d.
    with_span strayed (contour_of scale.speed (seconds_of d.0) reach) (λ contour.
    Ok (record { contour = contour; reach = reach; hint = h })))

-- ---- All of them.

-- Worked through in the order of finding, and each put at its place among those that are ranked already (RULES 11.5 to 11.7).
unfoldable pub graded_onto : Scale → List RankedHint → List WaitHint → Ranked
graded_onto scale done [] = Of done
graded_onto scale done (h ∷ hs) = by (grade_of scale h) (λ found. graded_onto scale found hs)
  where
    by : Result RankedHint Strayed → (List RankedHint → Ranked) → Ranked
    by (Ok r) go = go (inserted r done)
    by (Err _) go = Refused Refusals.Strayed

-- Hints that were found, by the scale of the agent's leg; 4 where it has none (RULES 11.1).
unfoldable pub measured_by : Result Scale Refusal → List WaitHint → Ranked
measured_by (Ok scale) hs = graded_onto scale [] hs
measured_by (Err why) hs = Refused why

-- The ranked hints of a leg of the agent's in its box: all are found first, then measured (RULES 5.7, 11.1, 11.5).
unfoldable pub ranked_hints : CircularProfile → Leg → BoundingBox → List Obstacle → Ranked
ranked_hints p leg bounds obstacles = by (hints_of p leg bounds obstacles)
  where
    by : Hints → Ranked
    by (W.Of hs) = measured_by (scale_of leg) hs
    by (W.Refused why) = Refused why
