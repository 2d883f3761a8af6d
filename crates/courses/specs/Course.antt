-- A leg in motion, and the agent's course (RULES 10.1, 10.2, 10.7, 10.14).
-- Assumes nothing.
use Rattle.std.specs.Prelude.{cond, Float, Result, Ok, Err, Option, Some, None}
use Rattle.std.specs.Float.Ieee
use Rattle.root.specs.Root.{with_root}
use Rattle.floats.specs.Constants.{hundred_millionth}
use Rattle.times.specs.Time.{span_between, seconds_of, strayed}
use Rattle.shapes.specs.Leg.{place_of}
use Rattle.shapes.specs.Vector.{vector_difference, divided}
use Rattle.shapes.specs.declared.waypoint.Leg.{Leg}
use Rattle.courses.specs.Norm.{norm_of}
use Rattle.courses.specs.declared.course.Run.{Run}
use Rattle.times.specs.declared.time.Strayed.{Strayed}
use Rattle.times.specs.declared.time.Duration.{Duration}
use Rattle.refusals.specs.declared.Refusal.{Refusal}
use Rattle.courses.specs.declared.course.Course.{Course}
use Rattle.refusals.specs.declared.Refusal.TheVariants as Refusals

-- From a leg's start to its end in its seconds, so that the velocity is the way divided by them (RULES 10.2, 10.7, 10.14).
unfoldable pub run_of : Leg → Result Run Strayed
run_of leg = lasting (span_between leg.start.time leg.end.time)
  where
    in_seconds : Float → Result Run Strayed
    in_seconds dt =
        Ok (record {
          start = leg.start.time;
          end = leg.end.time;
          from = place_of leg.start;
          to = place_of leg.end;
          seconds = dt;
          velocity = divided (vector_difference (place_of leg.end) (place_of leg.start)) dt;
        })

    lasting : Result Duration Strayed → Result Run Strayed
    lasting (Ok d) = in_seconds (seconds_of d.0)
    lasting (Err _) = strayed

abbrev pub running : Result Run Strayed → (Run → Result (Option Course) Refusal) → Result (Option Course) Refusal
running (Ok run) go = go run
running (Err _) go = Err Refusals.Strayed

-- None where the length is not above 1e-8; else the direction, and the speed, which is the norm of the velocity (RULES 10.1, 10.2).
unfoldable pub course_of : Leg → Result (Option Course) Refusal
course_of leg =
    let way = vector_difference (place_of leg.end) (place_of leg.start) in
    with_root (Err Refusals.Number) (norm_of way) (λ distance.
    cond (Ieee.lt hundred_millionth distance)
    (running (run_of leg) (λ run.
    with_root (Err Refusals.Number) (norm_of run.velocity) (λ speed.
    Ok (Some (record { run = run; direction = divided way distance; distance = distance; speed = speed })))))
    (Ok None))
