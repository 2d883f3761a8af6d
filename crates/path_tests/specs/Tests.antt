-- The tests of the path search (RULES 13.5, 13.10, 13.16).
-- Assumes nothing.
use Rattle.std.specs.Prelude.{cond, List}
use Rattle.std.specs.Int.Signed.{lt_z}
use Rattle.times.specs.declared.time.TimePoint.{TimePoint}
use Rattle.shapes.specs.Leg.{place_of}
use Rattle.shapes.specs.declared.waypoint.Waypoint.{Waypoint}
use Rattle.table.specs.Obstacle.{Obstacle}
use Rattle.path_search.specs.declared.trial.Trial.{Trial}
use Rattle.path_search.specs.declared.trial.Trial.TheVariants as T
use Rattle.path_tests.specs.Travel.{reached_from, with_reached}
use Rattle.path_tests.specs.Way.{way_of, next, both_ways}
use Rattle.path_tests.specs.declared.trip.Trip.{Trip}
use Rattle.std.specs.Prelude.{Result, Ok, Err}
use Rattle.refusals.specs.declared.Refusal.{Refusal}

-- From the waypoint of a hint to the place of another, and waiting there until its time (RULES 13.10).
unfoldable pub to_end : Trip → List Obstacle → Waypoint → Waypoint → Result Trial Refusal
to_end trip os h end = with_reached Err (reached_from trip.speed h (place_of end)) (λ w. both_ways trip.profile os h w end)

-- A root's way: the end is the goal's place, when the agent gets there (RULES 13.10).
unfoldable pub to_goal : Trip → List Obstacle → Waypoint → Result Trial Refusal
to_goal trip os h = with_reached Err (reached_from trip.speed h (place_of trip.leg.end)) (λ end. to_end trip os h end)

-- Waiting at a hint's place from an arrival there, which may not be after the hint's time (RULES 13.16).
unfoldable pub waits_at : Trip → List Obstacle → Waypoint → Waypoint → Result Trial Refusal
waits_at trip os w h = cond (lt_z h.time.0 w.time.0) (Ok T.Failed) (way_of trip.profile os w h)

-- A hint's own start: the way there, then the times, then the wait (RULES 13.16).
unfoldable pub from_start : Trip → List Obstacle → Waypoint → Result Trial Refusal
from_start trip os h =
    with_reached Err (reached_from trip.speed trip.leg.start (place_of h)) (λ w.
    next (way_of trip.profile os trip.leg.start w) (λ _. waits_at trip os w h))

-- Staying at the goal from an arrival there until the time asked for, where that is later (RULES 13.5).
unfoldable pub stays_till : Trip → List Obstacle → Waypoint → TimePoint → Result Trial Refusal
stays_till trip os w asked =
    cond (lt_z w.time.0 asked.0) (way_of trip.profile os w (record { time = asked; x = w.x; y = w.y })) (Ok T.Passed)

-- The direct path (RULES 13.5).
unfoldable pub straight : Trip → List Obstacle → TimePoint → Result Trial Refusal
straight trip os asked =
    with_reached Err (reached_from trip.speed trip.leg.start (place_of trip.leg.end)) (λ w.
    next (way_of trip.profile os trip.leg.start w) (λ _. stays_till trip os w asked))
