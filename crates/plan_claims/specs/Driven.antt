-- What the agent drives that does as a path says: ways to the goal's place, each of which is safe (RULES 13.3, 13.23). It is so in
-- every path by way of hints: `driven` of proofs/Driven.
-- Assumes nothing.
use Rattle.std.specs.Prelude.{◌≡◌, List, [], ◌∷◌}
use Rattle.times.specs.declared.time.TimePoint.{TimePoint}
use Rattle.shapes.specs.Leg.{place_of}
use Rattle.shapes.specs.declared.waypoint.Waypoint.{Waypoint}
use Rattle.table.specs.Obstacle.{Obstacle}
use Rattle.path_search.specs.declared.trial.Trial.TheVariants.{Passed}
use Rattle.path_tests.specs.Way.{way_of}
use Rattle.path_tests.specs.declared.trip.Trip.{Trip}
use Rattle.path_actions.specs.declared.action.SafeAction.{SafeAction}
use Rattle.path_actions.specs.declared.action.SafeAction.TheVariants.{Move, Wait}
use Rattle.std.specs.Prelude.{Ok}

-- The same place at another time.
abbrev pub stayed_till : Waypoint → TimePoint → Waypoint
stayed_till w t = record { time = t; x = w.x; y = w.y }

-- From a waypoint on: to the waypoint of each Move, staying there until the end of each Wait, and at last at the goal's place.
abbrev pub SafeFrom : Trip → List Obstacle → Waypoint → List SafeAction → Type 0
SafeFrom trip os from [] = place_of from ≡ place_of trip.leg.end
SafeFrom trip os from (Move w ∷ rest) = (way_of trip.profile os from w ≡ (Ok Passed)) × SafeFrom trip os w rest
SafeFrom trip os from (Wait obstacle end ∷ rest) =
    (way_of trip.profile os from (stayed_till from end) ≡ (Ok Passed)) × SafeFrom trip os (stayed_till from end) rest
