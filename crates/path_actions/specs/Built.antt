-- Moves, waits and the hold: what a chain of hints is built into (RULES 13.23 to 13.26).
-- Assumes nothing.
use Rattle.std.specs.Prelude.{ℕ, List, [], ◌∷◌, ◌++◌, map, pos, get_or}
use Rattle.refusals.specs.Names.{STRAYED}
use Rattle.times.specs.Time.{span_between, span_sum, with_span}
use Rattle.times.specs.declared.time.Duration.{Duration}
use Rattle.times.specs.declared.time.TimePoint.{TimePoint}
use Rattle.shapes.specs.Leg.{place_of}
use Rattle.shapes.specs.declared.waypoint.Waypoint.{Waypoint}
use Rattle.hint_list.specs.declared.hint.WaitHint.{WaitHint}
use Rattle.hint_list.specs.Words.{blank_ranked}
use Rattle.hint_list.specs.declared.hint.RankedHint.{RankedHint}
use Rattle.path_tests.specs.Travel.{hint_waypoint, reached_from, with_reached}
use Rattle.path_tests.specs.declared.trip.Trip.{Trip}
use Rattle.path_actions.specs.declared.action.SafeAction.{SafeAction}
use Rattle.path_actions.specs.declared.action.SafeAction.TheVariants.{Move, Wait}
use Rattle.std.specs.Prelude.{Result, Ok, Err}
use Rattle.times.specs.Time.{strayed}
use Rattle.times.specs.declared.time.Strayed.{Strayed}
use Rattle.refusals.specs.declared.Refusal.TheVariants as Refusals
use Rattle.refusals.specs.declared.Refusal.{Refusal}

-- Actions and the hold with their waits, or a refusal.
pub data Built : Type 0 where
  Of : List SafeAction → Duration → Built
  Refused : Refusal → Built

-- A wait is its end less the arrival; it and the running sum are spans (RULES 13.25, 13.26).
unfoldable pub hold_after : Duration → TimePoint → TimePoint → Result Duration Strayed
hold_after hold arrival until = by (span_between arrival until)
  where
    by : Result Duration Strayed → Result Duration Strayed
    by (Ok wait) = span_sum hold wait
    by (Err _) = strayed

-- A hint of the chain: a Move to its place, a Wait there for its obstacle (RULES 13.23).
unfoldable pub stopped : Trip → Waypoint → WaitHint → Duration → Built
stopped trip from h hold =
    with_reached Refused (reached_from trip.speed from h.place) (λ w.
    with_span (Refused Refusals.Strayed) (hold_after hold w.time h.until) (λ sum.
    Of (Move w ∷ (Wait h.obstacle h.until ∷ [])) sum))

-- At the end a Move to the goal's place (RULES 13.23).
unfoldable pub ended : Trip → Waypoint → Duration → Built
ended trip from hold =
    with_reached Refused (reached_from trip.speed from (place_of trip.leg.end)) (λ w. Of (Move w ∷ []) hold)

abbrev pub in_front : List SafeAction → Built → Built
in_front done (Of actions hold) = Of (done ++ actions) hold
in_front done (Refused why) = Refused why

abbrev pub and_on : Built → (Duration → Built) → Built
and_on (Of actions hold) go = in_front actions (go hold)
and_on (Refused why) go = Refused why

-- From a waypoint by way of hints to the goal, with the hold so far (RULES 13.23 to 13.26).
unfoldable pub built : Trip → Waypoint → Duration → List WaitHint → Built
built trip from hold [] = ended trip from hold
built trip from hold (h ∷ hs) = and_on (stopped trip from h hold) (λ sum. built trip (hint_waypoint h) sum hs)

-- The hints of a chain.
unfoldable pub hints_at : List RankedHint → List ℕ → List WaitHint
hints_at hints links = map (λ i. (get_or hints i blank_ranked).hint) links

-- No wait yet.
abbrev pub unheld : Duration
unheld = record { 0 = pos 0 }
