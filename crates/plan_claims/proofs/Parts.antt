-- The parts of a path, and of the tests along it: a way to a hint and the wait there, and the way to the goal (RULES 13.3, 13.10,
-- 13.16, 13.23).
-- Assumes nothing.
use mathlib.Core.Path.{◌≡◌, refl, ap, subst, ◌∙◌}
use mathlib.Core.Bool.{Bool, true, false, cond, true≢false}
use mathlib.Core.List.{List, [], ◌∷◌}
use lib.Ieee
use lib.Ieee.{Float, binary64}
use lib.Signed.{lt_z}
use Rattle.root.specs.Root.{with_root}
use Rattle.times.specs.Time.{instant_after_seconds, with_span, with_instant}
use Rattle.times.specs.declared.time.Duration.{Duration}
use Rattle.shapes.specs.Leg.{place_of}
use Rattle.shapes.specs.Vector.{vector_difference}
use Rattle.shapes.specs.declared.vector.Vector.{Vector}
use Rattle.shapes.specs.declared.waypoint.Waypoint.{Waypoint}
use Rattle.courses.specs.Norm.{norm_of}
use Rattle.table.specs.Obstacle.{Obstacle}
use Rattle.hint_list.specs.declared.hint.WaitHint.{WaitHint}
use Rattle.path_search.specs.declared.trial.Trial.{Trial}
use Rattle.path_search.specs.declared.trial.Trial.TheVariants as T
use Rattle.path_tests.specs.Tests.{to_end, to_goal, waits_at, from_start}
use Rattle.path_tests.specs.Travel.{waypoint_at, hint_waypoint, reached_from, with_reached}
use Rattle.path_tests.specs.Way.{way_of, next, both_ways}
use Rattle.path_tests.specs.declared.trip.Trip.{Trip}
use Rattle.path_actions.specs.Built.{Built, Of, Refused, hold_after, stopped, ended, in_front, and_on, built}
use Rattle.path_actions.specs.declared.action.SafeAction.{SafeAction}
use Rattle.path_actions.specs.declared.action.SafeAction.TheVariants.{Move, Wait}
use Rattle.std.specs.Prelude.{Result, Ok, Err}
use Rattle.times.specs.declared.time.Strayed.{Strayed}
use Rattle.times.specs.declared.time.TimePoint.{TimePoint}
use Rattle.root.specs.declared.nearest.NoRoot.{NoRoot}
use Rattle.refusals.specs.declared.Refusal.{Refusal}
use Rattle.refusals.specs.declared.Refusal.TheVariants as Refusals

-- ---- Travel.

-- The agent gets to the place that it is asked for.
pub reached_there : (speed : Float) (from : Waypoint) (place : Vector) {w : Waypoint} →
    reached_from speed from place ≡ Ok w → w ≡ waypoint_at place w.time
unfolding reached_from
reached_there speed from place {w} =
    by (norm_of (vector_difference place (place_of from)))
    (λ length. instant_after_seconds from.time (Ieee.div binary64 length speed))
  where
    at : (i : Result TimePoint Strayed) → with_instant (Err Refusals.Strayed) i (λ t. Ok (waypoint_at place t)) ≡ Ok w → w ≡ waypoint_at place w.time
    at (Ok t) e =
        let same : waypoint_at place t ≡ w = cc e in
        subst (λ (v : Waypoint). v ≡ waypoint_at place v.time) same refl
    at (Err _) e = absurd (true≢false (cc e))

    by : (root : Result Float NoRoot) (when : Float → Result TimePoint Strayed) →
        with_root (Err Refusals.Number) root (λ length. with_instant (Err Refusals.Strayed) (when length) (λ t. Ok (waypoint_at place t))) ≡ Ok w →
        w ≡ waypoint_at place w.time
    by (Ok s) when e = at (when s) e
    by (Err _) when e = absurd (true≢false (cc e))

-- ---- What is built.

-- A hint of a path: the waypoint that the agent reaches, and the actions behind it, from the hint on.
pub record Stop (trip : Trip) (from : Waypoint) (h : WaitHint) (hs : List WaitHint) (actions : List SafeAction) (hold : Duration) :
    Type 0 where
  pub arrival : Waypoint
  pub reached : reached_from trip.speed from h.place ≡ Ok arrival
  pub rest : List SafeAction
  pub same : actions ≡ Move arrival ∷ (Wait h.obstacle h.until ∷ rest)
  pub sum : Duration
  pub behind : built trip (hint_waypoint h) sum hs ≡ Of rest hold

-- The end of a path: the agent reaches the goal's place.
pub record Arrived (trip : Trip) (from : Waypoint) (actions : List SafeAction) : Type 0 where
  pub arrival : Waypoint
  pub reached : reached_from trip.speed from (place_of trip.leg.end) ≡ Ok arrival
  pub same : actions ≡ Move arrival ∷ []

module _ (trip : Trip) (from : Waypoint) (start : Duration) {actions : List SafeAction} {hold : Duration} where
  not_built : {n : Refusal} → Refused n ≡ Of actions hold → ⊥
  not_built e = true≢false (cc e)

  pub stop : (h : WaitHint) (hs : List WaitHint) → built trip from start (h ∷ hs) ≡ Of actions hold →
      Stop trip from h hs actions hold
  unfolding built stopped
  stop h hs = by (reached_from trip.speed from h.place) refl
    where
      waiting : Waypoint → Duration → Built
      waiting w sum = Of (Move w ∷ (Wait h.obstacle h.until ∷ [])) sum

      on : (w : Waypoint) → reached_from trip.speed from h.place ≡ Ok w → (sum : Duration) (b : Built) →
          built trip (hint_waypoint h) sum hs ≡ b → in_front (Move w ∷ (Wait h.obstacle h.until ∷ [])) b ≡ Of actions hold →
          Stop trip from h hs actions hold
      on w reached sum (Of rest end) behind e =
          record {
            arrival = w;
            reached = reached;
            rest = rest;
            same = cc e;
            sum = sum;
            behind = behind ∙ cc e;
          }
      on w reached sum (Refused n) behind e = absurd (not_built e)

      held : (w : Waypoint) → reached_from trip.speed from h.place ≡ Ok w → (s : Result Duration Strayed) →
          and_on (with_span (Refused Refusals.Strayed) s (waiting w)) (λ sum. built trip (hint_waypoint h) sum hs) ≡ Of actions hold →
          Stop trip from h hs actions hold
      held w reached (Ok sum) e = on w reached sum (built trip (hint_waypoint h) sum hs) refl e
      held w reached (Err _) e = absurd (not_built e)

      by : (r : Result Waypoint Refusal) → reached_from trip.speed from h.place ≡ r →
          and_on (with_reached Refused r (λ w. with_span (Refused Refusals.Strayed) (hold_after start w.time h.until) (waiting w)))
          (λ sum. built trip (hint_waypoint h) sum hs) ≡ Of actions hold → Stop trip from h hs actions hold
      by (Ok w) reached e = held w reached (hold_after start w.time h.until) e
      by (Err n) reached e = absurd (not_built e)

  pub arrived : built trip from start [] ≡ Of actions hold → Arrived trip from actions
  unfolding built ended
  arrived = by (reached_from trip.speed from (place_of trip.leg.end)) refl
    where
      by : (r : Result Waypoint Refusal) → reached_from trip.speed from (place_of trip.leg.end) ≡ r →
          with_reached Refused r (λ w. Of (Move w ∷ []) start) ≡ Of actions hold → Arrived trip from actions
      by (Ok w) reached e = record { arrival = w; reached = reached; same = cc e }
      by (Err n) reached e = absurd (not_built e)

-- ---- What is tested.

passed_next : (t : Result Trial Refusal) (u : Result Trial Refusal) → next t (λ _. u) ≡ (Ok T.Passed) → (t ≡ (Ok T.Passed)) × (u ≡ (Ok T.Passed))
passed_next (Ok T.Passed) u e = (refl, e)
passed_next (Ok T.Failed) u e = absurd (true≢false (cc e))
passed_next (Err n) u e = absurd (true≢false (cc e))

module _ (trip : Trip) (os : List Obstacle) where
  -- A way to a hint and the wait there are both safe.
  pub record SafeStop (from w : Waypoint) (h : WaitHint) : Type 0 where
    pub way : way_of trip.profile os from w ≡ (Ok T.Passed)
    pub wait : way_of trip.profile os w (hint_waypoint h) ≡ (Ok T.Passed)

  pub end_passed : (from : Waypoint) (h : WaitHint) {w : Waypoint} → to_end trip os from (hint_waypoint h) ≡ (Ok T.Passed) →
      reached_from trip.speed from h.place ≡ Ok w → SafeStop from w h
  unfolding to_end both_ways hint_waypoint place_of
  end_passed from h {w} passed reached =
      let both = passed_next (way_of trip.profile os from w) (way_of trip.profile os w (hint_waypoint h)) (rw reached at passed) in
      record { way = both.0; wait = both.1 }

  -- A hint's own start: it passed, and so the agent is there in time (RULES 13.16).
  pub record InTime (w : Waypoint) (h : WaitHint) : Type 0 where
    pub safe : SafeStop trip.leg.start w h
    pub in_time : lt_z h.until.0 w.time.0 ≡ false

  pub start_passed : (h : WaitHint) {w : Waypoint} → from_start trip os (hint_waypoint h) ≡ (Ok T.Passed) →
      reached_from trip.speed trip.leg.start h.place ≡ Ok w → InTime w h
  unfolding from_start waits_at hint_waypoint place_of
  start_passed h {w} passed reached =
      let way = way_of trip.profile os trip.leg.start w in
      let both = passed_next way (waits_at trip os w (hint_waypoint h)) (rw reached at passed) in
      let wait = by (lt_z h.until.0 w.time.0) both.1 in
      record { safe = record { way = both.0; wait = wait.1 }; in_time = wait.0 }
    where
      by : (late : Bool) → cond late (Ok T.Failed) (way_of trip.profile os w (hint_waypoint h)) ≡ (Ok T.Passed) →
          (late ≡ false) × (way_of trip.profile os w (hint_waypoint h) ≡ (Ok T.Passed))
      by true e = absurd (true≢false (cc e))
      by false e = (refl, e)

  -- The way to the goal is safe, and leads there.
  pub goal_passed : (from : Waypoint) {w : Waypoint} → to_goal trip os from ≡ (Ok T.Passed) →
      reached_from trip.speed from (place_of trip.leg.end) ≡ Ok w →
      (way_of trip.profile os from w ≡ (Ok T.Passed)) × (place_of w ≡ place_of trip.leg.end)
  unfolding to_goal to_end both_ways place_of
  goal_passed from {w} passed reached =
      let goal = place_of trip.leg.end in
      let there : place_of w ≡ goal = ap place_of (reached_there trip.speed from goal reached) in
      let ways : next (way_of trip.profile os from w) (λ _. way_of trip.profile os w w) ≡ (Ok T.Passed) =
      rw (reached, there, reached) at passed in
      ((passed_next (way_of trip.profile os from w) (way_of trip.profile os w w) ways).0, there)
