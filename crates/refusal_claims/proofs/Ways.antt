-- Travel, the goal's contour and the tests of the path search are refused by 1, 5, 6 or 7 (RULES 4.1, 4.5 to 4.7, 5.8).
-- Assumes nothing.
use mathlib.Core.Path.{◌≡◌, refl}
use mathlib.Core.Bool.{Bool, true, false, cond}
use mathlib.Core.List.{List}
use lib.Ieee
use lib.Ieee.{Float, binary64}
use lib.Signed.{lt_z}
use Rattle.root.specs.Root.{with_root}
use Rattle.times.specs.Time.{span_between, instant_after_seconds, with_span, with_instant}
use Rattle.times.specs.declared.time.TimePoint.{TimePoint}
use Rattle.shapes.specs.Box.{box_of_leg}
use Rattle.shapes.specs.Leg.{place_of}
use Rattle.shapes.specs.Vector.{vector_difference}
use Rattle.shapes.specs.declared.bounding_box.BoundingBox.{BoundingBox}
use Rattle.shapes.specs.declared.profile.CircularProfile.{CircularProfile}
use Rattle.shapes.specs.declared.vector.Vector.{Vector}
use Rattle.shapes.specs.declared.waypoint.Leg.{Leg}
use Rattle.shapes.specs.declared.waypoint.Waypoint.{Waypoint}
use Rattle.proximity.proofs.Times.{Early, by_root, by_creep, by_gap, by_reach, refuses_early}
use Rattle.conflicts.specs.declared.conflict.Verdict.{Verdict}
use Rattle.conflicts.specs.declared.conflict.Verdict.TheVariants as J
use Rattle.conflicts.proofs.Conflicts.{refused_by_proximity}
use Rattle.courses.specs.Norm.{norm_of}
use Rattle.table.specs.Obstacle.{Obstacle}
use Rattle.segments.specs.Segment.{segment_of}
use Rattle.segments.proofs.Safe.{refused}
use Rattle.path_search.specs.declared.trial.Trial.{Trial}
use Rattle.path_search.specs.declared.trial.Trial.TheVariants as T
use Rattle.path_roots.specs.Roots.{lateness, goal_contour}
use Rattle.path_tests.specs.Tests.{to_end, to_goal, waits_at, from_start, stays_till, straight}
use Rattle.path_tests.specs.Travel.{waypoint_at, reached_from, with_reached}
use Rattle.path_tests.specs.Way.{trial_of, way_of, next, both_ways}
use Rattle.path_tests.specs.declared.trip.Trip.{Trip}
use Rattle.refusal_claims.specs.Numbers.{PathRefusal, Number, Creep, Apart, Strayed}
use Rattle.refusal_claims.proofs.Chain.{Tests}
use Rattle.std.specs.Prelude.{Result, Ok, Err}
use Rattle.times.specs.declared.time.Strayed as Time
use Rattle.times.specs.declared.time.Duration.{Duration}
use Rattle.root.specs.declared.nearest.NoRoot.{NoRoot}
use Rattle.refusals.specs.declared.Refusal.{Refusal}
use Rattle.refusals.specs.declared.Refusal.TheVariants as Refusals

-- ---- Travel.

abbrev pub Reaches : Result Waypoint Refusal → Type 0
Reaches (Ok w) = Unit {0}
Reaches (Err why) = PathRefusal why

pub travels : (speed : Float) (from : Waypoint) (place : Vector) → Reaches (reached_from speed from place)
unfolding reached_from
travels speed from place =
    by (norm_of (vector_difference place (place_of from)))
    (λ length. instant_after_seconds from.time (Ieee.div binary64 length speed))
  where
    at : (i : Result TimePoint Time.Strayed) → Reaches (with_instant (Err Refusals.Strayed) i (λ t. Ok (waypoint_at place t)))
    at (Ok t) = tt
    at (Err _) = Strayed

    by : (root : Result Float NoRoot) (when : Float → Result TimePoint Time.Strayed) →
        Reaches (with_root (Err Refusals.Number) root (λ length.
        with_instant (Err Refusals.Strayed) (when length) (λ t.
        Ok (waypoint_at place t))))
    by (Ok s) when = at (when s)
    by (Err _) when = Number

-- ---- The contour of the goal.

abbrev pub Contours : Result Duration Refusal → Type 0
Contours (Ok d) = Unit {0}
Contours (Err why) = PathRefusal why

pub contours : (trip : Trip) (arrival : TimePoint) → Contours (goal_contour trip arrival)
unfolding goal_contour
contours trip arrival =
    by (norm_of (vector_difference (place_of trip.leg.end) (place_of trip.leg.start)))
  where
    last : (s : Result Duration Time.Strayed) → Contours (with_span (Err Refusals.Strayed) s (λ contour. Ok contour))
    last (Ok d) = tt
    last (Err _) = Strayed

    spans : (s : Result Duration Time.Strayed) (reach : Float) →
        Contours (with_span (Err Refusals.Strayed) s (λ wait.
        with_span (Err Refusals.Strayed) (lateness trip.speed wait reach) (λ contour. Ok contour)))
    spans (Ok wait) reach = last (lateness trip.speed wait reach)
    spans (Err _) reach = Strayed

    by : (root : Result Float NoRoot) → Contours (with_root (Err Refusals.Number) root (λ reach.
        with_span (Err Refusals.Strayed) (span_between trip.leg.start.time arrival) (λ wait.
        with_span (Err Refusals.Strayed) (lateness trip.speed wait reach) (λ contour. Ok contour))))
    by (Ok reach) = spans (span_between trip.leg.start.time arrival) reach
    by (Err _) = Number

-- ---- Segments.

early : {why : Refusal} → Early why → PathRefusal why
early by_root = Number
early by_creep = Creep
early by_gap = Apart
early by_reach = Strayed

-- Any segment, a backward one too, is refused as proximity is (RULES 9.9, 5.11).
segment_refused : (leg : Leg) (bounds : BoundingBox) (os : List Obstacle) (why : Refusal) →
    segment_of leg bounds os ≡ Err why → PathRefusal why
segment_refused leg bounds os why e =
    let f = refused leg bounds os why e in
    let o = f.obstacle in
    let other = box_of_leg o.profile.footprint f.leg in
    early (refuses_early o.limit leg f.leg (refused_by_proximity leg bounds f.leg other o.limit f.verdict))

-- ---- Tests.

abbrev pub Tried : Result Trial Refusal → Type 0
Tried = Tests PathRefusal

reaching_tried : (r : Result Waypoint Refusal) (go : Waypoint → Result Trial Refusal) → Reaches r →
    ((w : Waypoint) → Tried (go w)) → Tried (with_reached Err r go)
reaching_tried (Ok w) go h k = k w
reaching_tried (Err why) go h k = h

next_tried : (t u : Result Trial Refusal) → Tried t → Tried u → Tried (next t (λ _. u))
next_tried (Ok T.Passed) u h k = k
next_tried (Ok T.Failed) u h k = tt
next_tried (Err why) u h k = h

module _ (p : CircularProfile) (os : List Obstacle) where
  way_tried : (from to : Waypoint) → Tried (way_of p os from to)
  unfolding way_of
  way_tried from to =
      let leg : Leg = record { start = from; end = to } in
      let bounds = box_of_leg p.footprint leg in
      by (segment_of leg bounds os) (segment_refused leg bounds os)
    where
      by : (v : Result Verdict Refusal) → ((why : Refusal) → v ≡ Err why → PathRefusal why) → Tried (trial_of v)
      by (Ok J.Clear) h = tt
      by (Ok J.Conflict) h = tt
      by (Err why) h = h why refl

  both_tried : (from via to : Waypoint) → Tried (both_ways p os from via to)
  unfolding both_ways
  both_tried from via to = next_tried (way_of p os from via) (way_of p os via to) (way_tried from via) (way_tried via to)

module _ (trip : Trip) (os : List Obstacle) where
  pub end_tried : (h end : Waypoint) → Tried (to_end trip os h end)
  unfolding to_end
  end_tried h end =
      reaching_tried (reached_from trip.speed h (place_of end)) (λ w. both_ways trip.profile os h w end)
      (travels trip.speed h (place_of end))
      (λ w. both_tried trip.profile os h w end)

  pub goal_tried : (h : Waypoint) → Tried (to_goal trip os h)
  unfolding to_goal
  goal_tried h =
      reaching_tried (reached_from trip.speed h (place_of trip.leg.end)) (to_end trip os h)
      (travels trip.speed h (place_of trip.leg.end))
      (end_tried h)

  wait_tried : (w h : Waypoint) → Tried (waits_at trip os w h)
  unfolding waits_at
  wait_tried w h = by (lt_z h.time.0 w.time.0)
    where
      by : (late : Bool) → Tried (cond late (Ok T.Failed) (way_of trip.profile os w h))
      by true = tt
      by false = way_tried trip.profile os w h

  pub start_tried_law : (h : Waypoint) → Tried (from_start trip os h)
  unfolding from_start
  start_tried_law h =
      let from = trip.leg.start in
      reaching_tried (reached_from trip.speed from (place_of h))
      (λ w. next (way_of trip.profile os from w) (λ _. waits_at trip os w h))
      (travels trip.speed from (place_of h))
      (λ w.
      next_tried (way_of trip.profile os from w) (waits_at trip os w h) (way_tried trip.profile os from w)
      (wait_tried w h))

  stay_tried : (w : Waypoint) (asked : TimePoint) → Tried (stays_till trip os w asked)
  unfolding stays_till
  stay_tried w asked = by (lt_z w.time.0 asked.0)
    where
      till : Waypoint
      till = record { time = asked; x = w.x; y = w.y }

      by : (later : Bool) → Tried (cond later (way_of trip.profile os w till) (Ok T.Passed))
      by true = way_tried trip.profile os w till
      by false = tt

  pub straight_tried : (asked : TimePoint) → Tried (straight trip os asked)
  unfolding straight
  straight_tried asked =
      let from = trip.leg.start in
      let goal = place_of trip.leg.end in
      reaching_tried (reached_from trip.speed from goal)
      (λ w. next (way_of trip.profile os from w) (λ _. stays_till trip os w asked))
      (travels trip.speed from goal)
      (λ w.
      next_tried (way_of trip.profile os from w) (stays_till trip os w asked) (way_tried trip.profile os from w)
      (stay_tried w asked))
