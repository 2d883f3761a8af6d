-- A path is refused as its tests are, as travel is, by 7 for its hold, or by 11 (RULES 4.7, 4.11, 13.21, 13.22, 13.26).
-- Assumes nothing.
use Prim.Native.Nat.{ℕ}
use mathlib.Core.Path.{◌≡◌, refl}
use mathlib.Core.Bool.{Bool, true, false, cond}
use mathlib.Core.List.{List, [], ◌∷◌}
use Rattle.std.specs.Prelude.{Option, Some, None}
use lib.Dec.{eqb}
use lib.ListN.{length}
use Rattle.times.specs.Time.{with_span}
use Rattle.times.specs.declared.time.Duration.{Duration}
use Rattle.times.specs.declared.time.TimePoint.{TimePoint}
use Rattle.shapes.specs.Leg.{place_of}
use Rattle.shapes.specs.declared.waypoint.Waypoint.{Waypoint}
use Rattle.table.specs.Obstacle.{Obstacle}
use Rattle.hint_list.specs.declared.hint.WaitHint.{WaitHint}
use Rattle.hint_list.specs.declared.hint.RankedHint.{RankedHint}
use Rattle.path_search.specs.Answer.{Chained, Way, NoWay}
use Rattle.path_search.specs.Answer as A
use Rattle.path_search.specs.declared.trial.Trial.{Trial}
use Rattle.path_search.specs.declared.trial.Trial.TheVariants as T
use Rattle.path_roots.specs.Roots.{goal_contour, first_root}
use Rattle.path_tests.specs.Tests.{straight}
use Rattle.path_tests.specs.Travel.{hint_waypoint, reached_from, with_reached}
use Rattle.path_tests.specs.declared.trip.Trip.{Trip}
use Rattle.path_chains.specs.Trying.{stop_in, to_parent, starts_at, reaches, chain_from}
use Rattle.path_actions.specs.Built.{Built, Of, hold_after, stopped, ended, in_front, and_on, built, hints_at, unheld}
use Rattle.one_path.specs.Path.{Sought, Path, Missing, Refused, with_pops, along_hints, taken, contoured, by_hints, path_for}
use Rattle.path_actions.specs.declared.action.SafeAction.{SafeAction}
use Rattle.path_actions.specs.declared.action.SafeAction.TheVariants.{Move, Wait}
use Rattle.refusal_claims.specs.Numbers.{PathRefusal, Strayed, Spent}
use Rattle.refusal_claims.proofs.Chain.{Searches, searches}
use Rattle.refusal_claims.proofs.Ways.{Reaches, travels, Contours, contours, Tried, end_tried, goal_tried, start_tried_law}
use Rattle.refusal_claims.proofs.Ways.{straight_tried}
use Rattle.std.specs.Prelude.{Result, Ok, Err}
use Rattle.times.specs.declared.time.Strayed as Time
use Rattle.refusals.specs.declared.Refusal.{Refusal}
use Rattle.refusals.specs.declared.Refusal.TheVariants as Refusals

-- ---- What is built.

abbrev Builds : Built → Type 0
Builds (Of actions hold) = Unit {0}
Builds (Built.Refused why) = PathRefusal why

reaching_builds : (r : Result Waypoint Refusal) (go : Waypoint → Built) → Reaches r → ((w : Waypoint) → Builds (go w)) →
    Builds (with_reached Built.Refused r go)
reaching_builds (Ok w) go h k = k w
reaching_builds (Err why) go h k = h

spanning_builds : (s : Result Duration Time.Strayed) (go : Duration → Built) → ((d : Duration) → Builds (go d)) →
    Builds (with_span (Built.Refused Refusals.Strayed) s go)
spanning_builds (Ok d) go k = k d
spanning_builds (Err _) go k = Strayed

before_builds : (done : List SafeAction) (b : Built) → Builds b → Builds (in_front done b)
before_builds done (Of actions hold) h = tt
before_builds done (Built.Refused why) h = h

on_builds : (b : Built) (go : Duration → Built) → Builds b → ((d : Duration) → Builds (go d)) → Builds (and_on b go)
on_builds (Of actions hold) go h k = before_builds actions (go hold) (k hold)
on_builds (Built.Refused why) go h k = h

module _ (trip : Trip) where
  stop_builds : (from : Waypoint) (h : WaitHint) (hold : Duration) → Builds (stopped trip from h hold)
  unfolding stopped
  stop_builds from h hold =
      let move : Waypoint → Duration → Built = λ w sum. Of (Move w ∷ (Wait h.obstacle h.until ∷ [])) sum in
      reaching_builds (reached_from trip.speed from h.place)
      (λ w. with_span (Built.Refused Refusals.Strayed) (hold_after hold w.time h.until) (move w))
      (travels trip.speed from h.place)
      (λ w. spanning_builds (hold_after hold w.time h.until) (move w) (λ sum. tt))

  end_builds : (from : Waypoint) (hold : Duration) → Builds (ended trip from hold)
  unfolding ended
  end_builds from hold =
      let goal = place_of trip.leg.end in
      reaching_builds (reached_from trip.speed from goal) (λ w. Of (Move w ∷ []) hold) (travels trip.speed from goal)
      (λ w. tt)

  builds : (from : Waypoint) (hold : Duration) (hs : List WaitHint) → Builds (built trip from hold hs)
  unfolding built
  builds from hold [] = end_builds from hold
  builds from hold (h ∷ hs) =
      on_builds (stopped trip from h hold) (λ sum. built trip (hint_waypoint h) sum hs) (stop_builds from h hold)
      (λ sum. builds (hint_waypoint h) sum hs)

-- ---- The search.

module _ (trip : Trip) (os : List Obstacle) (hints : List RankedHint) where
  parent_tried : (i : ℕ) (parent : Option ℕ) → Tried (to_parent trip os hints i parent)
  unfolding to_parent
  parent_tried i None = goal_tried trip os (stop_in hints i)
  parent_tried i (Some j) = end_tried trip os (stop_in hints i) (stop_in hints j)

  from_tried : (i : ℕ) → Tried (starts_at trip os hints i)
  unfolding starts_at
  from_tried i = start_tried_law trip os (stop_in hints i)

  chain_searches : (budget : ℕ) (first : Option ℕ) → Searches PathRefusal (chain_from trip os hints budget first)
  unfolding chain_from
  chain_searches budget first =
      searches PathRefusal Spent (to_parent trip os hints) (starts_at trip os hints) (reaches hints) parent_tried from_tried budget
      (length hints) first

-- ---- The path.

abbrev pub Seeks : Sought → Type 0
Seeks (Path actions pops hold) = Unit {0}
Seeks (Missing pops) = Unit {0}
Seeks (Refused why) = PathRefusal why

pops_seek : (pops : ℕ) (b : Built) → Builds b → Seeks (with_pops pops b)
pops_seek pops (Of actions hold) h = tt
pops_seek pops (Built.Refused why) h = h

module _ (trip : Trip) (hints : List RankedHint) where
  along_seeks : (links : List ℕ) (pops : ℕ) → Seeks (along_hints trip hints links pops)
  unfolding along_hints
  along_seeks links pops =
      let stops = hints_at hints links in
      pops_seek pops (built trip trip.leg.start unheld stops) (builds trip trip.leg.start unheld stops)

  taken_seeks : (a : Chained) → Searches PathRefusal a → Seeks (taken trip hints a)
  unfolding taken
  taken_seeks (Way l p) h = along_seeks l p
  taken_seeks (NoWay p) h = tt
  taken_seeks (A.Refused why p) h = h

module _ (trip : Trip) (os : List Obstacle) (hints : List RankedHint) (budget : ℕ) (arrival : TimePoint) where
  hints_seek : Seeks (by_hints trip os hints budget arrival)
  unfolding by_hints
  hints_seek = by (eqb (length hints) 0) (goal_contour trip arrival) (contours trip arrival)
    where
      search : Duration → Sought
      search goal = taken trip hints (chain_from trip os hints budget (first_root goal hints))

      by : (none : Bool) (c : Result Duration Refusal) → Contours c → Seeks (cond none (Missing 0) (contoured c search))
      by true c h = tt
      by false (Ok goal) h =
          let first = first_root goal hints in
          taken_seeks trip hints (chain_from trip os hints budget first) (chain_searches trip os hints budget first)
      by false (Err why) h = h

  pub seeks : Seeks (path_for trip os hints budget arrival)
  unfolding path_for
  seeks = by (straight trip os arrival) refl (straight_tried trip os arrival)
    where
      by : (t : Result Trial Refusal) → straight trip os arrival ≡ t → Tried t → Seeks (path_for trip os hints budget arrival)
      by (Ok T.Passed) e h = rw e tt
      by (Ok T.Failed) e h = rw e hints_seek
      by (Err why) e h = rw e h
