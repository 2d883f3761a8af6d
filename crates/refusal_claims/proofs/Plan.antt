-- A whole plan is refused by its input's faults, as hints alone, arrival times alone and paths are (RULES 5.5 to 5.7).
-- Assumes nothing.
use Prim.Native.Nat.{ℕ}
use mathlib.Core.Path.{◌≡◌, refl, ◌∙◌}
use mathlib.Core.Bool.{Bool, true, false, cond}
use mathlib.Core.List.{List, [], ◌∷◌}
use lib.ListN.{length}
use Rattle.times.specs.declared.time.TimePoint.{TimePoint}
use Rattle.shapes.specs.Box.{box_of_leg}
use Rattle.shapes.specs.Leg.{is_brief}
use Rattle.shapes.specs.declared.profile.CircularProfile.{CircularProfile}
use Rattle.shapes.specs.declared.waypoint.Leg.{Leg}
use Rattle.table.specs.Examined.{agent_examined}
use Rattle.table.specs.Lent.{Lent, obstacles_of}
use Rattle.table.specs.Obstacle.{Obstacle}
use Rattle.table.proofs.Accepted.{accepted}
use Rattle.hint_ranking.specs.Hints as R
use Rattle.hint_ranking.specs.Hints.{Ranked}
use Rattle.hint_list.specs.declared.hint.RankedHint.{RankedHint}
use Rattle.hints.specs.Contour.{scale_of, ranked_hints}
use Rattle.hints.specs.declared.contour.Scale.{Scale}
use Rattle.hints.proofs.Reaches.{Scaled, scale_given}
use Rattle.arrival_search.specs.Search as A
use Rattle.arrival_times.specs.Asked.{asked_arrivals}
use Rattle.arrival_legs.specs.Watched.{arrivals_at}
use Rattle.arrival_claims.specs.DemandThree.{Refusal, by_numbers, by_shape, by_creep, by_stuck}
use Rattle.arrival_claims.proofs.DemandThree.{demand_three}
use Rattle.path_tests.specs.declared.trip.Trip.{Trip}
use Rattle.one_path.specs.Path as P
use Rattle.one_path.specs.Path.{path_for}
use Rattle.domain.specs.Beside.{is_budget, with_numbers}
use Rattle.plan_model.specs.Asked.{table_plan, asked_plan}
use Rattle.plan_model.specs.Plan.{Path, Paths, Of, first, sought, paths_for, Plan, Planned, Refused, trip_of}
use Rattle.plan_model.specs.Plan.{with_scale, hinted, timed, planned}
use Rattle.plan_model.specs.Plan.{paths_planned, times_planned, hints_planned, long_plan, short_plan, plan_of}
use Rattle.domain.proofs.Fine.{numbers_fine}
use Rattle.plan_claims.proofs.Calls.{hints_alone, arrivals_alone}
use Rattle.refusal_claims.specs.Numbers.{HintsRefusal, PathRefusal, PlanRefusal}
use Rattle.refusal_claims.specs.Numbers.{Number, Shape, Backward, NoLine, Creep, Apart, Strayed, Stuck, Full, Spent}
use Rattle.refusal_claims.proofs.Examined.{Finds, agent_finds, numbers_find}
use Rattle.refusal_claims.proofs.Hints.{hints_refused}
use Rattle.refusal_claims.proofs.Path.{Seeks, seeks}
use Rattle.std.specs.Prelude.{Result, Ok, Err}
use Rattle.refusals.specs.declared.Refusal as Declared

-- ---- As the parts are.

as_path : {why : Declared.Refusal} → PathRefusal why → PlanRefusal why
as_path Number = Number
as_path Shape = Shape
as_path Backward = Backward
as_path NoLine = NoLine
as_path Creep = Creep
as_path Apart = Apart
as_path Strayed = Strayed
as_path Spent = Spent

as_hints : {why : Declared.Refusal} → HintsRefusal why → PlanRefusal why
as_hints Number = Number
as_hints Shape = Shape
as_hints Backward = Backward
as_hints NoLine = NoLine
as_hints Strayed = Strayed
as_hints Full = Full

as_arrivals : {why : Declared.Refusal} → Refusal why → PlanRefusal why
as_arrivals by_numbers = Number
as_arrivals by_shape = Shape
as_arrivals by_creep = Creep
as_arrivals by_stuck = Stuck

-- ---- The paths.

abbrev AllSeek : Paths → Type 0
AllSeek (Of ps) = Unit {0}
AllSeek (Paths.Refused why) = PlanRefusal why

first_seeks : (q : Path) (ps : Paths) → AllSeek ps → AllSeek (first q ps)
first_seeks q (Of ps) h = tt
first_seeks q (Paths.Refused why) h = h

sought_seeks : (s : P.Sought) (t : TimePoint) (ps : Paths) → Seeks s → AllSeek ps → AllSeek (sought s t (λ _. ps))
sought_seeks (P.Path actions pops hold) t ps h k =
    first_seeks (record { arrival = t; pops = pops; hold = hold; actions = actions }) ps k
sought_seeks (P.Missing pops) t ps h k = k
sought_seeks (P.Refused why) t ps h k = as_path h

all_seek : (trip : Trip) (os : List Obstacle) (hints : List RankedHint) (budget : ℕ) (times : List TimePoint) →
    AllSeek (paths_for trip os hints budget times)
unfolding paths_for
all_seek trip os hints budget [] = tt
all_seek trip os hints budget (t ∷ ts) =
    sought_seeks (path_for trip os hints budget t) t (paths_for trip os hints budget ts) (seeks trip os hints budget t)
    (all_seek trip os hints budget ts)

-- ---- The plan.

abbrev Plans : Plan → Type 0
Plans (Planned hints times sweeps ps) = Unit {0}
Plans (Refused why) = PlanRefusal why

module _ (p : CircularProfile) (agent : Leg) (budget : ℕ) (lent : Lent) (fine : agent_examined p agent lent ≡ (Ok tt)) where
  abbrev os : List Obstacle
  os = obstacles_of lent

  paths_plan : (trip : Trip) (hints : List RankedHint) (times : List TimePoint) (sweeps : ℕ) →
      Plans (paths_planned trip os hints budget times sweeps)
  unfolding paths_planned
  paths_plan trip hints times sweeps = by (paths_for trip os hints budget times) (all_seek trip os hints budget times)
    where
      by : (ps : Paths) → AllSeek ps → Plans (planned (length hints) (length times) sweeps ps)
      by (Of ps) h = tt
      by (Paths.Refused why) h = h

  -- The search for arrival times is the call's, which ends and is refused by 1, 2, 5 or 8 (RULES D3, 4.8).
  times_plan : (scale : Scale) (hints : List RankedHint) → Plans (times_planned (trip_of p agent scale) os hints budget)
  unfolding times_planned
  times_plan scale hints = by (arrivals_at p agent.end os) (arrivals_alone p agent lent fine)
    where
      trip : Trip
      trip = trip_of p agent scale

      by : (a : A.Searched) → asked_arrivals p agent.end lent ≡ a →
          Plans (timed a (λ times sweeps. paths_planned trip os hints budget times sweeps))
      by (A.Answered times sweeps) e = paths_plan trip hints times sweeps
      by (A.Refused why) e = as_arrivals ((demand_three p agent.end lent).refusals e)
      by A.Unfinished e = absurd ((demand_three p agent.end lent).finished e)

  hints_plan : is_brief agent ≡ false → (scale : Scale) → Plans (hints_planned (trip_of p agent scale) os budget)
  unfolding hints_planned
  hints_plan lasts scale = by own refl
    where
      own : Ranked
      own = ranked_hints p agent (box_of_leg p.footprint agent) os

      by : (given : Ranked) → own ≡ given → Plans (hinted given (λ hints. times_planned (trip_of p agent scale) os hints budget))
      by (R.Of hints) e = times_plan scale hints
      by (R.Refused why) e = as_hints (hints_refused p agent lent (hints_alone p agent lent fine lasts ∙ e))

  long_plan_law : is_brief agent ≡ false → Plans (long_plan p agent budget os)
  unfolding long_plan
  long_plan_law lasts = by (scale_of agent) (scale_given agent (accepted p agent lent fine).own)
    where
      by : (s : Result Scale Declared.Refusal) → Scaled s →
          Plans (with_scale s (λ scale. hints_planned (trip_of p agent scale) os budget))
      by (Ok scale) h = hints_plan lasts scale
      by (Err why) h = rw h NoLine

  whole_plan : Plans (plan_of p agent budget os)
  unfolding plan_of short_plan
  whole_plan = by (is_brief agent) refl
    where
      by : (brief : Bool) → is_brief agent ≡ brief → Plans (cond brief (short_plan agent) (long_plan p agent budget os))
      by true e = tt
      by false e = long_plan_law e

-- ---- The call.

asked_plans : (p : CircularProfile) (agent : Leg) (budget : ℕ) (lent : Lent) → Plans (asked_plan p agent budget lent)
unfolding asked_plan table_plan agent_examined
asked_plans p agent budget lent =
    by input refl
    (numbers_find PlanRefusal Number Shape (is_budget budget) (agent_examined p agent lent)
    (agent_finds PlanRefusal Number Shape Backward p agent lent))
  where
    input : Result Unit Declared.Refusal
    input = with_numbers (is_budget budget) (agent_examined p agent lent)

    by : (x : Result Unit Declared.Refusal) → input ≡ x → Finds PlanRefusal x → Plans (asked_plan p agent budget lent)
    by (Ok tt) f h = rw f (whole_plan p agent budget lent (numbers_fine (is_budget budget) (agent_examined p agent lent) f))
    by (Err why) f h = rw f h

pub plan_refused : (p : CircularProfile) (agent : Leg) (budget : ℕ) (lent : Lent) {why : Declared.Refusal} →
    asked_plan p agent budget lent ≡ Refused why → PlanRefusal why
plan_refused p agent budget lent e = rw e at (asked_plans p agent budget lent)
