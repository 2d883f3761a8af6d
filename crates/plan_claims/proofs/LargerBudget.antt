-- A larger budget changes no path and no plan but one that is refused 11 (RULES 13.21, 13.22).
-- Assumes nothing.
use Prim.Native.Nat.{ℕ, ◌≤◌}
use mathlib.Core.Path.{◌≡◌, refl, sym, ap, ◌∙◌}
use mathlib.Core.Logic.{◌≢◌}
use mathlib.Core.Bool.{Bool, true, false, cond, true≢false}
use mathlib.Core.List.{List, [], ◌∷◌}
use Rattle.std.specs.Prelude.{Option}
use native.Mathlib.Omega.{arith}
use borrow.Author.Tests.{leb-true, le-leb}
use lib.Dec.{eqb}
use lib.ListN.{length}
use Rattle.times.specs.declared.time.Duration.{Duration}
use Rattle.times.specs.declared.time.TimePoint.{TimePoint}
use Rattle.shapes.specs.Box.{box_of_leg}
use Rattle.shapes.specs.Leg.{is_brief}
use Rattle.shapes.specs.declared.profile.CircularProfile.{CircularProfile}
use Rattle.shapes.specs.declared.waypoint.Leg.{Leg}
use Rattle.table.specs.Examined.{agent_examined}
use Rattle.table.specs.Lent.{Lent, obstacles_of}
use Rattle.table.specs.Obstacle.{Obstacle}
use Rattle.hint_ranking.specs.Hints as R
use Rattle.hint_ranking.specs.Hints.{Ranked}
use Rattle.hint_list.specs.declared.hint.RankedHint.{RankedHint}
use Rattle.hints.specs.Contour.{scale_of, ranked_hints}
use Rattle.hints.specs.declared.contour.Scale.{Scale}
use Rattle.arrival_search.specs.Search as A
use Rattle.arrival_legs.specs.Watched.{arrivals_at}
use Rattle.path_search.specs.Answer as N
use Rattle.path_search.specs.Answer.{Chained, is_spent}
use Rattle.path_search.specs.declared.trial.Trial.{Trial}
use Rattle.path_search.specs.declared.trial.Trial.TheVariants as T
use Rattle.path_roots.specs.Roots.{goal_contour, first_root}
use Rattle.path_tests.specs.Tests.{straight}
use Rattle.path_tests.specs.declared.trip.Trip.{Trip}
use Rattle.path_chains.specs.Trying.{chain_from}
use Rattle.domain.specs.Beside.{is_budget, with_numbers}
use Rattle.one_path.specs.Path as P
use Rattle.one_path.specs.Path.{Sought, taken, contoured, by_hints, path_for}
use Rattle.plan_model.specs.Asked.{table_plan, asked_plan}
use Rattle.plan_model.specs.Plan as Q
use Rattle.plan_model.specs.Plan.{Path, Paths, Plan, first, sought, with_scale, hinted, timed, planned, trip_of, paths_for}
use Rattle.plan_model.specs.Plan.{paths_planned, times_planned, hints_planned, long_plan, plan_of}
use Rattle.plan_claims.proofs.Searched.{same_answer}
use Rattle.std.specs.Prelude.{Result, Ok, Err}
use Rattle.refusals.specs.declared.Refusal.{Refusal}
use Rattle.refusals.specs.declared.Refusal.TheVariants as Refusals

module _ (small large : ℕ) (le : small ≤ large) where
  module _ (trip : Trip) (os : List Obstacle) (hints : List RankedHint) where
    -- ---- A path.

    spent_told : (a : Chained) → is_spent a ≡ true → taken trip hints a ≡ P.Refused Refusals.Spent
    unfolding taken
    spent_told (N.Way links pops) e = absurd (true≢false (sym e))
    spent_told (N.NoWay pops) e = absurd (true≢false (sym e))
    spent_told (N.Refused Refusals.Spent pops) e = refl
    spent_told (N.Refused _ pops) e = absurd (true≢false (sym e))

    same_taken : (first : Option ℕ) → taken trip hints (chain_from trip os hints small first) ≢ P.Refused Refusals.Spent →
        taken trip hints (chain_from trip os hints large first) ≡
        taken trip hints (chain_from trip os hints small first)
    same_taken first kept = by (is_spent (chain_from trip os hints small first)) refl
      where
        by : (spent : Bool) → is_spent (chain_from trip os hints small first) ≡ spent →
            taken trip hints (chain_from trip os hints large first) ≡
            taken trip hints (chain_from trip os hints small first)
        by true spent = absurd (kept (spent_told (chain_from trip os hints small first) spent))
        by false left = rw (same_answer trip os hints small large le first left)

    same_by_hints : (t : TimePoint) → by_hints trip os hints small t ≢ P.Refused Refusals.Spent →
        by_hints trip os hints large t ≡ by_hints trip os hints small t
    unfolding by_hints
    same_by_hints t = by (eqb (length hints) 0) (goal_contour trip t)
      where
        found : ℕ → Duration → Sought
        found budget goal = taken trip hints (chain_from trip os hints budget (first_root goal hints))

        by : (none : Bool) (c : Result Duration Refusal) → cond none (P.Missing 0) (contoured c (found small)) ≢ P.Refused Refusals.Spent →
            cond none (P.Missing 0) (contoured c (found large)) ≡ cond none (P.Missing 0) (contoured c (found small))
        by true c kept = refl
        by false (Ok goal) kept = same_taken (first_root goal hints) kept
        by false (Err n) kept = refl

    pub same_path : (t : TimePoint) → path_for trip os hints small t ≢ P.Refused Refusals.Spent →
        path_for trip os hints large t ≡ path_for trip os hints small t
    unfolding path_for
    same_path t kept = by (straight trip os t) refl
      where
        by : (s : Result Trial Refusal) → straight trip os t ≡ s → path_for trip os hints large t ≡ path_for trip os hints small t
        by (Ok T.Passed) e = rw e
        by (Ok T.Failed) e = rw e (same_by_hints t (rw e at kept))
        by (Err n) e = rw e

    -- ---- Paths.

    same_sought : (s : Sought) (t : TimePoint) (few many : Paths) → sought s t (λ _. few) ≢ Q.Refused Refusals.Spent →
        (few ≢ Q.Refused Refusals.Spent → many ≡ few) → sought s t (λ _. many) ≡ sought s t (λ _. few)
    same_sought (P.Path actions pops hold) t few many kept same =
        let q : Path = record { arrival = t; pops = pops; hold = hold; actions = actions } in
        ap (first q) (same (λ e. kept (ap (first q) e)))
    same_sought (P.Missing pops) t few many kept same = same kept
    same_sought (P.Refused n) t few many kept same = refl

    same_paths : (ts : List TimePoint) → paths_for trip os hints small ts ≢ Q.Refused Refusals.Spent →
        paths_for trip os hints large ts ≡ paths_for trip os hints small ts
    unfolding paths_for
    same_paths [] kept = refl
    same_paths (t ∷ ts) kept =
        let few : Paths = paths_for trip os hints small ts in
        let many : Paths = paths_for trip os hints large ts in
        ap (λ (s : Sought). sought s t (λ _. many)) (same_path t (λ e. kept (ap (λ (s : Sought). sought s t (λ _. few)) e))) ∙
        same_sought (path_for trip os hints small t) t few many kept (same_paths ts)

  -- ---- A plan.

  fits : is_budget large ≡ true → is_budget small ≡ true
  unfolding is_budget
  fits within = let most : large ≤ 65535 = leb-true large 65535 within in le-leb small 65535 (omega arith)

  module _ (p : CircularProfile) (agent : Leg) where
    same_long : (os : List Obstacle) → long_plan p agent small os ≢ Q.Refused Refusals.Spent →
        long_plan p agent large os ≡ long_plan p agent small os
    unfolding long_plan hints_planned times_planned paths_planned
    same_long os = by (scale_of agent)
      where
        found : ℕ → Scale → List RankedHint → List TimePoint → ℕ → Plan
        found budget scale hints list n = paths_planned (trip_of p agent scale) os hints budget list n

        in_times : (scale : Scale) (hints : List RankedHint) (a : A.Searched) →
            timed a (found small scale hints) ≢ Q.Refused Refusals.Spent → timed a (found large scale hints) ≡ timed a (found small scale hints)
        in_times scale hints (A.Answered list n) kept =
            ap (planned (length hints) (length list) n)
            (same_paths (trip_of p agent scale) os hints list (λ e. kept (ap (planned (length hints) (length list) n) e)))
        in_times scale hints (A.Refused n) kept = refl
        in_times scale hints A.Unfinished kept = refl

        in_hints : (scale : Scale) (own : Ranked) →
            let times : ℕ → List RankedHint → Plan = λ budget hints. timed (arrivals_at p agent.end os) (found budget scale hints) in
            hinted own (times small) ≢ Q.Refused Refusals.Spent → hinted own (times large) ≡ hinted own (times small)
        in_hints scale (R.Of hints) kept = in_times scale hints (arrivals_at p agent.end os) kept
        in_hints scale (R.Refused n) kept = refl

        by : (s : Result Scale Refusal) → with_scale s (λ scale. hints_planned (trip_of p agent scale) os small) ≢ Q.Refused Refusals.Spent →
            with_scale s (λ scale. hints_planned (trip_of p agent scale) os large) ≡
            with_scale s (λ scale. hints_planned (trip_of p agent scale) os small)
        by (Ok scale) kept =
            in_hints scale (ranked_hints p agent (box_of_leg p.footprint agent) os) kept
        by (Err n) kept = refl

    same_planned : (os : List Obstacle) → plan_of p agent small os ≢ Q.Refused Refusals.Spent → plan_of p agent large os ≡ plan_of p agent small os
    unfolding plan_of
    same_planned os kept = by (is_brief agent) refl
      where
        by : (brief : Bool) → is_brief agent ≡ brief → plan_of p agent large os ≡ plan_of p agent small os
        by true e = rw e
        by false e = rw e (same_long os (rw e at kept))

    pub same_plan : (lent : Lent) → is_budget large ≡ true → asked_plan p agent small lent ≢ Q.Refused Refusals.Spent →
        asked_plan p agent large lent ≡ asked_plan p agent small lent
    unfolding asked_plan table_plan agent_examined with_numbers
    same_plan lent within kept = by (agent_examined p agent lent) refl
      where
        by : (x : Result Unit Refusal) → agent_examined p agent lent ≡ x → asked_plan p agent large lent ≡ asked_plan p agent small lent
        by (Ok _) e = rw (within, fits within, e) (same_planned (obstacles_of lent) (rw (fits within, e) at kept))
        by (Err n) e = rw (within, fits within, e)
