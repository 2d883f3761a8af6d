-- What a plan that is given was made of: the agent's line, hints, arrival times and paths (RULES 5.5 to 5.7, 13.1).
-- Assumes nothing.
use Prim.Native.Nat.{ℕ}
use mathlib.Core.Path.{◌≡◌, refl, ap, ◌∙◌}
use Rattle.std.specs.Prelude.{◌≢◌}
use mathlib.Core.Bool.{Bool, true, false, true≢false}
use mathlib.Core.List.{List}
use lib.ListN.{length}
use Rattle.times.specs.declared.time.TimePoint.{TimePoint}
use Rattle.shapes.specs.Box.{box_of_leg}
use Rattle.shapes.specs.declared.profile.CircularProfile.{CircularProfile}
use Rattle.shapes.specs.declared.waypoint.Leg.{Leg}
use Rattle.table.specs.Examined.{agent_examined}
use Rattle.table.specs.Lent.{Lent, obstacles_of}
use Rattle.table.specs.Obstacle.{Obstacle}
use Rattle.hint_list.specs.declared.hint.RankedHint.{RankedHint}
use Rattle.hint_ranking.specs.Hints as R
use Rattle.hint_ranking.specs.Hints.{Ranked}
use Rattle.hints.specs.Contour.{scale_of, ranked_hints}
use Rattle.hints.specs.declared.contour.Scale.{Scale}
use Rattle.arrival_search.specs.Search as A
use Rattle.arrival_search.proofs.Theorems.{finished}
use Rattle.arrival_legs.specs.Watched.{arrivals_at, view_at, watched_all}
use Rattle.domain.specs.Beside.{is_budget, with_numbers}
use Rattle.plan_model.specs.Asked.{table_plan, asked_plan}
use Rattle.plan_model.specs.Plan.{Path, Paths, Of, Planned, Refused, with_scale, hinted, timed, planned, trip_of, paths_for}
use Rattle.plan_model.specs.Plan.{paths_planned, times_planned, hints_planned, long_plan, plan_of}
use Rattle.std.specs.Prelude.{Result, Ok, Err}
use Rattle.refusals.specs.declared.Refusal.{Refusal}

-- The hints of the agent's leg.
abbrev pub own_hints : CircularProfile → Leg → List Obstacle → Ranked
own_hints p agent os = ranked_hints p agent (box_of_leg p.footprint agent) os

pub record Made (p : CircularProfile) (agent : Leg) (budget : ℕ) (os : List Obstacle) (hints times sweeps : ℕ) (ps : List Path) :
    Type 0 where
  pub scale : Scale
  pub line : scale_of agent ≡ Ok scale
  pub found : List RankedHint
  pub unrefused : own_hints p agent os ≡ R.Of found
  pub hint_count : length found ≡ hints
  pub list : List TimePoint
  pub arrivals : arrivals_at p agent.end os ≡ A.Answered list sweeps
  pub time_count : length list ≡ times
  pub paths : paths_for (trip_of p agent scale) os found budget list ≡ Of ps

-- A search that ran out of turns is never the answer.
never : (p : CircularProfile) (agent : Leg) (os : List Obstacle) → arrivals_at p agent.end os ≢ A.Unfinished
unfolding arrivals_at
never p agent os = finished (view_at agent.end) (watched_all p os) agent.end.time

module _ {hints times sweeps : ℕ} {ps : List Path} where
  not_planned : {n : Refusal} → Refused n ≡ Planned hints times sweeps ps → ⊥
  not_planned e = true≢false (cc e)

  module _ (p : CircularProfile) (agent : Leg) (budget : ℕ) (os : List Obstacle) where
    pub made : long_plan p agent budget os ≡ Planned hints times sweeps ps → Made p agent budget os hints times sweeps ps
    unfolding long_plan hints_planned times_planned paths_planned
    made = by (scale_of agent) refl
      where
        by_paths : (scale : Scale) → scale_of agent ≡ Ok scale →
            (own : List RankedHint) → own_hints p agent os ≡ R.Of own → (list : List TimePoint) (n : ℕ) →
            arrivals_at p agent.end os ≡ A.Answered list n →
            (paths : Paths) → paths_for (trip_of p agent scale) os own budget list ≡ paths →
            planned (length own) (length list) n paths ≡ Planned hints times sweeps ps → Made p agent budget os hints times sweeps ps
        by_paths scale line own unrefused list n arrivals (Of l) paths e =
            let sweep : n ≡ sweeps = cc e in
            let all : l ≡ ps = cc e in
            record {
              scale = scale;
              line = line;
              found = own;
              unrefused = unrefused;
              hint_count = cc e;
              list = list;
              arrivals = arrivals ∙ ap (A.Answered list) sweep;
              time_count = cc e;
              paths = paths ∙ ap Of all;
            }
        by_paths scale line own unrefused list n arrivals (Refused m) paths e = absurd (not_planned e)

        by_times : (scale : Scale) → scale_of agent ≡ Ok scale → (own : List RankedHint) → own_hints p agent os ≡ R.Of own →
            (a : A.Searched) → arrivals_at p agent.end os ≡ a →
            timed a (λ list n. paths_planned (trip_of p agent scale) os own budget list n) ≡ Planned hints times sweeps ps →
            Made p agent budget os hints times sweeps ps
        by_times scale line own unrefused (A.Answered list n) arrivals e =
            by_paths scale line own unrefused list n arrivals (paths_for (trip_of p agent scale) os own budget list) refl e
        by_times scale line own unrefused (A.Refused n) arrivals e = absurd (not_planned e)
        by_times scale line own unrefused A.Unfinished arrivals e = absurd (never p agent os arrivals)

        by_hints_law : (scale : Scale) → scale_of agent ≡ Ok scale → (own : Ranked) → own_hints p agent os ≡ own →
            hinted own (λ found. times_planned (trip_of p agent scale) os found budget) ≡ Planned hints times sweeps ps →
            Made p agent budget os hints times sweeps ps
        by_hints_law scale line (R.Of own) unrefused e = by_times scale line own unrefused (arrivals_at p agent.end os) refl e
        by_hints_law scale line (R.Refused n) refused e = absurd (not_planned e)

        by : (s : Result Scale Refusal) → scale_of agent ≡ s →
            with_scale s (λ scale. hints_planned (trip_of p agent scale) os budget) ≡ Planned hints times sweeps ps →
            Made p agent budget os hints times sweeps ps
        by (Ok scale) line e = by_hints_law scale line (own_hints p agent os) refl e
        by (Err n) line e = absurd (not_planned e)

  -- The input was fine, and the plan is that for the obstacles of the table (RULES 5.1).
  pub examined : (p : CircularProfile) (agent : Leg) (budget : ℕ) (lent : Lent) →
      asked_plan p agent budget lent ≡ Planned hints times sweeps ps →
      (agent_examined p agent lent ≡ (Ok tt)) × (plan_of p agent budget (obstacles_of lent) ≡ Planned hints times sweeps ps)
  unfolding asked_plan table_plan agent_examined with_numbers
  examined p agent budget lent e = by (is_budget budget) refl (agent_examined p agent lent) refl
    where
      by : (within : Bool) → is_budget budget ≡ within → (x : Result Unit Refusal) → agent_examined p agent lent ≡ x →
          (agent_examined p agent lent ≡ (Ok tt)) × (plan_of p agent budget (obstacles_of lent) ≡ Planned hints times sweeps ps)
      by true within (Ok _) fine = (fine, rw (within, fine) at e)
      by true within (Err n) refused = absurd (not_planned (rw (within, refused) at e))
      by false over (Ok _) fine = absurd (not_planned (rw (over, fine) at e))
      by false over (Err n) refused = absurd (not_planned (rw (over, refused) at e))
