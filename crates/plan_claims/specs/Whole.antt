-- What is claimed of every plan that is given (RULES 13.1, 13.4 to 13.6, 13.20 to 13.24). It holds of every call: `whole` of
-- proofs/Whole.
-- Assumes nothing.
use Rattle.std.specs.Prelude.{ℕ, ◌≤◌, ◌≡◌, true, false, length, ◌≤ℤ◌}
use mathlib.Core.List.{List, [], ◌∷◌, map, Memᴰ}
use Rattle.times.specs.declared.time.TimePoint.{TimePoint}
use Rattle.shapes.specs.Leg.{is_brief}
use Rattle.shapes.specs.declared.profile.CircularProfile.{CircularProfile}
use Rattle.shapes.specs.declared.waypoint.Leg.{Leg}
use Rattle.shapes.specs.declared.waypoint.Waypoint.{Waypoint}
use Rattle.table.specs.Lent.{Lent, obstacles_of}
use Rattle.table.specs.Obstacle.{Obstacle}
use Rattle.hint_ranking.specs.Hints.{Of}
use Rattle.hint_list.specs.declared.hint.RankedHint.{RankedHint}
use Rattle.hints.specs.Asked.{asked_hints}
use Rattle.hints.specs.Contour.{scale_of}
use Rattle.hints.specs.declared.contour.Scale.{Scale}
use Rattle.arrival_search.specs.Search.{Answered}
use Rattle.arrival_search.specs.Sweeps.{All, Rising}
use Rattle.arrival_times.specs.Asked.{asked_arrivals}
use Rattle.path_search.specs.declared.trial.Trial.TheVariants as T
use Rattle.path_tests.specs.Tests.{straight}
use Rattle.path_tests.specs.declared.trip.Trip.{Trip}
use Rattle.path_actions.specs.Built.{unheld}
use Rattle.path_actions.specs.declared.action.SafeAction.{SafeAction}
use Rattle.path_actions.specs.declared.action.SafeAction.TheVariants.{Move, Wait}
use Rattle.one_path.specs.Path as P
use Rattle.one_path.specs.Path.{path_for}
use Rattle.plan_model.specs.Asked.{asked_plan}
use Rattle.plan_model.specs.Plan.{Path, Planned, trip_of, short_plan}
use Rattle.plan_claims.specs.Driven.{SafeFrom}
use Rattle.std.specs.Prelude.{Ok}

-- ---- Paths.

abbrev pub arrivals_of : List Path → List TimePoint
arrivals_of ps = map (λ q. q.arrival) ps

-- For each arrival time in order one path or none (RULES 13.1, 15.11).
pub data InTurn (trip : Trip) (os : List Obstacle) (hints : List RankedHint) (budget : ℕ) :
    List TimePoint → List Path → Type 0 where
  ended : InTurn trip os hints budget [] []
  found : {t : TimePoint} {ts : List TimePoint} {q : Path} {ps : List Path} →
      q.arrival ≡ t → path_for trip os hints budget t ≡ P.Path q.actions q.pops q.hold →
      InTurn trip os hints budget ts ps → InTurn trip os hints budget (t ∷ ts) (q ∷ ps)
  missing : {t : TimePoint} {ts : List TimePoint} {ps : List Path} {pops : ℕ} →
      path_for trip os hints budget t ≡ P.Missing pops →
      InTurn trip os hints budget ts ps → InTurn trip os hints budget (t ∷ ts) ps

-- The agent gets to its first wait no later than that ends (RULES 13.24).
abbrev pub InTime : List SafeAction → Type 0
InTime actions =
    (w : Waypoint) (obstacle : ℕ) (end : TimePoint) (rest : List SafeAction) →
    actions ≡ Move w ∷ (Wait obstacle end ∷ rest) → w.time.0 ≤ℤ end.0

-- A path is one Move to the goal, whose test was passed, with no pops and no hold (RULES 13.5, 13.6); or it leads to the
-- goal's place, all that is driven in it is safe, and its first arrival is in time (RULES 13.23, 13.24).
pub data Sound (trip : Trip) (os : List Obstacle) (q : Path) : Type 0 where
  direct : straight trip os q.arrival ≡ (Ok T.Passed) → q.actions ≡ Move trip.leg.end ∷ [] → q.pops ≡ 0 → q.hold ≡ unheld →
      Sound trip os q
  waiting : SafeFrom trip os trip.leg.start q.actions → InTime q.actions → Sound trip os q

-- ---- Plans.

module _ (p : CircularProfile) (agent : Leg) (budget : ℕ) (lent : Lent) where
  -- A plan that lasts 10 ns or more, with these counts and paths.
  pub record Long (hints times sweeps : ℕ) (ps : List Path) : Type 0 where
    -- The agent's line has a speed (RULES 13.2).
    pub scale : Scale
    pub line : scale_of agent ≡ Ok scale
    -- The hints are those that the call for hints alone answers (RULES 13.1),
    pub found : List RankedHint
    pub hinted : asked_hints p agent lent ≡ Of found
    pub hint_count : length found ≡ hints
    -- the arrival times and the sweeps those of the call for arrival times alone (RULES 13.1),
    pub list : List TimePoint
    pub arrivals : asked_arrivals p agent.end lent ≡ Answered list sweeps
    pub time_count : length list ≡ times
    -- and the paths those for the arrival times, in turn (RULES 13.1).
    pub in_turn : InTurn (trip_of p agent scale) (obstacles_of lent) found budget list ps
    -- So there are no more paths than arrival times (RULES 15.11),
    pub few_paths : length ps ≤ times
    -- each path is for one of them, and the times rise strictly (RULES 15.6).
    pub listed : All (λ t. Memᴰ t list) (arrivals_of ps)
    pub rising : Rising (arrivals_of ps)
    -- No path took more pops than the budget has (RULES 13.21, 13.22).
    pub few_pops : All (λ q. q.pops ≤ budget) ps
    pub sound : All (Sound (trip_of p agent scale) (obstacles_of lent)) ps

  pub record Whole : Type 0 where
    -- A plan under 10 ns is one Move (RULES 13.4).
    pub short : {hints times sweeps : ℕ} {ps : List Path} → is_brief agent ≡ true →
        asked_plan p agent budget lent ≡ Planned hints times sweeps ps → Planned hints times sweeps ps ≡ short_plan agent
    pub long : {hints times sweeps : ℕ} {ps : List Path} → is_brief agent ≡ false →
        asked_plan p agent budget lent ≡ Planned hints times sweeps ps → Long hints times sweeps ps
