-- The whole plan: hints, arrival times, and a path or none for each of them (RULES 13.1, 13.4, 5.5 to 5.7).
-- Assumes nothing.
use Rattle.std.specs.Prelude.{ℕ, cond, List, [], ◌∷◌, ◌++◌, map, ℤ, length}
use Rattle.number_words.specs.Word.{word_of}
use Rattle.times.specs.declared.time.Duration.{Duration}
use Rattle.times.specs.declared.time.TimePoint.{TimePoint}
use Rattle.shapes.specs.Box.{box_of_leg}
use Rattle.shapes.specs.Leg.{is_brief}
use Rattle.shapes.specs.declared.profile.CircularProfile.{CircularProfile}
use Rattle.shapes.specs.declared.waypoint.Leg.{Leg}
use Rattle.table.specs.Obstacle.{Obstacle}
use Rattle.hint_ranking.specs.Hints as R
use Rattle.hint_ranking.specs.Hints.{Ranked}
use Rattle.hint_list.specs.declared.hint.RankedHint.{RankedHint}
use Rattle.hints.specs.Contour.{scale_of, ranked_hints}
use Rattle.hints.specs.declared.contour.Scale.{Scale}
use Rattle.arrival_search.specs.Search as A
use Rattle.arrival_legs.specs.Watched.{arrivals_at}
use Rattle.path_tests.specs.declared.trip.Trip.{Trip}
use Rattle.path_actions.specs.Built.{unheld}
use Rattle.path_actions.specs.declared.action.SafeAction.{SafeAction}
use Rattle.path_actions.specs.declared.action.SafeAction.TheVariants.{Move}
use Rattle.one_path.specs.Path as P
pub use Rattle.one_path.specs.Asked.{trip_of}
use Rattle.std.specs.Prelude.{Result, Ok, Err}
use Rattle.refusals.specs.declared.Refusal.{Refusal}

-- A path, the arrival time that it is for, its pops and its hold.
pub record Path : Type 0 where
  pub arrival : TimePoint
  pub pops : ℕ
  pub hold : Duration
  pub actions : List SafeAction

pub data Paths : Type 0 where
  Of : List Path → Paths
  Refused : Refusal → Paths

abbrev pub first : Path → Paths → Paths
first p (Of ps) = Of (p ∷ ps)
first p (Refused n) = Refused n

-- An arrival time with no path adds none; a refusal ends the work (RULES 13.1, 13.22, 15.11).
abbrev pub sought : P.Sought → TimePoint → (Unit {0} → Paths) → Paths
sought (P.Path actions pops hold) t go = first (record { arrival = t; pops = pops; hold = hold; actions = actions }) (go tt)
sought (P.Missing pops) t go = go tt
sought (P.Refused n) t go = Refused n

-- For each arrival time in order (RULES 13.1).
unfoldable pub paths_for : Trip → List Obstacle → List RankedHint → ℕ → List TimePoint → Paths
paths_for trip os hints budget [] = Of []
paths_for trip os hints budget (t ∷ ts) =
    sought (P.path_for trip os hints budget t) t (λ _. paths_for trip os hints budget ts)

-- How many hints, arrival times and sweeps there are, and the paths; or a refusal.
pub data Plan : Type 0 where
  Planned : ℕ → ℕ → ℕ → List Path → Plan
  Refused : Refusal → Plan

-- ---- Going on with a part that may be refused.

abbrev pub with_scale : Result Scale Refusal → (Scale → Plan) → Plan
with_scale (Ok scale) go = go scale
with_scale (Err n) go = Refused n

abbrev pub hinted : Ranked → (List RankedHint → Plan) → Plan
hinted (R.Of hints) go = go hints
hinted (R.Refused n) go = Refused n

-- `Unfinished` is never the answer (`finished` of arrival_search, proofs/Theorems): it is no refusal, and nothing is planned by it.
abbrev pub timed : A.Searched → (List TimePoint → ℕ → Plan) → Plan
timed (A.Answered times sweeps) go = go times sweeps
timed (A.Refused n) go = Refused n
timed A.Unfinished go = Planned 0 0 0 []

abbrev pub planned : ℕ → ℕ → ℕ → Paths → Plan
planned hints times sweeps (Of ps) = Planned hints times sweeps ps
planned hints times sweeps (Refused n) = Refused n

-- ---- The plan.

-- The instants of nanoseconds.
unfoldable pub instants_of : List ℤ → List TimePoint
instants_of times = map (λ t. record { 0 = t }) times

-- For the hints and arrival times that there are.
unfoldable pub paths_planned : Trip → List Obstacle → List RankedHint → ℕ → List TimePoint → ℕ → Plan
paths_planned trip os hints budget times sweeps =
    planned (length hints) (length times) sweeps (paths_for trip os hints budget times)

-- The arrival times at the goal, then the paths.
unfoldable pub times_planned : Trip → List Obstacle → List RankedHint → ℕ → Plan
times_planned trip os hints budget =
    timed (arrivals_at trip.profile trip.leg.end os) (λ times sweeps.
    paths_planned trip os hints budget times sweeps)

-- The hints, then the arrival times and the paths (RULES 5.7).
unfoldable pub hints_planned : Trip → List Obstacle → ℕ → Plan
hints_planned trip os budget =
    hinted (ranked_hints trip.profile trip.leg (box_of_leg trip.profile.footprint trip.leg) os) (λ hints.
    times_planned trip os hints budget)

-- 4 for the agent's line comes before all of them (RULES 5.6).
unfoldable pub long_plan : CircularProfile → Leg → ℕ → List Obstacle → Plan
long_plan p agent budget os = with_scale (scale_of agent) (λ scale. hints_planned (trip_of p agent scale) os budget)

-- A plan of less than 10 ns is one Move (RULES 13.4, 15.9).
unfoldable pub short_plan : Leg → Plan
short_plan agent =
    Planned 0 0 0
    (record { arrival = agent.end.time; pops = 0; hold = unheld; actions = Move agent.end ∷ [] } ∷ [])

unfoldable pub plan_of : CircularProfile → Leg → ℕ → List Obstacle → Plan
plan_of p agent budget os = cond (is_brief agent) (short_plan agent) (long_plan p agent budget os)

-- ---- Its words, in rows of four (RULES 15.1, 15.2).

abbrev pub path_words : Path → List ℕ
path_words p = word_of p.arrival.0 ∷ (p.pops ∷ (word_of p.hold.0 ∷ (length p.actions ∷ [])))

abbrev pub path_rows : List Path → List (List ℕ)
path_rows ps = map path_words ps

-- The actions of all paths, one path behind another.
unfoldable pub all_actions : List Path → List SafeAction
all_actions [] = []
all_actions (p ∷ ps) = p.actions ++ all_actions ps

-- The first row counts hints, arrival times, sweeps and paths; then a row for each path.
abbrev pub head_rows : ℕ → ℕ → ℕ → List Path → List (List ℕ)
head_rows hints times sweeps ps = (hints ∷ (times ∷ (sweeps ∷ (length ps ∷ [])))) ∷ path_rows ps
