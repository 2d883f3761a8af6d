-- One path for one arrival time (RULES 13.5 to 13.26).
-- Assumes nothing.
use Rattle.std.specs.Prelude.{ℕ, cond, List, [], ◌∷◌, eqb, length}
use Rattle.times.specs.declared.time.Duration.{Duration}
use Rattle.times.specs.declared.time.TimePoint.{TimePoint}
use Rattle.table.specs.Obstacle.{Obstacle}
use Rattle.hint_list.specs.declared.hint.RankedHint.{RankedHint}
use Rattle.path_search.specs.Answer as A
use Rattle.path_search.specs.Answer.{Chained}
use Rattle.path_search.specs.declared.trial.Trial.{Trial}
use Rattle.path_search.specs.declared.trial.Trial.TheVariants as T
use Rattle.path_roots.specs.Roots.{goal_contour, first_root}
use Rattle.path_tests.specs.Tests.{straight}
use Rattle.path_tests.specs.declared.trip.Trip.{Trip}
use Rattle.path_chains.specs.Trying.{chain_from}
use Rattle.path_actions.specs.Built as B
use Rattle.path_actions.specs.Built.{Built, built, hints_at, unheld}
use Rattle.path_actions.specs.declared.action.SafeAction.{SafeAction}
use Rattle.path_actions.specs.declared.action.SafeAction.TheVariants.{Move}
use Rattle.std.specs.Prelude.{Result, Ok, Err}
use Rattle.refusals.specs.declared.Refusal.{Refusal}

-- A path with its pops and its hold, none with the pops, or a refusal.
pub data Sought : Type 0 where
  Path : List SafeAction → ℕ → Duration → Sought
  Missing : ℕ → Sought
  Refused : Refusal → Sought

abbrev pub with_pops : ℕ → Built → Sought
with_pops pops (B.Of actions hold) = Path actions pops hold
with_pops pops (B.Refused n) = Refused n

-- The path along a chain (RULES 13.23).
unfoldable pub along_hints : Trip → List RankedHint → List ℕ → ℕ → Sought
along_hints trip hints links pops = with_pops pops (built trip trip.leg.start unheld (hints_at hints links))

-- What a search comes to (RULES 13.17, 13.21, 13.23).
unfoldable pub taken : Trip → List RankedHint → Chained → Sought
taken trip hints (A.Way links pops) = along_hints trip hints links pops
taken trip hints (A.NoWay pops) = Missing pops
taken trip hints (A.Refused n pops) = Refused n

abbrev pub contoured : Result Duration Refusal → (Duration → Sought) → Sought
contoured (Ok d) go = go d
contoured (Err n) go = Refused n

-- By way of hints, where there are any (RULES 13.7 to 13.9).
unfoldable pub by_hints : Trip → List Obstacle → List RankedHint → ℕ → TimePoint → Sought
by_hints trip os hints budget arrival =
    cond (eqb (length hints) 0)
    (Missing 0)
    (contoured (goal_contour trip arrival) (λ goal.
    taken trip hints (chain_from trip os hints budget (first_root goal hints))))

-- One Move to the asked waypoint where the direct path is safe, else by way of hints (RULES 13.5 to 13.7).
unfoldable pub path_for : Trip → List Obstacle → List RankedHint → ℕ → TimePoint → Sought
path_for trip os hints budget arrival = by (straight trip os arrival) (λ _. by_hints trip os hints budget arrival)
  where
    by : Result Trial Refusal → (Unit {0} → Sought) → Sought
    by (Ok T.Passed) go = Path (Move trip.leg.end ∷ []) 0 unheld
    by (Ok T.Failed) go = go tt
    by (Err n) go = Refused n
