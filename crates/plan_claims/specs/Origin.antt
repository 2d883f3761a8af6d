-- Where a path comes from (RULES 13.5 to 13.9, 13.23). Every path has its origin: `origin` of proofs/Origin.
-- Assumes nothing.
use Rattle.std.specs.Prelude.{ℕ, ◌≡◌, List, [], ◌∷◌}
use Rattle.std.specs.Prelude.{Option}
use Rattle.times.specs.declared.time.Duration.{Duration}
use Rattle.times.specs.declared.time.TimePoint.{TimePoint}
use Rattle.table.specs.Obstacle.{Obstacle}
use Rattle.hint_list.specs.declared.hint.RankedHint.{RankedHint}
use Rattle.path_search.specs.Answer.{Way}
use Rattle.path_search.specs.declared.trial.Trial.TheVariants as T
use Rattle.path_tests.specs.Tests.{straight}
use Rattle.path_tests.specs.declared.trip.Trip.{Trip}
use Rattle.path_chains.specs.Trying.{chain_from}
use Rattle.path_actions.specs.Built.{Of, built, hints_at, unheld}
use Rattle.path_actions.specs.declared.action.SafeAction.{SafeAction}
use Rattle.path_actions.specs.declared.action.SafeAction.TheVariants.{Move}
use Rattle.std.specs.Prelude.{Ok}

module _ (trip : Trip) (os : List Obstacle) (hints : List RankedHint) (budget : ℕ) (arrival : TimePoint) where
  -- The direct path passed its test, and is one Move to the goal with no pops and no hold; or it failed, a chain of hints was found
  -- with these pops, and the path is built along it.
  pub data Origin (actions : List SafeAction) (pops : ℕ) (hold : Duration) : Type 0 where
    direct : straight trip os arrival ≡ (Ok T.Passed) → actions ≡ Move trip.leg.end ∷ [] → pops ≡ 0 → hold ≡ unheld →
        Origin actions pops hold
    along : (first : Option ℕ) (links : List ℕ) → straight trip os arrival ≡ (Ok T.Failed) →
        chain_from trip os hints budget first ≡ Way links pops →
        built trip trip.leg.start unheld (hints_at hints links) ≡ Of actions hold →
        Origin actions pops hold
