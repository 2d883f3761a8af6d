-- Among at most 64 hints a path has at most 129 actions: two for each hint of its chain, and the last move (RULES 13.23).
-- Assumes nothing.
use Prim.Native.Nat.{ℕ, ◌+◌, ◌*◌, ◌≤◌}
use mathlib.Core.Path.{◌≡◌, refl, subst}
use mathlib.Core.Bool.{Bool, true, false, cond}
use mathlib.Core.List.{List}
use native.Mathlib.Omega.{arith}
use lib.Dec.{eqb}
use lib.ListN.{length}
use Rattle.times.specs.declared.time.Duration.{Duration}
use Rattle.times.specs.declared.time.TimePoint.{TimePoint}
use Rattle.hint_list.specs.declared.hint.RankedHint.{RankedHint}
use Rattle.table.specs.Obstacle.{Obstacle}
use Rattle.path_search.specs.Answer.{Chained, Way, NoWay, Refused}
use Rattle.path_search.specs.declared.trial.Trial.{Trial}
use Rattle.path_search.specs.declared.trial.Trial.TheVariants as T
use Rattle.path_search.proofs.Links.{way_links}
use Rattle.path_roots.specs.Roots.{goal_contour, first_root}
use Rattle.path_tests.specs.Tests.{straight}
use Rattle.path_tests.specs.declared.trip.Trip.{Trip}
use Rattle.path_chains.specs.Trying.{chain_from}
use Rattle.path_actions.specs.Built as B
use Rattle.path_actions.specs.Built.{Built}
use Rattle.path_actions.specs.Built.{built, hints_at, unheld}
use Rattle.path_actions.specs.declared.action.SafeAction.{SafeAction}
use Rattle.path_chains.proofs.Few.{chain_few}
use Rattle.path_actions.proofs.Counted.{Counts, chain_counts}
use Rattle.one_path.specs.Path as P
use Rattle.one_path.specs.Path.{Sought, Path, Missing, with_pops, contoured}
use Rattle.one_path.specs.Path.{along_hints, taken, by_hints, path_for}
use Rattle.std.specs.Prelude.{Result, Ok, Err}
use Rattle.refusals.specs.declared.Refusal.{Refusal}

-- At most 129 actions, where there is a path.
abbrev Short : Sought → Type 0
Short (Path actions pops hold) = length actions ≤ 129
Short (Missing pops) = Unit {0}
Short (P.Refused n) = Unit {0}

pops_short : (n pops : ℕ) (b : Built) → Counts n b → n ≤ 129 → Short (with_pops pops b)
pops_short n pops (B.Of actions hold) h few = omega arith
pops_short n pops (B.Refused k) h few = tt

along_short : (trip : Trip) (hints : List RankedHint) (links : List ℕ) (pops : ℕ) →
    length links ≤ 64 → Short (along_hints trip hints links pops)
unfolding along_hints
along_short trip hints links pops few =
    pops_short (2 * length links + 1) pops (built trip trip.leg.start unheld (hints_at hints links))
    (chain_counts trip hints links) (omega arith)

taken_short : (trip : Trip) (hints : List RankedHint) (answer : Chained) → way_links answer ≤ 64 → Short (taken trip hints answer)
unfolding taken
taken_short trip hints (Way links pops) few = along_short trip hints links pops few
taken_short trip hints (NoWay pops) few = tt
taken_short trip hints (Refused n pops) few = tt

contoured_short : (c : Result Duration Refusal) (go : Duration → Sought) → ((d : Duration) → Short (go d)) → Short (contoured c go)
contoured_short (Ok d) go h = h d
contoured_short (Err n) go h = tt

module _ (trip : Trip) (os : List Obstacle) (hints : List RankedHint) (few : length hints ≤ 64) (budget : ℕ)
    (arrival : TimePoint) where
  hints_short : Short (by_hints trip os hints budget arrival)
  unfolding by_hints
  hints_short = by (eqb (length hints) 0)
    where
      answer : Duration → Chained
      answer goal = chain_from trip os hints budget (first_root goal hints)

      go : Duration → Sought
      go goal = taken trip hints (answer goal)

      by : (none : Bool) → Short (cond none (Missing 0) (contoured (goal_contour trip arrival) go))
      by true = tt
      by false = contoured_short (goal_contour trip arrival) go (λ goal.
          taken_short trip hints (answer goal) (chain_few trip os hints budget (first_root goal hints) few))

  for_short : Short (path_for trip os hints budget arrival)
  unfolding path_for
  for_short = by (straight trip os arrival) refl
    where
      by : (t : Result Trial Refusal) → straight trip os arrival ≡ t → Short (path_for trip os hints budget arrival)
      by (Ok T.Passed) e = rw e (omega arith)
      by (Ok T.Failed) e = rw e hints_short
      by (Err n) e = rw e tt

  pub path_short : (actions : List SafeAction) (pops : ℕ) (hold : Duration) →
      path_for trip os hints budget arrival ≡ Path actions pops hold → length actions ≤ 129
  path_short actions pops hold e = subst Short e for_short
