-- Every path has its origin: the direct test, or a chain that was found (RULES 13.5 to 13.9, 13.23).
-- Assumes nothing.
use Prim.Native.Nat.{ℕ}
use mathlib.Core.Path.{◌≡◌, refl}
use mathlib.Core.Bool.{Bool, true, false, cond, true≢false}
use mathlib.Core.List.{List, [], ◌∷◌}
use Rattle.std.specs.Prelude.{Option}
use lib.Dec.{eqb}
use lib.ListN.{length}
use Rattle.times.specs.declared.time.Duration.{Duration}
use Rattle.times.specs.declared.time.TimePoint.{TimePoint}
use Rattle.table.specs.Obstacle.{Obstacle}
use Rattle.hint_list.specs.declared.hint.RankedHint.{RankedHint}
use Rattle.path_search.specs.Answer as A
use Rattle.path_search.specs.Answer.{Chained}
use Rattle.path_search.specs.declared.trial.Trial.{Trial}
use Rattle.path_search.specs.declared.trial.Trial.TheVariants as T
use Rattle.path_roots.specs.Roots.{goal_contour, first_root}
use Rattle.path_tests.specs.Tests.{straight}
use Rattle.path_tests.specs.declared.trip.Trip.{Trip}
use Rattle.path_chains.specs.Trying.{chain_from}
use Rattle.path_actions.specs.Built as B
use Rattle.path_actions.specs.Built.{Built, built, hints_at, unheld}
use Rattle.path_actions.specs.declared.action.SafeAction.{SafeAction}
use Rattle.path_actions.specs.declared.action.SafeAction.TheVariants.{Move}
use Rattle.one_path.specs.Path as P
use Rattle.one_path.specs.Path.{Path, Missing, with_pops, along_hints, taken, contoured, by_hints, path_for}
use Rattle.plan_claims.specs.Origin.{Origin, direct, along}
use Rattle.std.specs.Prelude.{Result, Ok, Err}
use Rattle.refusals.specs.declared.Refusal.{Refusal}

module _ {actions : List SafeAction} {pops : ℕ} {hold : Duration} where
  not_missing : {n : ℕ} → Missing n ≡ Path actions pops hold → ⊥
  not_missing e = true≢false (cc e)

  not_refused : {n : Refusal} → P.Refused n ≡ Path actions pops hold → ⊥
  not_refused e = true≢false (cc e)

  -- What is built is a path's actions and hold, and the pops are those it is given.
  made : (n : ℕ) (b : Built) → with_pops n b ≡ Path actions pops hold → (b ≡ B.Of actions hold) × (n ≡ pops)
  made n (B.Of done sum) e = (cc e, cc e)
  made n (B.Refused m) e = absurd (not_refused e)

  module _ (trip : Trip) (os : List Obstacle) (hints : List RankedHint) (budget : ℕ) (arrival : TimePoint) where
    by_answer : (first : Option ℕ) → straight trip os arrival ≡ (Ok T.Failed) → (a : Chained) → chain_from trip os hints budget first ≡ a →
        taken trip hints a ≡ Path actions pops hold → Origin trip os hints budget arrival actions pops hold
    unfolding taken along_hints
    by_answer first failed (A.Way links n) found e =
        let m = made n (built trip trip.leg.start unheld (hints_at hints links)) e in
        along first links failed (rw m.1 at found) m.0
    by_answer first failed (A.NoWay n) found e = absurd (not_missing e)
    by_answer first failed (A.Refused m n) found e = absurd (not_refused e)

    by_hints_law : straight trip os arrival ≡ (Ok T.Failed) → by_hints trip os hints budget arrival ≡ Path actions pops hold →
        Origin trip os hints budget arrival actions pops hold
    unfolding by_hints
    by_hints_law failed = by (eqb (length hints) 0) (goal_contour trip arrival)
      where
        chain : Duration → Chained
        chain goal = chain_from trip os hints budget (first_root goal hints)

        by : (none : Bool) (contour : Result Duration Refusal) →
            cond none (Missing 0) (contoured contour (λ goal. taken trip hints (chain goal))) ≡ Path actions pops hold →
            Origin trip os hints budget arrival actions pops hold
        by true contour e = absurd (not_missing e)
        by false (Ok goal) e = by_answer (first_root goal hints) failed (chain goal) refl e
        by false (Err n) e = absurd (not_refused e)

    pub origin : path_for trip os hints budget arrival ≡ Path actions pops hold →
        Origin trip os hints budget arrival actions pops hold
    unfolding path_for
    origin e = by (straight trip os arrival) refl
      where
        by : (t : Result Trial Refusal) → straight trip os arrival ≡ t → Origin trip os hints budget arrival actions pops hold
        by (Ok T.Passed) passed = let f = rw passed at e in direct passed (cc f) (cc f) (cc f)
        by (Ok T.Failed) failed = by_hints_law failed (rw failed at e)
        by (Err n) refused = absurd (not_refused (rw refused at e))

-- Where the direct path passes its test, it is the path (RULES 13.6).
pub direct_path : (trip : Trip) (os : List Obstacle) (hints : List RankedHint) (budget : ℕ) (arrival : TimePoint) →
    straight trip os arrival ≡ (Ok T.Passed) → path_for trip os hints budget arrival ≡ Path (Move trip.leg.end ∷ []) 0 unheld
unfolding path_for
direct_path trip os hints budget arrival passed = rw passed
