-- The paths of a plan, one for each arrival time or none, in order (RULES 13.1, 13.22, 15.11).
-- Assumes nothing.
use Prim.Native.Nat.{ℕ, ◌≤◌}
use mathlib.Core.Path.{◌≡◌, refl, sym, subst}
use mathlib.Core.Bool.{true≢false}
use mathlib.Core.List.{List, [], ◌∷◌}
use native.Mathlib.Omega.{arith}
use lib.ListN.{length}
use lib.Signed.{◌<ℤ◌}
use Rattle.times.specs.declared.time.TimePoint.{TimePoint}
use Rattle.table.specs.Obstacle.{Obstacle}
use Rattle.hint_list.specs.declared.hint.RankedHint.{RankedHint}
use Rattle.arrival_search.specs.Sweeps.{All, Rising}
use Rattle.path_tests.specs.declared.trip.Trip.{Trip}
use Rattle.one_path.specs.Path as P
use Rattle.one_path.specs.Path.{path_for}
use Rattle.plan_model.specs.Plan.{Path, Paths, Of, Refused, first, sought, paths_for}
use Rattle.plan_claims.specs.Whole.{arrivals_of, InTurn, ended, found, missing}
use Rattle.refusals.specs.declared.Refusal.{Refusal}

not_given : {n : Refusal} {ps : List Path} → Refused n ≡ Of ps → ⊥
not_given e = true≢false (cc e)

module _ (trip : Trip) (os : List Obstacle) (hints : List RankedHint) (budget : ℕ) where
  abbrev Turn : List TimePoint → List Path → Type 0
  Turn = InTurn trip os hints budget

  pub in_turn : (ts : List TimePoint) (ps : List Path) → paths_for trip os hints budget ts ≡ Of ps →
      InTurn trip os hints budget ts ps
  unfolding paths_for
  in_turn [] ps e = let none : [] ≡ ps = cc e in subst (Turn []) none ended
  in_turn (t ∷ ts) ps e = by (path_for trip os hints budget t) refl e (in_turn ts)
    where
      behind : (q : Path) (rest : Paths) → paths_for trip os hints budget ts ≡ rest → first q rest ≡ Of ps →
          q.arrival ≡ t → path_for trip os hints budget t ≡ P.Path q.actions q.pops q.hold →
          ((l : List Path) → paths_for trip os hints budget ts ≡ Of l → Turn ts l) → Turn (t ∷ ts) ps
      behind q (Of l) these e time path others =
          let all : q ∷ l ≡ ps = cc e in subst (Turn (t ∷ ts)) all (found time path (others l these))
      behind q (Refused n) these e time path others = absurd (not_given e)

      by : (s : P.Sought) → path_for trip os hints budget t ≡ s → sought s t (λ _. paths_for trip os hints budget ts) ≡ Of ps →
          ((l : List Path) → paths_for trip os hints budget ts ≡ Of l → Turn ts l) → Turn (t ∷ ts) ps
      by (P.Path actions pops hold) path e others =
          behind (record { arrival = t; pops = pops; hold = hold; actions = actions }) (paths_for trip os hints budget ts) refl e refl
          path
          others
      by (P.Missing pops) path e others = missing path (others ps e)
      by (P.Refused n) path e others = absurd (not_given e)

  pub few : {ts : List TimePoint} {ps : List Path} → InTurn trip os hints budget ts ps → length ps ≤ length ts
  few ended = omega arith
  few (found time path rest) = omega (arith, few rest)
  few (missing path rest) = omega (arith, few rest)

  -- What holds of all arrival times holds of those of the paths,
  pub all_arrivals : (F : TimePoint → Type 0) {ts : List TimePoint} {ps : List Path} → InTurn trip os hints budget ts ps →
      All F ts → All F (arrivals_of ps)
  all_arrivals F ended all = tt
  all_arrivals F (found time path rest) all = (rw (sym time) at all.0, all_arrivals F rest all.1)
  all_arrivals F (missing path rest) all = all_arrivals F rest all.1

  -- and they rise as all do.
  pub rise : {ts : List TimePoint} {ps : List Path} → InTurn trip os hints budget ts ps → Rising ts → Rising (arrivals_of ps)
  rise ended rising = tt
  rise (found {q = q} time path rest) rising =
      (all_arrivals (λ u. q.arrival.0 <ℤ u.0) rest (rw (sym time) at rising.0), rise rest rising.1)
  rise (missing path rest) rising = rise rest rising.1

  -- Each path is the one for its arrival time.
  abbrev pub Given : Path → Type 0
  Given q = path_for trip os hints budget q.arrival ≡ P.Path q.actions q.pops q.hold

  pub all_given : {ts : List TimePoint} {ps : List Path} → InTurn trip os hints budget ts ps → All Given ps
  all_given ended = tt
  all_given (found time path rest) = (rw time path, all_given rest)
  all_given (missing path rest) = all_given rest
