-- There are no more paths than arrival times (RULES 13.1).
-- Assumes nothing.
use Prim.Native.Nat.{ℕ, suc, ◌≤◌}
use mathlib.Core.Path.{◌≡◌, sym, ◌∙◌, ap}
use mathlib.Core.Bool.{true≢false}
use mathlib.Core.List.{List, [], ◌∷◌}
use native.Mathlib.Omega.{arith}
use lib.IntN.{ℤ}
use lib.ListN.{length, take, length-map}
use lib.Seq.{length-take-le}
use Rattle.times.specs.declared.time.TimePoint.{TimePoint}
use Rattle.table.specs.Obstacle.{Obstacle}
use Rattle.hint_list.specs.declared.hint.RankedHint.{RankedHint}
use Rattle.path_tests.specs.declared.trip.Trip.{Trip}
use Rattle.one_path.specs.Path as P
use Rattle.one_path.specs.Path.{Sought, path_for}
use Rattle.plan_model.specs.Plan as Q
use Rattle.plan_model.specs.Plan.{Path, Of, Refused, first, sought, paths_for, instants_of}
use Rattle.plan_model.specs.Laid.{PutPaths, path_counts}
use Rattle.std.specs.Prelude.{Result, Ok, Err}
use Rattle.refusals.specs.declared.Refusal.{Refusal}
use Rattle.plan_model.specs.declared.rooms.Paths.{Paths}

-- At most n paths, where it is no refusal.
abbrev Fewer : ℕ → Q.Paths → Type 0
Fewer n (Of ps) = length ps ≤ n
Fewer n (Refused k) = Unit {0}

more : (n : ℕ) (ps : Q.Paths) → Fewer n ps → Fewer (suc n) ps
more n (Of ps) h = omega arith
more n (Refused k) h = tt

one_more : (n : ℕ) (p : Path) (ps : Q.Paths) → Fewer n ps → Fewer (suc n) (first p ps)
one_more n p (Of ps) h = omega arith
one_more n p (Refused k) h = tt

at_one : (n : ℕ) (s : Sought) (t : TimePoint) (ps : Q.Paths) → Fewer n ps → Fewer (suc n) (sought s t (λ _. ps))
at_one n (P.Path actions pops hold) t ps h = one_more n _ ps h
at_one n (P.Missing pops) t ps h = more n ps h
at_one n (P.Refused k) t ps h = tt

paths_fewer : (trip : Trip) (os : List Obstacle) (hints : List RankedHint) (budget : ℕ) (times : List TimePoint) →
    Fewer (length times) (paths_for trip os hints budget times)
unfolding paths_for
paths_fewer trip os hints budget [] = omega arith
paths_fewer trip os hints budget (t ∷ ts) =
    at_one (length ts) (path_for trip os hints budget t) t (paths_for trip os hints budget ts) (paths_fewer trip os hints budget ts)

-- As many arrival times as are read of a list.
pub times_count : (list : List ℤ) (count : ℕ) → count ≤ length list → length (instants_of (take count list)) ≡ count
unfolding instants_of
times_count list count long = length-map (take count list) _ ∙ length-take-le count list long

abbrev paths_in : Result Paths Refusal → ℕ
paths_in (Ok counts) = counts.paths
paths_in (Err _) = 0

-- So few paths are put.
pub found_few : (trip : Trip) (os : List Obstacle) (hints : List RankedHint) (budget : ℕ) (times : List TimePoint)
    {lent left lentActions leftActions : List ℕ} {r : Result Paths Refusal} {found many : ℕ} →
    PutPaths (paths_for trip os hints budget times) lent left lentActions leftActions r → r ≡ Ok (record { paths = found; actions = many }) →
    found ≤ length times
unfolding path_counts
found_few trip os hints budget times {found} {many} p e =
    by (paths_for trip os hints budget times) (sym e ∙ p.counts) (paths_fewer trip os hints budget times)
  where
    by : (a : Q.Paths) → Ok (record { paths = found; actions = many }) ≡ path_counts a → Fewer (length times) a → found ≤ length times
    by (Of ps) f h = let same : found ≡ length ps = ap paths_in f in omega arith
    by (Refused n) f h = absurd (true≢false (cc f))
