-- The largest of a crew's holds is one of them, and none of them is above it.
-- Assumes nothing.
use mathlib.Core.Path.{◌≡◌, refl}
use mathlib.Core.Bool.{Bool, true, false, cond}
use mathlib.Core.List.{List, [], ◌∷◌}
use lib.IntN.{ℤ}
use lib.Signed.{lt_z, ◌≤ℤ◌, lt_z_no, ≤ℤ_refl}
use Rattle.floats.proofs.Tests.{passed, failed}
use Rattle.times.proofs.Integers.{below→at-most, at_most_trans}
use Rattle.hold_figures.specs.Crews.{largest_of}
use Rattle.hold_claims.specs.Claims.{AmongHolds, Here, Later}

-- What is first, or behind the first, is so too with one more between.
past_second : {x : ℤ} (z y : ℤ) (ys : List ℤ) → AmongHolds x (z ∷ ys) → AmongHolds x (z ∷ y ∷ ys)
past_second z y ys (Here _) = Here (y ∷ ys)
past_second z y ys (Later _ _ a) = Later z (y ∷ ys) (Later y ys a)

pub largest_among : (z : ℤ) (zs : List ℤ) → AmongHolds (largest_of z zs) (z ∷ zs)
unfolding largest_of
largest_among z [] = Here []
largest_among z (y ∷ ys) = by (lt_z z y) (largest_among y ys) (largest_among z ys)
  where
    by : (b : Bool) → AmongHolds (largest_of y ys) (y ∷ ys) → AmongHolds (largest_of z ys) (z ∷ ys) →
        AmongHolds (largest_of (cond b y z) ys) (z ∷ y ∷ ys)
    by true of-second of-first = Later z (y ∷ ys) of-second
    by false of-second of-first = past_second z y ys of-first

-- The larger of two is at or above each of them.
first_under : (z y : ℤ) → z ≤ℤ cond (lt_z z y) y z
first_under z y = by (lt_z z y) refl
  where
    by : (b : Bool) → lt_z z y ≡ b → z ≤ℤ cond b y z
    by true e = below→at-most z y (passed e)
    by false e = ≤ℤ_refl z

second_under : (z y : ℤ) → y ≤ℤ cond (lt_z z y) y z
second_under z y = by (lt_z z y) refl
  where
    by : (b : Bool) → lt_z z y ≡ b → y ≤ℤ cond b y z
    by true e = ≤ℤ_refl y
    by false e = lt_z_no (failed e)

-- What the walk begins with is never above what it ends with.
begun_under : (z : ℤ) (zs : List ℤ) → z ≤ℤ largest_of z zs
unfolding largest_of
begun_under z [] = ≤ℤ_refl z
begun_under z (y ∷ ys) =
    at_most_trans z (cond (lt_z z y) y z) (largest_of (cond (lt_z z y) y z) ys) (first_under z y) (begun_under (cond (lt_z z y) y z) ys)

-- A number is the first, the second or one behind them.
of_three : (bound z y : ℤ) (ys : List ℤ) (x : ℤ) → AmongHolds x (z ∷ y ∷ ys) → z ≤ℤ bound → y ≤ℤ bound →
    (AmongHolds x ys → x ≤ℤ bound) → x ≤ℤ bound
of_three bound z y ys x (Here _) first second behind = first
of_three bound z y ys x (Later _ _ (Here _)) first second behind = second
of_three bound z y ys x (Later _ _ (Later _ _ a)) first second behind = behind a

pub all_under : (z : ℤ) (zs : List ℤ) (x : ℤ) → AmongHolds x (z ∷ zs) → x ≤ℤ largest_of z zs
unfolding largest_of
all_under z [] x (Here _) = ≤ℤ_refl z
all_under z [] x (Later _ _ x6) = elim x6 [ ]
all_under z (y ∷ ys) x among =
    let larger : ℤ = cond (lt_z z y) y z in
    let above-larger : larger ≤ℤ largest_of larger ys = begun_under larger ys in
    of_three (largest_of larger ys) z y ys x among
    (at_most_trans z larger (largest_of larger ys) (first_under z y) above-larger)
    (at_most_trans y larger (largest_of larger ys) (second_under z y) above-larger)
    (λ a. all_under larger ys x (Later larger ys a))
