-- The sign and the size of a root: finite, 0 or more, and at most any z whose square is at least x; so at most 2^i for an x up to 2^2i.
-- Assumes nothing.
use mathlib.Core.Path.{◌≡◌, subst}
use mathlib.Core.Bool.{Bool, true, false}
use Prim.Native.Nat.{ℕ, zero, suc, ◌+◌, ◌*◌, ◌^◌, ◌≤◌, ◌<◌, zero-le}
use native.Mathlib.Nat as N
use native.Mathlib.Decide.{dec_le}
use native.Mathlib.Omega.{arith}
use lib.IntN.{ℤ}
use lib.Dec.{T, lt→ltb}
use lib.Pow.{pow-add, pow_pos, pow-lt}
use lib.Ieee.{Float, nan, inf, fin, binary64, up, down, fits, le}
use lib.Ieee.Order.{le_of_values}
use lib.Ieee.Scale.{finite}
use lib.Ieee.Positive.{num, den, positive, positive-finite, le→cross}
use Rattle.floats.specs.Constants.{nought}
use Rattle.floats.proofs.Magnitude.{Within}
use Rattle.floats.proofs.Preorder.{le_trans}
use Rattle.floats.proofs.Signs.{positive_not_below, zero_not_below, zero_not_above}
use Rattle.floats.proofs.Bounds.{within_of_upper}
use Rattle.floats.proofs.Powers.{pow2}
use Rattle.root.specs.Digits.{square}
use Rattle.root.specs.Root.{least_units, Rounded, IsRoot, no_root}
use Rattle.root.proofs.Units.{above}
use Rattle.root.proofs.Nearness.{nearer_than_smaller}
use Rattle.std.specs.Prelude.{Ok}

-- The two ways to a root: a zero is its own, and a double above zero has the rounded one.
data Way : Float → Float → Type 0 where
  itself : {s : Bool} {e : ℤ} → Way (fin s zero e) (fin s zero e)
  rounded : {x y : Float} → T (positive x) → Rounded x y → Way x y

not_refused : (y : Float) → Ok y ≡ no_root → ⊥
not_refused y e = let z : ◌≡◌ {A = ℕ} 0 1 = cc in omega arith

way : (x y : Float) → IsRoot x (Ok y) → Way x y
unfolding IsRoot
way nan y r = absurd (not_refused y r)
way (inf s) y r = absurd (not_refused y r)
way (fin s zero e) y r = let same : fin s zero e ≡ y = cc in subst (Way (fin s zero e)) same itself
way (fin true (suc m) e) y r = absurd (not_refused y r)
way (fin false (suc m) e) y (z, is, h) =
    let x = fin false (suc m) e in
    let same : z ≡ y = cc in
    rounded (lt→ltb 0 (suc m) (N.zero-lt-suc m)) (subst (Rounded x) same h)

-- Finite, and 0 or more.
pub record Fine (y : Float) : Type 0 where
  pub is_finite_law : T (finite y)
  pub not_below : T (le nought y)

pub root_fine : (x y : Float) → IsRoot x (Ok y) → Fine y
root_fine x y r = by (way x y r)
  where
    by : {x y : Float} → Way x y → Fine y
    by (itself {s} {e}) = record { is_finite_law = tt; not_below = zero_not_below s e }
    by (rounded {x} {y} p h) = record { is_finite_law = positive-finite y h.above_zero; not_below = positive_not_below y h.above_zero }

-- The order of doubles above zero is that of their units.
le_of_units : (y z : Float) →
    T (fits binary64 y) → T (positive y) → T (fits binary64 z) → T (positive z) → least_units y ≤ least_units z → T (le y z)
le_of_units y z f p g q h =
    le_of_values y z (least_units y) (2 ^ 1074) (least_units z) (2 ^ 1074) (pow_pos 1074) (pow_pos 1074) (above y f p).value (above z g q).value
    (N.mul-le-mul_right (2 ^ 1074) h)

-- A root of more than z is nearer to the true root than z is, which then is more than z too.
units_at_most : (x y z : Float) →
    Rounded x y → T (fits binary64 z) → T (positive z) → least_units x * 2 ^ 1074 ≤ square (least_units z) → least_units y ≤ least_units z
units_at_most x y z r f p h = by (dec_le (least_units y) (least_units z))
  where
    fours : (n u v : ℕ) → n ≤ square u → u ≤ v → 4 * n ≤ square (u + v)
    fours n u v l g = let m : 2 * u ≤ u + v = omega arith in omega (arith, N.mul-le-mul m m)

    by : Dec (least_units y ≤ least_units z) → least_units y ≤ least_units z
    by (yes g) = g
    by (no g) =
        let l : least_units z < least_units y = N.lt_of_not-le g in
        absurd (N.not-le_of_lt (nearer_than_smaller x y z r f p l) (fours (least_units x * 2 ^ 1074) (least_units z) (least_units y) h (N.le_of_lt l)))

pub root_at_most : (x y z : Float) →
    IsRoot x (Ok y) → T (fits binary64 z) → T (positive z) → least_units x * 2 ^ 1074 ≤ square (least_units z) → T (le y z)
root_at_most x y z r f p h = by (way x y r) h
  where
    by : {x y : Float} → Way x y → least_units x * 2 ^ 1074 ≤ square (least_units z) → T (le y z)
    by (itself {s} {e}) h = le_trans (fin s zero e) nought z (zero_not_above s e) (positive_not_below z p)
    by (rounded {x} {y} q k) h = le_of_units y z k.held k.above_zero f p (units_at_most x y z k f p h)

pow2_fits : (i : ℕ) → i ≤ 1023 → T (fits binary64 (pow2 i))
unfolding fits
pow2_fits i h = lt→ltb (1 * 2 ^ i) (2 ^ 1024 * 1) (rw N.one-mul (pow-lt ((N.suc-le-suc_iff).1 h)))

pow2_units : (i : ℕ) → least_units (pow2 i) ≡ 2 ^ i * 2 ^ 1074
unfolding least_units
pow2_units i = rw (N.div-one, N.one-mul)

units_under : (n : ℕ) (x y : Float) → IsRoot x (Ok y) → T (le x (pow2 n)) → least_units x ≤ 2 ^ n * 2 ^ 1074
unfolding least_units
units_under n x y r h = by (way x y r) h
  where
    scaled : (a d p u : ℕ) → a * 1 ≤ 1 * p * d → a * u ≤ d * (p * u)
    scaled a d p u h = omega (arith, N.mul-le-mul_right u h)

    by : {x y : Float} → Way x y → T (le x (pow2 n)) → least_units x ≤ 2 ^ n * 2 ^ 1074
    by (itself {s} {e}) h = rw (N.zero-mul (up e), N.zero-mul (2 ^ 1074), N.zero-div (down e)) zero-le
    by (rounded {x} p k) h = N.div-le_of_le-mul (den x) (scaled (num x) (den x) (2 ^ n) (2 ^ 1074) (le→cross x (pow2 n) p tt h))

pub root_within : (i : ℕ) (x y : Float) → i ≤ 1023 → IsRoot x (Ok y) → T (le x (pow2 (i + i))) → Within (pow2 i) y
root_within i x y l r h =
    let under : least_units x * 2 ^ 1074 ≤ 2 ^ (i + i) * 2 ^ 1074 * 2 ^ 1074 = N.mul-le-mul_right (2 ^ 1074) (units_under (i + i) x y r h) in
    let is : 2 ^ (i + i) * 2 ^ 1074 * 2 ^ 1074 ≡ square (least_units (pow2 i)) = rw (pow2_units i, pow-add 2 i i) (squared (2 ^ i) (2 ^ 1074)) in
    within_of_upper (pow2 i) y (root_fine x y r).not_below
    (root_at_most x y (pow2 i) r (pow2_fits i l) tt (N.le_trans under (N.le_of_eq is)))
  where
    squared : (a u : ℕ) → a * a * u * u ≡ square (a * u)
    squared a u = omega arith
