-- The root is the nearest double: the true root lies on its side of the midpoint between it and any other double above zero.
-- Assumes nothing.
use Prim.Native.Nat.{◌+◌, ◌-◌, ◌*◌, ◌^◌, ◌≤◌, ◌<◌}
use native.Mathlib.Nat.{lt_of_lt_of_le, lt_of_le_of_lt, mul-le-mul}
use native.Mathlib.Omega.{arith}
use lib.Dec.{T}
use lib.Ieee.{Float, binary64, fits}
use lib.Ieee.Positive.{positive}
use Rattle.root.specs.Digits.{square}
use Rattle.root.specs.Root.{least_units, gap_above, gap_below, Rounded}
use Rattle.root.proofs.Units.{above}
use Rattle.root.proofs.Neighbours.{next_above, next_below}

module _ (x y z : Float) (r : Rounded x y) (f : T (fits binary64 z)) (p : T (positive z)) where
  pub nearer_than_larger : least_units y < least_units z → 4 * (least_units x * 2 ^ 1074) < square (least_units y + least_units z)
  nearer_than_larger h =
      let next = next_above (least_units y) (least_units z) (above y r.held r.above_zero).short (above z f p).short h in
      let m : 2 * least_units y + gap_above (least_units y) ≤ least_units y + least_units z = omega arith in
      lt_of_lt_of_le r.nearest.upper (mul-le-mul m m)

  pub nearer_than_smaller : least_units z < least_units y → square (least_units z + least_units y) < 4 * (least_units x * 2 ^ 1074)
  nearer_than_smaller h =
      let next = next_below (least_units z) (least_units y) (above z f p).short (above y r.held r.above_zero).short h in
      let m : least_units z + least_units y ≤ 2 * least_units y - gap_below (least_units y) = omega arith in
      lt_of_le_of_lt (mul-le-mul m m) r.nearest.lower
