-- `root_of` gives an answer that `IsRoot` allows, for every double.
-- Assumes nothing.
use mathlib.Core.Path.{refl, sym, subst}
use mathlib.Core.Bool.{true, false}
use Prim.Native.Nat.{ℕ, zero, suc, ◌+◌, ◌-◌, ◌*◌, ◌/◌, ◌^◌, ◌≤◌, ◌<◌}
use native.Mathlib.Nat as N
use native.Mathlib.Omega.{arith}
use lib.Dec.{T, lt→ltb}
use lib.Pow.{pow_pos}
use lib.Ieee.{Float, nan, inf, fin, binary64, size, fits, of_bits}
use lib.Ieee.Digits.{size-le}
use lib.Ieee.Bits.{of_bits-fits}
use lib.Ieee.Positive.{positive, positive_of_value}
use Rattle.root.specs.Digits.{whole_root, paired, root_pattern, Spells}
use Rattle.root.specs.Root.{least_units, Encloses, IsRoot, root_of}
use Rattle.root.proofs.WholeRoot.{whole}
use Rattle.root.proofs.Units.{above, units_is}
use Rattle.root.proofs.Midpoints.{kept, encloses, widened_lt}
use Rattle.root.proofs.Spelling.{pattern_is, spelled}
use Rattle.root.proofs.Patterns.{high_value}

-- The bits b are those of a finite double above zero that is the root of X units.
pub record RootBits (X b : ℕ) : Type 0 where
  pub finite : b < 0x7ff0_0000_0000_0000
  pub above_zero : T (positive (of_bits binary64 b))
  pub nearest : Encloses X (least_units (of_bits binary64 b))

root_bits : (X m j : ℕ) → Spells X m j → j ≤ 2097 → RootBits X (root_pattern X)
root_bits X m j d J =
    let k = j / 2 + 485 in
    let q = (whole_root 54 (paired m j) + 1) / 2 in
    let h = kept X m j (whole_root 54 (paired m j)) d (whole 54 (paired m j) (widened_lt m j d.most)) in
    let v = high_value k q (omega arith) h.least h.most in
    let some : 0 < q = omega (arith, h.least) in
    subst (RootBits X) (sym (pattern_is X m j d)) (record {
      finite = omega (arith, h.most);
      above_zero = positive_of_value (of_bits binary64 (k * 2 ^ 52 + q)) (q * 2 ^ k) (2 ^ 1074) v (N.mul-pos some (pow_pos k));
      nearest = subst (Encloses X) (sym (units_is (of_bits binary64 (k * 2 ^ 52 + q)) (q * 2 ^ k) v)) (encloses X m j q d h);
    })

pub rooted : (x : Float) → T (fits binary64 x) → T (positive x) → RootBits (least_units x) (root_pattern (least_units x))
rooted x f p =
    let X = least_units x in
    let a = above x f p in
    let d = spelled X a.some a.short in
    root_bits X d.0 (size X - 1) d.1 (omega (arith, size-le X 2098 a.under))

pub meets : (x : Float) → T (fits binary64 x) → IsRoot x (root_of x)
unfolding IsRoot root_of
meets nan f = refl
meets (inf s) f = refl
meets (fin s zero e) f = refl
meets (fin true (suc m) e) f = refl
meets (fin false (suc m) e) f =
    let x = fin false (suc m) e in
    let b = root_pattern (least_units x) in
    let r = rooted x f (lt→ltb 0 (suc m) (N.zero-lt-suc m)) in
    (of_bits binary64 b, refl, record { held = of_bits-fits binary64 b; above_zero = r.above_zero; nearest = r.nearest })
