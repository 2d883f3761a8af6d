-- What the bits of a double tell of its root: the bits of a zero, those from infinity's on, and those between.
-- Assumes nothing.
use mathlib.Core.Path.{◌≡◌, refl, sym, ap, ◌∙◌, subst}
use mathlib.Core.Bool.{Bool, true, false, cond}
use Prim.Native.Nat.{zero, suc, ◌^◌, ◌≤◌, ◌<◌}
use native.Mathlib.Nat.{zero-lt-suc, zero-mul, zero-div}
use native.Mathlib.Omega.{arith}
use lib.IntN.{ℤ}
use lib.Dec.{T, lt→ltb}
use lib.Ieee.{Float, nan, inf, fin, binary64, up, down, fits, of_bits, to_bits}
use lib.Ieee.Digits.{size-le}
use lib.Ieee.Fits.{kept-lt}
use lib.Ieee.Bits.{of_bits-to_bits}
use lib.Ieee.Positive.{positive}
use Rattle.root.specs.Digits.{root_pattern}
use Rattle.root.specs.Root.{least_units, root_of, no_root}
use Rattle.root.proofs.Units.{above, bits_is}
use Rattle.std.specs.Prelude.{Ok}

zero_bits : (s : Bool) (e : ℤ) → to_bits binary64 (fin s zero e) ≡ cond s (2 ^ 63) 0
unfolding to_bits
zero_bits s e = rw (zero-mul (up e), zero-mul (2 ^ 1074), zero-div (down e)) (omega arith)

finite_bits : (x : Float) → T (fits binary64 x) → T (positive x) → to_bits binary64 x < 0x7ff0_0000_0000_0000
finite_bits x f p =
    let X = least_units x in
    omega (arith, bits_is x p, size-le X 2098 (above x f p).under, kept-lt 53 X)

pub zero_rooted : (x : Float) → T (fits binary64 x) → to_bits binary64 x ≡ 0 → Ok x ≡ root_of x
unfolding of_bits root_of
zero_rooted x f e = subst (λ (y : Float). Ok y ≡ root_of y) (ap (of_bits binary64) (sym e) ∙ of_bits-to_bits binary64 x f) refl

pub minus_zero_rooted : (x : Float) → T (fits binary64 x) → to_bits binary64 x ≡ 0x8000_0000_0000_0000 → Ok x ≡ root_of x
unfolding of_bits root_of
minus_zero_rooted x f e = subst (λ (y : Float). Ok y ≡ root_of y) (ap (of_bits binary64) (sym e) ∙ of_bits-to_bits binary64 x f) refl

pub refused : (x : Float) → T (fits binary64 x) →
    0x7ff0_0000_0000_0000 ≤ to_bits binary64 x → (to_bits binary64 x ≡ 0x8000_0000_0000_0000 → ⊥) → no_root ≡ root_of x
unfolding root_of
refused nan f h n = refl
refused (inf s) f h n = refl
refused (fin true zero e) f h n = absurd (n (zero_bits true e))
refused (fin false zero e) f h n = absurd (omega (arith, zero_bits false e))
refused (fin true (suc m) e) f h n = refl
refused (fin false (suc m) e) f h n = absurd (omega (arith, finite_bits (fin false (suc m) e) f (lt→ltb 0 (suc m) (zero-lt-suc m))))

pub above_zero : (x : Float) → 0 < to_bits binary64 x → to_bits binary64 x < 0x7ff0_0000_0000_0000 → T (positive x)
unfolding to_bits
above_zero nan h l = omega arith
above_zero (inf true) h l = omega arith
above_zero (inf false) h l = omega arith
above_zero (fin true m e) h l = omega arith
above_zero (fin false zero e) h l = omega (arith, zero_bits false e)
above_zero (fin false (suc m) e) h l = lt→ltb 0 (suc m) (zero-lt-suc m)

pub above_rooted : (x : Float) → T (positive x) → Ok (of_bits binary64 (root_pattern (least_units x))) ≡ root_of x
unfolding root_of
above_rooted (fin false (suc m) e) p = refl
above_rooted (fin false zero e) p = absurd p
above_rooted (fin true m e) p = absurd p
above_rooted (inf s) p = absurd p
above_rooted nan p = absurd p
