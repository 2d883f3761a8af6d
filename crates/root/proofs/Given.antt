-- A finite double that is 0 or more has a root: it is not refused.
-- Assumes nothing.
use mathlib.Core.Path.{◌≡◌, refl}
use mathlib.Core.Bool.{true, false}
use Prim.Native.Nat.{zero, suc}
use native.Mathlib.Nat.{zero-lt-suc, mul-pos}
use native.Mathlib.Omega.{arith}
use lib.Dec.{T}
use lib.Ieee.{Float, nan, inf, fin, le}
use lib.Ieee.Fits.{up_pos}
use lib.Ieee.Scale.{finite}
use Rattle.floats.specs.Constants.{nought}
use Rattle.floats.proofs.Monotone.{nonneg_under}
use Rattle.root.specs.Root.{root_of}
use Rattle.std.specs.Prelude.{Ok}

pub root_given : (x : Float) → T (finite x) → T (le nought x) → (y : Float) × (root_of x ≡ Ok y)
unfolding root_of
root_given nan f h = absurd f
root_given (inf s) f h = absurd f
root_given (fin s zero e) f h = (fin s zero e, refl)
root_given (fin true (suc m) e) f h =
    absurd (omega (arith, nonneg_under (fin true (suc m) e) f h, mul-pos (zero-lt-suc m) (up_pos e)))
root_given (fin false (suc m) e) f h = (_, refl)
