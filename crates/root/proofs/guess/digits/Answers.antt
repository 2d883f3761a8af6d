-- `root::guess::digits` meets its contract: it takes no bits of a NaN for a double, and has at most 53 digits.
-- Assumes nothing.
use mathlib.Core.Bool.{not}
use Prim.Native.Nat.{ℕ, ◌-◌, ◌/◌, ◌%◌, ◌^◌, ◌≤◌}
use native.Mathlib.Omega.{arith}
use borrow.Author.Tests.{le-ltb}
use lib.Dec.{T}
use lib.Ieee.{binary64, nan_bits}
use lib.Ieee.Bits.{nan_bits_above}
use Rattle.floats.proofs.NotANumber.{self_known}
use Rattle.root.proofs.guess.digits.Goals as goal

no_nan : (b : ℕ) → b ≤ 0x7ff0_0000_0000_0000 → T (not (nan_bits binary64 b))
no_nan b h = rw (nan_bits_above binary64 b, le-ltb 0x7ff0_0000_0000_0000 (b % 2 ^ 63) (omega arith)) tt

pub float_from_bits-x : goal.float_from_bits-x
float_from_bits-x c = no_nan c.args.p (omega arith)

pub float_from_bits-y : goal.float_from_bits-y
float_from_bits-y c = no_nan (0x5fe6_eb50_c7b5_37a9 - c.args.p / 2) (omega arith)

pub float_to_bits-b : goal.float_to_bits-b
float_to_bits-b c = self_known _ c.if-r.false
