-- Seconds times 1e9: a product from -2^53 to 2^53 can be cut to 64 bits, and what is left is exact.
-- Assumes nothing.
use Rattle.std.proofs.Common.{◌≡◌, suc, true, false, T, ℤ, pos, negsuc, ◌≤ℤ◌, arith, leb→le, le-leb}
use lib.Ieee
use lib.Ieee.{Float, fin, binary64}
use Rattle.floats.proofs.Magnitude.{Within}
use Rattle.floats.proofs.Whole.{within_truncates, within_to_signed}
use Rattle.times.specs.Time.{is_exact, billion, two_to_53}

abbrev pub product : Float → Float
product s = Ieee.mul binary64 s billion

abbrev pub nanoseconds_of : Float → ℤ
nanoseconds_of s = Ieee.to_signed 63 (product s)

pub can_be_cut : (p : Float) → Within two_to_53 p → T (Ieee.le (fin true 1 (pos 63)) p) × T (Ieee.lt p (fin false 1 (pos 63)))
unfolding Ieee.of_int Ieee.lt
can_be_cut p h = within_truncates h tt

between : (z : ℤ) → negsuc 9007199254740991 ≤ℤ z → z ≤ℤ pos 9007199254740992 → is_exact z ≡ true
unfolding is_exact
between (pos n) low high = le-leb n 9007199254740992 (leb→le n 9007199254740992 high.le)
between (negsuc n) low high = le-leb (suc n) 9007199254740992 (omega (arith, leb→le n 9007199254740991 low.le))

pub cut_exact : (p : Float) → Within two_to_53 p → is_exact (Ieee.to_signed 63 p) ≡ true
unfolding Ieee.of_int Ieee.neg Ieee.to_signed
cut_exact p h = let ends = within_to_signed 63 h in between (Ieee.to_signed 63 p) ends.0 ends.1
