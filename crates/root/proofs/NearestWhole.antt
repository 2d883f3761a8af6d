-- The whole number nearest to the root of n is the whole root of 4 * n, halved and rounded up.
-- Assumes nothing.
use mathlib.Core.Path.{◌≡◌}
use Prim.Native.Nat.{ℕ, zero, suc, ◌+◌, ◌*◌, ◌/◌, ◌^◌, ◌≤◌, ◌<◌}
use native.Mathlib.Nat.{lt_of_not-le}
use native.Mathlib.Decide.{dec_le}
use native.Mathlib.Omega.{arith}
use Rattle.root.specs.Digits.{whole_root}
use Rattle.root.specs.Trial.{IsNearest}
use Rattle.root.proofs.WholeRoot.{IsWhole, one_whole, whole}

-- Where the square of t is at most n, the whole root of 4 * n is twice t, and else one less.
twice : (n t : ℕ) → IsNearest n t → t * t ≤ n → IsWhole (4 * n) (2 * t)
twice n t h l = record { low = omega arith; high = omega arith }

one_less : (n u : ℕ) → IsNearest n (suc u) → n < suc u * suc u → IsWhole (4 * n) (2 * u + 1)
one_less n u h l = record { low = omega arith; high = omega arith }

pub nearest_whole : (n t : ℕ) → n < 4 ^ 53 → IsNearest n t → t ≡ (whole_root 54 (4 * n) + 1) / 2
nearest_whole n t s h = by t h (dec_le (t * t) n)
  where
    only : (r : ℕ) → IsWhole (4 * n) r → r ≡ whole_root 54 (4 * n)
    only r w = one_whole (4 * n) r (whole_root 54 (4 * n)) w (whole 54 (4 * n) (omega arith))

    by : (t : ℕ) → IsNearest n t → Dec (t * t ≤ n) → t ≡ (whole_root 54 (4 * n) + 1) / 2
    by t h (yes l) = omega (arith, only (2 * t) (twice n t h l))
    by zero h (no l) = omega arith
    by (suc u) h (no l) = omega (arith, only (2 * u + 1) (one_less n u h (lt_of_not-le l)))
