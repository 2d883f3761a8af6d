-- `whole_root` gives the whole part of the root of a number, and a number has no other.
-- Assumes nothing.
use mathlib.Core.Path.{◌≡◌, refl}
use mathlib.Core.Bool.{Bool, true, false, cond}
use Prim.Native.Nat.{ℕ, zero, suc, ◌+◌, ◌*◌, ◌/◌, ◌^◌, ◌≤◌, ◌<◌}
use native.Mathlib.Nat.{lt_of_not-le, not-le_of_lt, lt_of_le_of_lt, mul-le-mul, pow-suc}
use native.Mathlib.Omega.{arith}
use borrow.Author.Tests.{leb-true, leb-false}
use lib.Dec.{leb}
use Rattle.root.specs.Digits.{square, whole_root}

-- The whole part of the root of n is r.
pub record IsWhole (n r : ℕ) : Type 0 where
  pub low : r * r ≤ n
  pub high : n < (r + 1) * (r + 1)

pub lt_of_squares : (a b : ℕ) → a * a < b * b → a < b
lt_of_squares a b h = lt_of_not-le (λ (g : b ≤ a). not-le_of_lt h (mul-le-mul g g))

pub one_whole : (n r s : ℕ) → IsWhole n r → IsWhole n s → r ≡ s
one_whole n r s a b =
    let r-low : r < s + 1 = lt_of_squares r (s + 1) (lt_of_le_of_lt a.low b.high) in
    let s-low : s < r + 1 = lt_of_squares s (r + 1) (lt_of_le_of_lt b.low a.high) in
    omega arith

-- Two digits more of the number, and one of the root.
next_digit_law : (n r : ℕ) (one : Bool) → leb (square (2 * r + 1)) n ≡ one → IsWhole (n / 4) r → IsWhole n (cond one (2 * r + 1) (2 * r))
next_digit_law n r true e h = record { low = leb-true _ _ e; high = omega (arith, h.high) }
next_digit_law n r false e h = record { low = omega (arith, h.low); high = leb-false _ _ e }

pub whole : (k n : ℕ) → n < 4 ^ k → IsWhole n (whole_root k n)
unfolding whole_root
whole zero n h = record { low = omega arith; high = omega arith }
whole (suc k) n h =
    next_digit_law n (whole_root k (n / 4)) (leb (square (2 * whole_root k (n / 4) + 1)) n) refl (whole k (n / 4) (omega (arith, pow-suc 4 k)))

digit_small : (r k : ℕ) (one : Bool) → r < 2 ^ k → cond one (2 * r + 1) (2 * r) < 2 ^ suc k
digit_small r k true h = omega (arith, pow-suc 2 k)
digit_small r k false h = omega (arith, pow-suc 2 k)

pub whole_small : (k n : ℕ) → whole_root k n < 2 ^ k
unfolding whole_root
whole_small zero n = omega arith
whole_small (suc k) n = digit_small (whole_root k (n / 4)) k (leb (square (2 * whole_root k (n / 4) + 1)) n) (whole_small k (n / 4))
