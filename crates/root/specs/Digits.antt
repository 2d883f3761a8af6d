-- The digits of a root: the whole root of a number, found one binary digit at a time, and from it the bits of a double's rounded root.
-- Assumes nothing.
use Rattle.std.specs.Prelude.{◌≡◌, ℕ, zero, suc, ◌+◌, ◌-◌, ◌*◌, ◌/◌, ◌%◌, ◌^◌, ◌≤◌, ◌<◌, cond, leb}
use Rattle.std.specs.Float.Ieee.{size}

abbrev pub square : ℕ → ℕ
square n = n * n

-- The whole part of the root of an n below 4^k: two digits more of n give one more of the root.
unfoldable pub whole_root : ℕ → ℕ → ℕ
whole_root zero n = 0
whole_root (suc k) n = let r = whole_root k (n / 4) in cond (leb (square (2 * r + 1)) n) (2 * r + 1) (2 * r)

-- The 53 digits of m, the first of them at 2^j, are X.
pub record Spells (X m j : ℕ) : Type 0 where
  pub value : m * 2 ^ j ≡ X * 2 ^ 52
  pub least : 2 ^ 52 ≤ m
  pub most : m < 2 ^ 53

-- The digits m with 54 zeros behind them, or 55 where j is odd, so that an even power of two is left to root.
abbrev pub paired : ℕ → ℕ → ℕ
paired m j = m * 2 ^ (54 + j % 2)

-- The bits of the root of X units, for an X above zero of at most 53 digits. In units it is the root of the widened digits times
-- 2^(j / 2 + 484). Their whole root has 54 digits, one more than a double keeps, and goes up where the last is 1. A double of q * 2^k
-- units, with 53 digits q, has the bits k * 2^52 + q (IEEE 754, binary64).
unfoldable pub root_pattern : ℕ → ℕ
root_pattern X =
    let j = size X - 1 in
    let m = X * 2 ^ 52 / 2 ^ j in
    (j / 2 + 485) * 2 ^ 52 + (whole_root 54 (paired m j) + 1) / 2
