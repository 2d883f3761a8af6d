-- The whole root of the widened digits, rounded to 53 digits and moved to its place, has midpoints next to it that enclose.
-- Assumes nothing.
use mathlib.Core.Path.{◌≡◌, sym, ap, ◌∙◌, subst}
use mathlib.Core.Logic.{◌⊎◌, inl, inr}
use Prim.Native.Nat.{ℕ, zero, suc, ◌+◌, ◌-◌, ◌*◌, ◌/◌, ◌%◌, ◌^◌, ◌≤◌, ◌<◌}
use native.Mathlib.Nat as N
use native.Mathlib.Omega.{arith}
use lib.Dec.{lit<}
use lib.Arith.{lt_of_le-ne}
use lib.Pow.{pow-add, pow_pos, pow_mono, shl_lt}
use lib.Ieee.{size}
use lib.Ieee.Digits.{size-lt, size-le}
use Rattle.root.specs.Digits.{square, paired, Spells}
use Rattle.root.specs.Root.{gap_above, gap_below, Encloses}
use Rattle.root.proofs.WholeRoot.{IsWhole, lt_of_squares}

pub size_exact : (a n : ℕ) → 2 ^ a ≤ n → n < 2 ^ suc a → size n ≡ suc a
size_exact a n lo hi =
    N.le_antisymm (size-le n (suc a) hi)
    (N.lt_of_not-le (λ (g : size n ≤ a). N.not-le_of_lt (N.lt_of_lt_of_le (size-lt n) (pow_mono g)) lo))

-- The widened digits are even, and of such a size that their whole root has 54 digits that are not all ones.
widened_even : (m j : ℕ) → paired m j % 2 ≡ 0
widened_even m j =
    let doubled : paired m j ≡ m * 2 ^ 53 * 2 ^ (j % 2) * 2 = rw (pow-add 2 54 (j % 2)) (omega arith) in
    rw doubled (N.mul-mod_left (m * 2 ^ 53 * 2 ^ (j % 2)) 2)

widened_least : (m j : ℕ) → 2 ^ 52 ≤ m → 2 ^ 106 ≤ paired m j
widened_least m j h = let zeros : 54 ≤ 54 + j % 2 = omega arith in N.mul-le-mul h (pow_mono zeros)

widened_most : (m j : ℕ) → m < 2 ^ 53 → paired m j < square 0x3f_ffff_ffff_ffff
widened_most m j h =
    let digits : m ≤ 0x1f_ffff_ffff_ffff = omega arith in
    let zeros : 54 + j % 2 ≤ 55 = omega arith in
    N.lt_of_le_of_lt (N.mul-le-mul digits (pow_mono zeros)) (lit< tt)

pub widened_lt : (m j : ℕ) → m < 2 ^ 53 → paired m j < 4 ^ 54
widened_lt m j h = N.lt_trans (widened_most m j h) (lit< tt)

-- The digits q that a double keeps of the root of n: neither midpoint next to them is met.
pub record Kept (n q : ℕ) : Type 0 where
  pub least : 2 ^ 52 ≤ q
  pub most : q < 2 ^ 53
  pub under : square (2 * q - 1) < n
  pub over : n < square (2 * q + 1)

-- The square of an odd number is odd.
odd_square : (c n : ℕ) → n % 2 ≡ 0 → square (2 * c + 1) ≡ n → ⊥
odd_square c n even e = omega arith

pub kept : (X m j s : ℕ) → Spells X m j → IsWhole (paired m j) s → Kept (paired m j) ((s + 1) / 2)
kept X m j s d w =
    let n = paired m j in
    let q = (s + 1) / 2 in
    let lo : 2 ^ 53 < s + 1 = lt_of_squares (2 ^ 53) (s + 1) (N.lt_of_le_of_lt (widened_least m j d.least) w.high) in
    let hi : s < 0x3f_ffff_ffff_ffff = lt_of_squares s 0x3f_ffff_ffff_ffff (N.lt_of_le_of_lt w.low (widened_most m j d.most)) in
    let below : 2 * q - 1 ≤ s = omega arith in
    let beyond : s + 1 ≤ 2 * q + 1 = omega arith in
    let odd : 2 * (q - 1) + 1 ≡ 2 * q - 1 = omega arith in
    record {
      least = omega arith;
      most = omega arith;
      under =
          lt_of_le-ne (N.le_trans (N.mul-le-mul below below) w.low)
          (λ e. odd_square (q - 1) n (widened_even m j) (ap square odd ∙ e));
      over = N.lt_of_lt_of_le w.high (N.mul-le-mul beyond beyond);
    }

in_fours : (X m p v u : ℕ) → m * p ≡ X * v → 4 * (X * (v * u)) ≡ m * (p * (4 * u))
in_fours X m p v u e = omega (arith, ap (λ (z : ℕ). z * u) e)

-- Four times X, as it is compared, is the widened digits times a square.
scaled : (X m j : ℕ) → Spells X m j → 4 * (X * 2 ^ 1074) ≡ paired m j * square (2 ^ (j / 2 + 485))
scaled X m j d =
    let k = j / 2 + 485 in
    let places : j + 1024 ≡ 54 + j % 2 + (k + k) = omega arith in
    in_fours X m (2 ^ j) (2 ^ 52) (2 ^ 1022) d.value
    ∙ ap (λ (z : ℕ). m * z) (sym (pow-add 2 j 1024) ∙ ap (λ (z : ℕ). 2 ^ z) places ∙ pow-add 2 (54 + j % 2) (k + k))
    ∙ sym (N.mul_assoc m (2 ^ (54 + j % 2)) (2 ^ (k + k)))
    ∙ ap (λ (z : ℕ). paired m j * z) (pow-add 2 k k)

-- The gaps next to q * 2^k, for a q of 53 digits.
gap : (n k : ℕ) → 2 ^ (52 + k) ≤ n → n < 2 ^ (53 + k) → 2 ^ (size n - 53) ≡ 2 ^ k
gap n k lo hi =
    let size_is : size n - 53 ≡ k = omega (arith, size_exact (52 + k) n lo (subst (λ (z : ℕ). n < 2 ^ z) (omega arith) hi)) in
    ap (λ (z : ℕ). 2 ^ z) size_is

above_is : (q k : ℕ) → 2 ^ 52 ≤ q → q < 2 ^ 53 → gap_above (q * 2 ^ k) ≡ 2 ^ k
above_is q k lo hi = gap (q * 2 ^ k) k (rw (pow-add 2 52 k) (N.mul-le-mul_right (2 ^ k) lo)) (shl_lt 53 k hi)

-- Below the least q the doubles have a digit less, and lie half as far apart.
below_least : (k : ℕ) → gap_below (2 ^ 52 * (2 * 2 ^ k)) ≡ 2 ^ k
below_least k =
    gap (2 ^ 52 * (2 * 2 ^ k) - 1) k (rw (pow-add 2 52 k) (omega (arith, pow_pos k))) (rw (pow-add 2 53 k) (omega (arith, pow_pos k)))

below_is : (q k : ℕ) → 2 ^ 52 < q → q < 2 ^ 53 → gap_below (q * 2 ^ k) ≡ 2 ^ k
below_is q k lo hi =
    let room : suc (2 ^ 52) * 2 ^ k ≤ q * 2 ^ k = N.mul-le-mul_right (2 ^ k) lo in
    gap (q * 2 ^ k - 1) k (rw (pow-add 2 52 k) (omega (arith, pow_pos k))) (N.lt_of_le_of_lt (N.sub-le (q * 2 ^ k) 1) (shl_lt 53 k hi))

squares_under : (a n p : ℕ) → 0 < p → square a < n → square (a * p) < n * square p
squares_under a n p h l = omega (arith, N.mul-lt-mul_of_pos_right l (N.mul-pos h h))

squares_over : (a n p : ℕ) → 0 < p → n < square a → n * square p < square (a * p)
squares_over a n p h l = omega (arith, N.mul-lt-mul_of_pos_right l (N.mul-pos h h))

lower_least : (n k : ℕ) → 0 < k → 2 ^ 106 ≤ n → square (2 * (2 ^ 52 * 2 ^ k) - gap_below (2 ^ 52 * 2 ^ k)) < n * square (2 ^ k)
lower_least n zero h big = absurd (N.lt_irrefl 0 h)
lower_least n (suc k) h big =
    let w = 2 ^ k in
    let is : 2 * (2 ^ 52 * (2 * w)) - w ≡ 0x3f_ffff_ffff_ffff * w = omega arith in
    let four : n * 4 * square w ≡ n * square (2 * w) = omega arith in
    rw (N.pow-succ' 2 k, below_least k, is, ← four)
    (squares_under 0x3f_ffff_ffff_ffff (n * 4) w (pow_pos k) (N.lt_of_lt_of_le (lit< tt) (N.mul-le-mul_right 4 big)))

lower : (n q k : ℕ) → 0 < k → 2 ^ 106 ≤ n → Kept n q → square (2 * (q * 2 ^ k) - gap_below (q * 2 ^ k)) < n * square (2 ^ k)
lower n q k K big h = by (N.eq-or-lt_of_le h.least)
  where
    by : (2 ^ 52 ≡ q) ⊎ (2 ^ 52 < q) → square (2 * (q * 2 ^ k) - gap_below (q * 2 ^ k)) < n * square (2 ^ k)
    by (inl e) = rw (sym e) (lower_least n k K big)
    by (inr l) =
        let odd : 2 * q - 1 + 1 ≡ 2 * q = omega arith in
        let is : 2 * (q * 2 ^ k) - 2 ^ k ≡ (2 * q - 1) * 2 ^ k = omega (arith, ap (λ (z : ℕ). z * 2 ^ k) odd) in
        rw (below_is q k l h.most, is) (squares_under (2 * q - 1) n (2 ^ k) (pow_pos k) h.under)

upper : (n q k : ℕ) → Kept n q → n * square (2 ^ k) < square (2 * (q * 2 ^ k) + gap_above (q * 2 ^ k))
upper n q k h =
    let is : 2 * (q * 2 ^ k) + 2 ^ k ≡ (2 * q + 1) * 2 ^ k = omega arith in
    rw (above_is q k h.least h.most, is) (squares_over (2 * q + 1) n (2 ^ k) (pow_pos k) h.over)

pub encloses : (X m j q : ℕ) → Spells X m j → Kept (paired m j) q → Encloses X (q * 2 ^ (j / 2 + 485))
encloses X m j q d h =
    let k = j / 2 + 485 in
    record {
      lower = rw (scaled X m j d) (lower (paired m j) q k (omega arith) (widened_least m j d.least) h);
      upper = rw (scaled X m j d) (upper (paired m j) q k h);
    }
