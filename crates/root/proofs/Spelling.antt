-- Digits that spell a number settle its `root_pattern`, and every number above zero of at most 53 digits is spelled by some.
-- Assumes nothing.
use mathlib.Core.Path.{◌≡◌, sym, ap, ◌∙◌}
use Prim.Native.Nat.{ℕ, suc, ◌+◌, ◌-◌, ◌*◌, ◌/◌, ◌^◌, ◌≤◌, ◌<◌}
use native.Mathlib.Nat as N
use native.Mathlib.Omega.{arith}
use lib.Pow.{pow-add, pow_pos, pow_mono}
use lib.Ieee.{size}
use lib.Ieee.Digits.{size-lt, size_reaches}
use Rattle.root.specs.Digits.{whole_root, Spells, paired, root_pattern}
use Rattle.root.proofs.Units.{Short}
use Rattle.root.proofs.Neighbours.{coarse, short_size}
use Rattle.root.proofs.Midpoints.{size_exact}

-- The first digit stands at 2^j.
size_is : (X m j : ℕ) → Spells X m j → size X ≡ suc j
size_is X m j d =
    size_exact j X
    (N.le_of_mul-le-mul_right (omega (arith, N.mul-le-mul_right (2 ^ j) d.least, d.value)) (pow_pos 52))
    (N.lt_of_mul-lt-mul_right (2 ^ 52) (rw (N.pow-suc 2 j) (omega (arith, N.mul-lt-mul_of_pos_right d.most (pow_pos j), d.value))))

pub pattern_is : (X m j : ℕ) → Spells X m j → root_pattern X ≡ (j / 2 + 485) * 2 ^ 52 + (whole_root 54 (paired m j) + 1) / 2
unfolding root_pattern
pattern_is X m j d =
    let place : size X - 1 ≡ j = omega (arith, size_is X m j d) in
    rw (place, sym d.value, N.mul-div_cancel m (pow_pos j))

pub spelled : (X : ℕ) → 0 < X → Short X → (m : ℕ) × Spells X m (size X - 1)
spelled X h s =
    let j = size X - 1 in
    let some : 0 < size X = N.lt_of_not-le (λ (g : size X ≤ 0). N.not-le_of_lt (N.lt_of_lt_of_le (size-lt X) (pow_mono g)) h) in
    let c = coarse s.m (s.j + 52) j (omega (arith, short_size X s)) in
    let is : c.0 * 2 ^ j ≡ X * 2 ^ 52 = c.1 ∙ ap (λ (k : ℕ). s.m * k) (pow-add 2 s.j 52) ∙ omega (arith, s.is) in
    let reached : 2 ^ j ≤ X = size_reaches X j (omega arith) in
    let passed : X < 2 ^ j * 2 = N.lt_of_lt_of_le (size-lt X) (N.le_of_eq (ap (λ (k : ℕ). 2 ^ k) (omega arith) ∙ N.pow-suc 2 j)) in (
      c.0,
      record {
        value = is;
        least = N.le_of_mul-le-mul_right (rw is (omega arith)) (pow_pos j);
        most = N.lt_of_mul-lt-mul_right (2 ^ j) (rw is (omega arith));
      },
    )
