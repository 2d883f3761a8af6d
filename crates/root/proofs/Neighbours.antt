-- `gap_above` and `gap_below` lead from a double to its neighbours: what is that far off has at most 53 digits too, and nothing nearer has.
-- Assumes nothing.
use mathlib.Core.Path.{◌≡◌, refl, sym, ap, ◌∙◌, subst}
use mathlib.Core.Logic.{◌⊎◌, inl, inr}
use Prim.Native.Nat.{ℕ, suc, ◌+◌, ◌-◌, ◌*◌, ◌^◌, ◌≤◌, ◌<◌}
use native.Mathlib.Nat as N
use native.Mathlib.Omega.{arith}
use lib.Dec.{lit<}
use lib.Pow.{pow-add, pow_pos, pow_mono, shl_lt}
use lib.Ieee.{size}
use lib.Ieee.Digits.{size-lt, size-le, size_reaches}
use Rattle.root.specs.Root.{gap_above, gap_below}
use Rattle.root.proofs.Units.{Short}

size_mono : (a b : ℕ) → a ≤ b → size a ≤ size b
size_mono a b h = size-le a (size b) (N.lt_of_le_of_lt h (size-lt b))

-- A multiple of 2^a is one of each lower power.
pub coarse : (c a b : ℕ) → b ≤ a → (d : ℕ) × (d * 2 ^ b ≡ c * 2 ^ a)
coarse c a b h =
    let e : 2 ^ a ≡ 2 ^ (a - b) * 2 ^ b = ap (λ (k : ℕ). 2 ^ k) (sym (N.sub-add_cancel h)) ∙ pow-add 2 (a - b) b in
    (c * 2 ^ (a - b), rw e (omega arith))

pub short_size : (n : ℕ) (s : Short n) → size n ≤ 53 + s.j
short_size n s = size-le n (53 + s.j) (subst (λ (k : ℕ). k < 2 ^ (53 + s.j)) s.is (shl_lt 53 s.j s.few))

-- A short number is a multiple of one at its 53rd digit, and of each lower power of two.
on_grid : (n b : ℕ) → Short n → b ≤ size n - 53 → (c : ℕ) × (c * 2 ^ b ≡ n)
on_grid n b s h =
    let c = coarse s.m s.j b (omega (arith, short_size n s)) in
    (c.0, c.1 ∙ s.is)

above_grid : (y z : ℕ) → Short z → y ≤ z → (c : ℕ) × (c * gap_above y ≡ z)
above_grid y z s h = on_grid z (size y - 53) s (omega (arith, size_mono y z h))

below_grid : (y : ℕ) → Short y → (c : ℕ) × (c * gap_below y ≡ y)
below_grid y s = on_grid y (size (y - 1) - 53) s (omega (arith, size_mono (y - 1) y (N.sub-le y 1)))

-- Of two multiples of g the larger is g larger at least.
step : (c d g y z : ℕ) → c * g ≡ y → d * g ≡ z → y < z → y + g ≤ z
step c d g y z e f h =
    let fewer : suc c ≤ d = N.lt_of_mul-lt-mul_right g (omega arith) in
    omega (arith, N.mul-le-mul_right g fewer)

pub next_above : (y z : ℕ) → Short y → Short z → y < z → y + gap_above y ≤ z
next_above y z s t h =
    let c = above_grid y y s (N.le_of_eq refl) in
    let d = above_grid y z t (N.le_of_lt h) in
    step c.0 d.0 (gap_above y) y z c.1 d.1 h

pub next_below : (z y : ℕ) → Short z → Short y → z < y → z + gap_below y ≤ y
next_below z y s t h = by_size (N.eq-or-lt_of_le (size_mono z (y - 1) (omega arith)))
  where
    d : (c : ℕ) × (c * gap_below y ≡ y)
    d = below_grid y t

    by_size : (size z ≡ size (y - 1)) ⊎ (size z < size (y - 1)) → z + gap_below y ≤ y
    by_size (inl e) =
        let c = on_grid z (size (y - 1) - 53) s (omega arith) in
        step c.0 d.0 (gap_below y) z y c.1 d.1 h
    by_size (inr l) =
        let k = size (y - 1) - 1 in
        let c = coarse 1 k (size (y - 1) - 53) (omega arith) in
        let reached : 2 ^ k ≤ y - 1 = size_reaches (y - 1) k (omega arith) in
        let passed : z < 2 ^ k = N.lt_of_lt_of_le (size-lt z) (pow_mono (omega arith)) in
        let from-there = step c.0 d.0 (gap_below y) (2 ^ k) y (c.1 ∙ N.one-mul (2 ^ k)) d.1 (omega (arith, pow_pos k)) in
        omega arith

-- 2^53 itself is one digit with zeros behind it.
multiple_short : (c k : ℕ) → c ≤ 2 ^ 53 → Short (c * 2 ^ k)
multiple_short c k h = by (N.eq-or-lt_of_le h)
  where
    by : (c ≡ 2 ^ 53) ⊎ (c < 2 ^ 53) → Short (c * 2 ^ k)
    by (inl e) = record { m = 1; j = 53 + k; is = rw (pow-add 2 53 k, e) (omega arith); few = lit< tt }
    by (inr l) = record { m = c; j = k; is = refl; few = l }

-- A number is less than 2^53 times one at its 53rd digit.
under_grid : (n : ℕ) → n < 2 ^ 53 * 2 ^ (size n - 53)
under_grid n = N.lt_of_lt_of_le (size-lt n) (N.le_trans (pow_mono (omega arith)) (N.le_of_eq (pow-add 2 53 (size n - 53))))

pub above_short : (y : ℕ) → Short y → Short (y + gap_above y)
above_short y s =
    let c = above_grid y y s (N.le_of_eq refl) in
    let few : suc c.0 ≤ 2 ^ 53 = N.lt_of_mul-lt-mul_right (gap_above y) (rw c.1 (under_grid y)) in
    subst Short (N.suc-mul c.0 (gap_above y) ∙ ap (λ (k : ℕ). k + gap_above y) c.1) (multiple_short (suc c.0) (size y - 53) few)

pub below_short : (y : ℕ) → 0 < y → Short y → Short (y - gap_below y)
below_short y p s =
    let d = below_grid y s in
    let few : d.0 ≤ 2 ^ 53 = N.le_of_mul-le-mul_right (rw d.1 (omega (arith, under_grid (y - 1)))) (pow_pos (size (y - 1) - 53)) in
    subst Short (one_less d.0 (gap_below y) y d.1) (multiple_short (d.0 - 1) (size (y - 1) - 53) (omega arith))
  where
    one_less : (c g n : ℕ) → c * g ≡ n → (c - 1) * g ≡ n - g
    one_less c g n e = N.mul_comm (c - 1) g ∙ N.mul-sub g c 1 ∙ omega arith
