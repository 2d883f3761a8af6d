-- The square of a number below 2^53 that is cut in two at 2^26: its parts, each of which fits a word, and how they make it up.
-- Assumes nothing.
use mathlib.Core.Path.{◌≡◌, refl}
use Prim.Native.Nat.{ℕ, ◌+◌, ◌*◌, ◌/◌, ◌%◌, ◌^◌, ◌≤◌, ◌<◌}
use native.Mathlib.Nat.{mul-le-mul}
use native.Mathlib.Omega.{arith}

pub record Parts (h l : ℕ) : Type 0 where
  pub upper : h * h < 2 ^ 54
  pub crossed : 2 * h * l < 2 ^ 54
  pub lower : l * l < 2 ^ 52

pub parts : (g : ℕ) → g < 2 ^ 53 → Parts (g / 2 ^ 26) (g % 2 ^ 26)
parts g s =
    let h = g / 2 ^ 26 in
    let l = g % 2 ^ 26 in
    let few : h ≤ 0x7ff_ffff = omega arith in
    let rest : l ≤ 0x3ff_ffff = omega arith in
    record {
      upper = omega (arith, mul-le-mul few few);
      crossed = omega (arith, mul-le-mul few rest);
      lower = omega (arith, mul-le-mul rest rest);
    }

-- The product of the two parts, taken twice, is cut at 2^26 again.
joined : (h l p : ℕ) → 2 * h * l ≡ p →
    (h * 2 ^ 26 + l) * (h * 2 ^ 26 + l) ≡ (h * h + p / 2 ^ 26) * 2 ^ 52 + (p % 2 ^ 26 * 2 ^ 26 + l * l)
joined h l p e = omega arith

pub square_is : (g : ℕ) →
    let h = g / 2 ^ 26 in
    let l = g % 2 ^ 26 in
    let p = 2 * h * l in
    g * g ≡ (h * h + p / 2 ^ 26) * 2 ^ 52 + (p % 2 ^ 26 * 2 ^ 26 + l * l)
square_is g =
    let h = g / 2 ^ 26 in
    let l = g % 2 ^ 26 in
    let whole : h * 2 ^ 26 + l ≡ g = omega arith in
    rw whole at (joined h l (2 * h * l) refl)
