-- A trial that comes to a nearest whole number comes to the only one, and one that finds none was too far off.
-- Assumes nothing.
use mathlib.Core.Path.{◌≡◌, ap}
use Prim.Native.Nat.{ℕ, zero, suc, ◌+◌, ◌*◌, ◌≤◌, ◌<◌}
use native.Mathlib.Nat.{le_antisymm, mul-le-mul}
use native.Mathlib.Omega.{arith}
use Rattle.std.specs.Prelude.{None, Some}
use Rattle.root.specs.Trial.{IsNearest, GuessTried}

not_less : (n t u : ℕ) → IsNearest n t → IsNearest n u → t < u → ⊥
not_less n t zero h w l = omega arith
not_less n t (suc v) h w l = let m : t ≤ v = omega arith in omega (arith, mul-le-mul m m)

one_nearest : (n t u : ℕ) → IsNearest n t → IsNearest n u → t ≡ u
one_nearest n t u h w = le_antisymm (not_above_law (not_less n u t w h)) (not_above_law (not_less n t u h w))
  where
    not_above_law : {a b : ℕ} → (a < b → ⊥) → b ≤ a
    not_above_law h = omega arith

pub tried : (n g t : ℕ) → IsNearest n t → GuessTried n g (Some t)
tried n g t h = record { right = h; found = λ u w l m. ap Some (one_nearest n t u h w) }

none : (n g : ℕ) → ((u : ℕ) → IsNearest n u → u ≤ g + 1 → g ≤ u + 1 → ⊥) → GuessTried n g None
none n g h = record { right = tt; found = λ u w l m. absurd (h u w l m) }

-- Where n is at most the square of the midpoint below g - 1, the nearest is lower than that.
pub none_below : (n g : ℕ) → n + g ≤ g * g → n + 3 * g ≤ g * g + 2 → GuessTried n g None
none_below n g s l = none n g (λ u w m b. by g u s l w b)
  where
    by : (g u : ℕ) → n + g ≤ g * g → n + 3 * g ≤ g * g + 2 → IsNearest n u → g ≤ u + 1 → ⊥
    by g zero s l w b = omega arith
    by zero (suc v) s l w b = omega arith
    by (suc zero) (suc v) s l w b = omega arith
    by (suc (suc k)) (suc v) s l w b = let m : k ≤ v = omega arith in omega (arith, mul-le-mul m m)

-- Where it is above that of the midpoint above g + 1, the nearest is higher.
pub none_above : (n g : ℕ) → g * g + 3 * g + 2 < n → GuessTried n g None
none_above n g l = none n g (λ u w m b. omega (arith, mul-le-mul m m))
