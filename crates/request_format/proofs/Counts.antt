-- How many waypoints and obstacles are read, how the obstacles are walked from the front, and how much those within the table
-- take.
-- Assumes nothing.
use Prim.Native.Nat.{ℕ, zero, suc, ◌+◌, ◌-◌, ◌*◌, ◌≤◌, ◌<◌}
use mathlib.Core.Path.{◌≡◌, refl, sym, ap, ◌∙◌}
use mathlib.Core.Bool.{true, false}
use mathlib.Core.List.{List, [], ◌∷◌}
use native.Mathlib.Omega.{arith}
use borrow.Author.Tests.{leb-true, lt-leb}
use lib.ListN.{length}
use Rattle.times.proofs.Exact.{both}
use Rattle.request_format.specs.Bits.{number_at}
use Rattle.request_format.specs.Request.{StreamObstacle}
use Rattle.request_format.specs.Format.{
  points_at,
  obstacle_at,
  obstacle_bits,
  obstacles_at,
  bits_in_all,
  request_bits,
  legs_counted,
  are_counted,
}

pub length_points : (s : List ℕ) (at n : ℕ) → length (points_at s at n) ≡ n
unfolding points_at
length_points s at zero = refl
length_points s at (suc n) = ap suc (length_points s (at + 178) n)

pub length_obstacles : (s : List ℕ) (at n : ℕ) → length (obstacles_at s at n) ≡ n
unfolding obstacles_at
length_obstacles s at zero = refl
length_obstacles s at (suc n) = ap suc (length_obstacles s (at + obstacle_bits (number_at s (at + 192) 9)) n)

-- An obstacle has as many waypoints as its count says.
pub length_own : (s : List ℕ) (at : ℕ) → length (obstacle_at s at).points ≡ number_at s (at + 192) 9
unfolding obstacle_at
length_own s at = length_points s (at + 201) (number_at s (at + 192) 9)

-- ---- The obstacles that are left after o of them.

pub obstacles_done : (s : List ℕ) (at end o : ℕ) → end ≤ o → obstacles_at s at (end - o) ≡ []
unfolding obstacles_at
obstacles_done s at end o h = let none : end - o ≡ 0 = omega arith in rw none

-- p is the count of waypoints of the first of them.
pub obstacles_next : (s : List ℕ) (at end o p : ℕ) → o < end → p ≡ number_at s (at + 192) 9 →
    obstacles_at s at (end - o) ≡ obstacle_at s at ∷ obstacles_at s (at + (201 + 178 * p)) (end - (o + 1))
unfolding obstacles_at
obstacles_next s at end o p h e = let more : end - o ≡ suc (end - (o + 1)) = omega arith in rw (more, e)

pub bits_next : (s : List ℕ) (at end o p : ℕ) → o < end → p ≡ number_at s (at + 192) 9 →
    bits_in_all (obstacles_at s at (end - o)) ≡ 201 + 178 * p + bits_in_all (obstacles_at s (at + (201 + 178 * p)) (end - (o + 1)))
unfolding bits_in_all
bits_next s at end o p h e = rw (obstacles_next s at end o p h e, length_own s at ∙ sym e)

-- ---- What obstacles within the table take.

bits_at_most : (os : List StreamObstacle) → bits_in_all os ≤ 379 * length os + 178 * legs_counted os
unfolding bits_in_all legs_counted
bits_at_most [] = omega arith
bits_at_most (o ∷ os) = omega (arith, bits_at_most os)

pub counts : (os : List StreamObstacle) → are_counted os ≡ true → (length os ≤ 32) × (legs_counted os ≤ 256)
unfolding are_counted
counts os h =
    let few = both _ _ h in (leb-true (length os) 32 few.0, leb-true (legs_counted os) 256 (both _ _ few.1).0)

pub few_obstacles : (os : List StreamObstacle) → are_counted os ≡ true → length os ≤ 32
few_obstacles os h = (counts os h).0

pub too_many : (os : List StreamObstacle) → 32 < length os → are_counted os ≡ false
unfolding are_counted
too_many os h = rw (lt-leb (length os) 32 h)

pub few_bits : (os : List StreamObstacle) → are_counted os ≡ true → request_bits os ≤ 60_000
unfolding request_bits
few_bits os h = omega (arith, (counts os h).0, (counts os h).1, bits_at_most os)

-- How many obstacles are read, and what so many take.
pub ruleset counts_told = (length_obstacles, too_many, few_bits)
