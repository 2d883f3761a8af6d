-- Hex digits read one after another, k of 16 so far: a byte that is no digit ends the reading, and a digit goes on with one more.
-- Assumes nothing.
use Rattle.std.proofs.Common.{◌≡◌, ℕ, suc, ◌+◌, ◌-◌, ◌*◌, ◌^◌, ◌<◌, ◌≤◌, List, length, Some, None, get_or, arith, add-one}
use Rattle.std.proofs.lemmas.Bool.Decides.{nat_tests}
use Rattle.std.proofs.lemmas.List.{get_or-drop, get_or-take}
use Rattle.std.specs.List.{slice_range}
use native.Mathlib.Nat.{pow-suc, pow-le-pow_right}
use lib.Dec.{lit<}
use Rattle.replay.specs.Hex.{digit_of, read_on}

pub digit_small : (b d : ℕ) → digit_of b ≡ Some d → d < 16
unfolding digit_of
digit_small b d e = grind (arith, nat_tests)

-- The bytes of the sixteen from `at` on.
pub sixteen_at : (s : List ℕ) (at : ℕ) → at + 16 ≤ length s →
    (k : ℕ) → k < 16 → get_or (slice_range (slice_range s at (length s)) 0 16) k 0 ≡ get_or s (at + k) 0
sixteen_at s at e k h = let tail : k < length s - at = omega arith in rw (get_or-take, get_or-take, get_or-drop)

module _ (s : List ℕ) (v at k : ℕ) (h : k < 16) where
  pub stops : digit_of (get_or s (at + k) 0) ≡ None → read_on s v (at + k) (16 - k) ≡ None
  unfolding read_on
  stops e = let left : 16 - k ≡ suc (16 - (k + 1)) = omega arith in rw (left, e)

  pub goes_on : (d : ℕ) → digit_of (get_or s (at + k) 0) ≡ Some d →
      read_on s (v * 16 + d) (at + (k + 1)) (16 - (k + 1)) ≡ read_on s v (at + k) (16 - k)
  unfolding read_on
  goes_on d e =
      let left : 16 - k ≡ suc (16 - (k + 1)) = omega arith in
      let next : at + (k + 1) ≡ suc (at + k) = omega arith in
      rw (left, e, next)

pub one_more : (v k d : ℕ) → v < 16 ^ k → d < 16 → v * 16 + d < 16 ^ (k + 1)
one_more v k d h e = rw (add-one, pow-suc) (omega arith)

-- Below 16 digits there is room for one more.
pub room : (v k : ℕ) → k < 16 → v < 16 ^ k → v * 16 + 15 < 2 ^ 64
room v k h e = let most : 16 ^ k ≤ 16 ^ 15 = pow-le-pow_right (lit< tt) {i = k} {j = 15} (omega arith) in omega arith
