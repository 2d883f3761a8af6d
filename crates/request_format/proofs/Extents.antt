-- How the bits and legs of obstacles are counted from the front: what is found from here on is what is found of all.
-- Assumes nothing.
use Prim.Native.Nat.{ℕ, ◌+◌, ◌-◌, ◌*◌, ◌≤◌, ◌<◌}
use Rattle.std.proofs.Common.{Option, Some, None}
use mathlib.Core.Path.{◌≡◌, refl, sym, ap, ◌∙◌}
use mathlib.Core.Bool.{Bool, true, false, not, ◌&&◌, cond, and-false}
use mathlib.Core.List.{List, ◌∷◌}
use native.Mathlib.Omega.{arith}
use borrow.Author.Tests.{le-leb, lt-leb, eq-eqb, ne_eqb}
use lib.Dec.{leb, eqb}
use lib.ListN.{length}
use Rattle.lent.specs.Listed.{every}
use Rattle.request_format.specs.Request.{StreamObstacle}
use Rattle.request_format.specs.Bits.{number_at}
use Rattle.request_format.specs.Format.{obstacle_at, obstacles_at, bits_in_all, legs_counted, are_counted, request_bits}
use Rattle.request_format.specs.Measured.{extent_of}
pub use Rattle.request_format.proofs.Counts.{counts_told}
use Rattle.request_format.proofs.Counts.{length_own, length_obstacles, obstacles_next, obstacles_done}

-- What is found where bit `at` is reached and so many legs are counted already.
unfoldable pub extent_from : ℕ → ℕ → List StreamObstacle → Option ℕ
extent_from at legs os =
    cond
    (leb (legs + legs_counted os) 256 && every (λ o. not (eqb (length o.points) 1)) os)
    (Some (at + bits_in_all os))
    None

-- At the first bit, with no leg counted, all obstacles are to come; their count has a limit of its own.
pub extent_whole : (os : List StreamObstacle) → length os ≤ 32 → extent_from 510 0 os ≡ extent_of os
unfolding extent_from extent_of are_counted request_bits
extent_whole os few =
    let none : 0 + legs_counted os ≡ legs_counted os = omega arith in rw (none, le-leb (length os) 32 few)

pub begun : (s : List ℕ) (n : ℕ) → n ≤ 32 → extent_from 510 0 (obstacles_at s 510 (n - 0)) ≡ extent_of (obstacles_at s 510 n)
begun s n few =
    let all : n - 0 ≡ n = omega arith in
    rw all (extent_whole (obstacles_at s 510 n) (omega (arith, length_obstacles s 510 n)))

-- By the first of any obstacles: one waypoint alone, or too many legs, are not counted, and else the others follow.
pub extent_single : (at legs : ℕ) (o : StreamObstacle) (os : List StreamObstacle) →
    length o.points ≡ 1 → extent_from at legs (o ∷ os) ≡ None
unfolding extent_from every
extent_single at legs o os h = rw (eq-eqb (length o.points) 1 h, and-false)

pub extent_many : (at legs : ℕ) (o : StreamObstacle) (os : List StreamObstacle) →
    256 < legs + (length o.points - 1) → extent_from at legs (o ∷ os) ≡ None
unfolding extent_from legs_counted
extent_many at legs o os h = rw (lt-leb (legs + ((length o.points - 1) + legs_counted os)) 256 (omega arith))

pub extent_next : (at legs : ℕ) (o : StreamObstacle) (os : List StreamObstacle) → (length o.points ≡ 1 → ⊥) →
    extent_from at legs (o ∷ os) ≡ extent_from (at + (201 + 178 * length o.points)) (legs + (length o.points - 1)) os
unfolding extent_from every legs_counted bits_in_all
extent_next at legs o os h =
    let p = length o.points in
    let counted : legs + ((p - 1) + legs_counted os) ≡ legs + (p - 1) + legs_counted os = omega arith in
    let reached : at + ((201 + 178 * p) + bits_in_all os) ≡ at + (201 + 178 * p) + bits_in_all os = omega arith in
    rw (ne_eqb p 1 h, counted, reached)

-- ---- The obstacles of a stream that are left after o of them, by the count of waypoints of the first.

module _ (s : List ℕ) (at legs end o : ℕ) (left : o < end) where
  abbrev points : ℕ
  points = number_at s (at + 192) 9

  pub single : points ≡ 1 → extent_from at legs (obstacles_at s at (end - o)) ≡ None
  single one =
      rw (obstacles_next s at end o points left refl)
      (extent_single at legs (obstacle_at s at) _ (length_own s at ∙ one))

  pub many : 256 < legs + (points - 1) → extent_from at legs (obstacles_at s at (end - o)) ≡ None
  many h =
      rw (obstacles_next s at end o points left refl)
      (extent_many at legs (obstacle_at s at) _ (omega (arith, length_own s at)))

  pub next : (points ≡ 1 → ⊥) →
      extent_from at legs (obstacles_at s at (end - o)) ≡
      extent_from (at + (201 + 178 * points)) (legs + (points - 1)) (obstacles_at s (at + (201 + 178 * points)) (end - (o + 1)))
  next h =
      let rest = obstacles_at s (at + (201 + 178 * points)) (end - (o + 1)) in
      rw (obstacles_next s at end o points left refl)
      (extent_next at legs (obstacle_at s at) rest (λ one. h (sym (length_own s at) ∙ one)) ∙
      ap (λ (k : ℕ). extent_from (at + (201 + 178 * k)) (legs + (k - 1)) rest) (length_own s at))

pub ended : (s : List ℕ) (at legs end o : ℕ) → end ≤ o → legs ≤ 256 → extent_from at legs (obstacles_at s at (end - o)) ≡ Some at
unfolding extent_from legs_counted bits_in_all every
ended s at legs end o done few =
    let bits : at + 0 ≡ at = omega arith in
    rw (obstacles_done s at end o done) (rw (le-leb (legs + 0) 256 (omega arith), bits))

-- How the counting begins, goes on and ends.
pub ruleset counting = (begun, single, many, next, ended)

-- ---- Which answer tells of which counts.

pub extent_counted : (os : List StreamObstacle) (b : ℕ) → extent_of os ≡ Some b → are_counted os ≡ true
unfolding extent_of
extent_counted os b = by (are_counted os) refl
  where
    by : (t : Bool) → are_counted os ≡ t → cond t (Some (request_bits os)) None ≡ Some b → are_counted os ≡ true
    by true h e = h
    by false h e = absurd (cc)

pub extent_bits : (os : List StreamObstacle) (b : ℕ) → extent_of os ≡ Some b → request_bits os ≡ b
unfolding extent_of
extent_bits os b = by (are_counted os)
  where
    by : (t : Bool) → cond t (Some (request_bits os)) None ≡ Some b → request_bits os ≡ b
    by true e = cc
    by false e = absurd (cc)

pub extent_none : (os : List StreamObstacle) → extent_of os ≡ None → are_counted os ≡ false
unfolding extent_of
extent_none os = by (are_counted os) refl
  where
    by : (t : Bool) → are_counted os ≡ t → cond t (Some (request_bits os)) None ≡ None → are_counted os ≡ false
    by true h e = absurd (cc)
    by false h e = h

-- What the counts, and an extent that was found or was not, tell of a request.
pub ruleset told = (extent_counted, extent_bits, extent_none, counts_told)
