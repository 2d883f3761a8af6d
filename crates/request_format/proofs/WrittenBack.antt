-- What is read is what was written: bytes that are read as a request are the stream of that request (RULES 14.1 to 14.17).
-- Assumes nothing.
use Prim.Native.Nat.{ℕ, zero, suc, ◌+◌, ◌-◌, ◌*◌, ◌/◌}
use mathlib.Core.Path.{◌≡◌, refl, sym, ap, ◌∙◌}
use mathlib.Core.Bool.{Bool, true, false, ◌&&◌, cond}
use mathlib.Core.List.{List, ◌++◌}
use borrow.Author.Tests.{lt-ltb, eqb-true}
use native.Mathlib.Omega.{arith}
use lib.Dec.{eqb}
use lib.ListN.{length}
use Rattle.lent.specs.Listed.{every}
use Rattle.times.proofs.Exact.{both}
use Rattle.request_format.specs.Bits.{bit_at, number_at}
use Rattle.request_format.specs.Request.{Point, StreamObstacle, Request, Of, Malformed}
use Rattle.request_format.specs.Format.{
  point_at,
  points_at,
  obstacle_at,
  obstacle_bits,
  obstacles_at,
  request_at,
  request_bits,
  are_counted,
  is_filled,
  is_request,
  read_of,
}
use Rattle.request_format.specs.Written.{
  bits_of,
  bits_for,
  point_bits,
  obstacle_fields,
  request_fields,
  written,
  point_fits,
  obstacle_fits,
  request_fits,
}
use Rattle.request_format.proofs.Numbers.{Stands, joined}
use Rattle.request_format.proofs.Digits.{number_lt}
use Rattle.request_format.proofs.Counts.{length_points, length_obstacles}
use Rattle.request_format.proofs.Packing.{are_bytes, number_bits, field_there, bytes_packed}
use Rattle.request_format.proofs.Sizes.{length_point, length_obstacle, length_request}

-- ---- Waypoints: the bits of what is read stand where it was read, and it fits.

module _ (s : List ℕ) where
  point_there : (at : ℕ) → Stands (bit_at s) at (point_bits (point_at s at))
  unfolding point_at point_bits
  point_there at =
      let ys = bits_of 64 (number_at s (at + 114) 64) in
      let xs = bits_of 64 (number_at s (at + 50) 64) ++ ys in
      field_there s at (at + 50) 50 xs refl
      (field_there s (at + 50) (at + 114) 64 ys (omega arith) (number_bits s (at + 114) 64))

  point_fits_law : (at : ℕ) → point_fits (point_at s at) ≡ true
  unfolding point_at point_fits
  point_fits_law at =
      rw (
        lt-ltb _ _ (number_lt s at 50),
        lt-ltb _ _ (number_lt s (at + 50) 64),
        lt-ltb _ _ (number_lt s (at + 114) 64),
      )

  points_there : (at n : ℕ) → Stands (bit_at s) at (bits_for point_bits (points_at s at n))
  unfolding points_at bits_for
  points_there at zero = λ j h. absurd (omega arith)
  points_there at (suc n) =
      let p : Point = point_at s at in
      let seam : at + length (point_bits p) ≡ at + 178 = ap (λ k. at + k) (length_point p) in
      let behind = points_there (at + 178) n in
      joined (bit_at s) at (at + 178) (point_bits p) (bits_for point_bits (points_at s (at + 178) n)) seam (point_there at) behind

  points_fit : (at n : ℕ) → every point_fits (points_at s at n) ≡ true
  unfolding points_at every
  points_fit at zero = refl
  points_fit at (suc n) = rw (point_fits_law at, points_fit (at + 178) n)

  -- ---- Obstacles.

  obstacle_there : (at : ℕ) → Stands (bit_at s) at (obstacle_fields (obstacle_at s at))
  unfolding obstacle_at obstacle_fields
  obstacle_there at =
      let n : ℕ = number_at s (at + 192) 9 in
      let points = bits_for point_bits (points_at s (at + 201) n) in
      let counts = bits_of 9 n ++ points in
      let limits = bits_of 64 (number_at s (at + 128) 64) ++ counts in
      let follows = bits_of 64 (number_at s (at + 64) 64) ++ limits in
      rw (length_points s (at + 201) n)
      (field_there s at (at + 64) 64 follows refl
      (field_there s (at + 64) (at + 128) 64 limits (omega arith)
      (field_there s (at + 128) (at + 192) 64 counts (omega arith)
      (field_there s (at + 192) (at + 201) 9 points (omega arith) (points_there (at + 201) n)))))

  points_counted : (at : ℕ) → length (obstacle_at s at).points ≡ number_at s (at + 192) 9
  unfolding obstacle_at
  points_counted at = length_points s (at + 201) (number_at s (at + 192) 9)

  obstacle_fits_law : (at : ℕ) → obstacle_fits (obstacle_at s at) ≡ true
  unfolding obstacle_at obstacle_fits
  obstacle_fits_law at =
      let n : ℕ = number_at s (at + 192) 9 in
      rw (
        length_points s (at + 201) n,
        lt-ltb _ _ (number_lt s at 64),
        lt-ltb _ _ (number_lt s (at + 64) 64),
        lt-ltb _ _ (number_lt s (at + 128) 64),
        lt-ltb _ _ (number_lt s (at + 192) 9),
        points_fit (at + 201) n,
      )

  obstacles_there : (at n : ℕ) → Stands (bit_at s) at (bits_for obstacle_fields (obstacles_at s at n))
  unfolding obstacles_at bits_for
  obstacles_there at zero = λ j h. absurd (omega arith)
  obstacles_there at (suc n) =
      let o : StreamObstacle = obstacle_at s at in
      let to : ℕ = at + obstacle_bits (number_at s (at + 192) 9) in
      let size = length_obstacle o ∙ ap obstacle_bits (points_counted at) in
      joined (bit_at s) at to (obstacle_fields o) (bits_for obstacle_fields (obstacles_at s to n)) (ap (λ k. at + k) size)
      (obstacle_there at)
      (obstacles_there to n)

  obstacles_fit : (at n : ℕ) → every obstacle_fits (obstacles_at s at n) ≡ true
  unfolding obstacles_at every
  obstacles_fit at zero = refl
  obstacles_fit at (suc n) =
      rw (obstacle_fits_law at, obstacles_fit (at + obstacle_bits (number_at s (at + 192) 9)) n)

  -- ---- The request.

  request_there : number_at s 0 4 ≡ 1 → Stands (bit_at s) 0 (request_fields (request_at s))
  unfolding request_at request_fields
  request_there edition =
      let n : ℕ = number_at s 4 6 in
      let obstacles = bits_for obstacle_fields (obstacles_at s 510 n) in
      let tos = point_bits (point_at s 332) ++ obstacles in
      let froms = point_bits (point_at s 154) ++ tos in
      let follows = bits_of 64 (number_at s 90 64) ++ froms in
      let footprints = bits_of 64 (number_at s 26 64) ++ follows in
      let budgets = bits_of 16 (number_at s 10 16) ++ footprints in
      let counts = bits_of 6 n ++ budgets in
      let from-seam : 154 + length (point_bits (point_at s 154)) ≡ 332 = ap (λ k. 154 + k) (length_point (point_at s 154)) in
      let to-seam : 332 + length (point_bits (point_at s 332)) ≡ 510 = ap (λ k. 332 + k) (length_point (point_at s 332)) in
      let at-obstacles = obstacles_there 510 n in
      let at-to = joined (bit_at s) 332 510 (point_bits (point_at s 332)) obstacles to-seam (point_there 332) at-obstacles in
      let at_from = joined (bit_at s) 154 332 (point_bits (point_at s 154)) tos from-seam (point_there 154) at-to in
      let at-follow = field_there s 90 154 64 froms refl at_from in
      let at-footprint = field_there s 26 90 64 follows refl at-follow in
      let at-budget = field_there s 10 26 16 footprints refl at-footprint in
      let at_count = field_there s 4 10 6 budgets refl at-budget in
      rw (length_obstacles s 510 n) (rw edition at (field_there s 0 4 4 counts refl at_count))

  request_fits_law : request_fits (request_at s) ≡ true
  unfolding request_at request_fits
  request_fits_law =
      rw (
        length_obstacles s 510 (number_at s 4 6),
        lt-ltb _ _ (number_lt s 10 16),
        lt-ltb _ _ (number_lt s 26 64),
        lt-ltb _ _ (number_lt s 90 64),
        point_fits_law 154,
        point_fits_law 332,
        lt-ltb _ _ (number_lt s 4 6),
        obstacles_fit 510 (number_at s 4 6),
      )

-- ---- A stream that is read.

-- It is a request, and the one that its fields say.
read_is : (s : List ℕ) (r : Request) → read_of s ≡ Of r → (is_request s ≡ true) × (request_at s ≡ r)
unfolding read_of
read_is s r e = by (is_request s) e
  where
    by : (t : Bool) → cond t (Of (request_at s)) Malformed ≡ Of r → (t ≡ true) × (request_at s ≡ r)
    by true e = (refl, cc)
    by false e = (cc, cc)

-- It has edition 1, the counts of the table, and is whole and filled with zeros.
request_is : (s : List ℕ) → is_request s ≡ true →
    (number_at s 0 4 ≡ 1) ×
    (are_counted (request_at s).obstacles ≡ true) ×
    (is_filled s (request_bits (request_at s).obstacles) ≡ true)
unfolding is_request
request_is s e =
    let counted = are_counted (request_at s).obstacles in
    let filled = is_filled s (request_bits (request_at s).obstacles) in
    let edition = both (eqb (number_at s 0 4) 1) (counted && filled) e in
    let counts = both counted filled edition.1 in
    (eqb-true (number_at s 0 4) 1 edition.0, counts.0, counts.1)

-- Whatever is read fits its fields,
pub read_fits : (s : List ℕ) (r : Request) → read_of s ≡ Of r → request_fits r ≡ true
read_fits s r e = rw (read_is s r e).1 at (request_fits_law s)

-- and has the counts of the table.
pub read_counted : (s : List ℕ) (r : Request) → read_of s ≡ Of r → are_counted r.obstacles ≡ true
read_counted s r e = let is = read_is s r e in rw is.1 at (request_is s is.0).1

-- The fields of a request, packed, are the bytes that they were read from.
request_written : (s : List ℕ) → are_bytes s ≡ true → is_request s ≡ true → written (request_at s) ≡ s
unfolding written is_filled
request_written s bytes e =
    let is = request_is s e in
    let bits = request_fields (request_at s) in
    let n : ℕ = request_bits (request_at s).obstacles in
    let filled = both (eqb (length s) ((n + 7) / 8)) (eqb (number_at s n (8 * length s - n)) 0) is.2 in
    let size : length s ≡ (n + 7) / 8 = eqb-true _ _ filled.0 in
    let fill : number_at s n (8 * length s - n) ≡ 0 = eqb-true _ _ filled.1 in
    let count : length bits ≡ n = length_request (request_at s) in
    bytes_packed s bits bytes (request_there s is.0)
    (size ∙ ap (λ k. (k + 7) / 8) (sym count))
    (ap (λ k. number_at s k (8 * length s - k)) count ∙ fill)

-- Bytes that are read as a request are its stream.
pub read_written : (s : List ℕ) (r : Request) → are_bytes s ≡ true → read_of s ≡ Of r → written r ≡ s
read_written s r bytes e = let is = read_is s r e in ap written (sym is.1) ∙ request_written s bytes is.0
