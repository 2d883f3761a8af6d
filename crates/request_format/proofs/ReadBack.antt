-- What is written is read back: the stream of a request that fits is read as that request (RULES 14.1 to 14.17).
-- Assumes nothing.
use Prim.Native.Nat.{ℕ, ◌+◌, ◌-◌, ◌*◌, ◌/◌, ◌^◌}
use mathlib.Core.Path.{◌≡◌, refl, sym, ap, ◌∙◌}
use mathlib.Core.Bool.{true, ◌&&◌}
use mathlib.Core.List.{List, [], ◌∷◌, ◌++◌}
use borrow.Author.Tests.{ltb-true, eq-eqb}
use native.Mathlib.Omega.{arith}
use lib.Dec.{ltb}
use lib.ListN.{length}
use Rattle.lent.specs.Listed.{every}
use Rattle.times.proofs.Exact.{both}
use Rattle.request_format.specs.Bits.{bit_at, number_at}
use Rattle.request_format.specs.Request.{Point, StreamObstacle, Request, Of}
use Rattle.request_format.specs.Format.{
  point_at,
  points_at,
  obstacle_at,
  obstacle_bits,
  obstacles_at,
  request_at,
  request_bits,
  are_counted,
  is_filled,
  is_request,
  read_of,
}
use Rattle.request_format.specs.Written.{
  bits_of,
  bits_for,
  point_bits,
  obstacle_fields,
  request_fields,
  packed,
  written,
  point_fits,
  obstacle_fits,
  request_fits,
}
use Rattle.request_format.proofs.Numbers.{Stands, front, rest}
use Rattle.request_format.proofs.Packing.{
  number_read,
  field_read,
  field_passed,
  length_packed,
  packed_stands,
  packed_fill,
}
use Rattle.request_format.proofs.Sizes.{length_point, length_obstacle, length_request, request_bits_law}

-- ---- Waypoints.

point_back : (s : List ℕ) (at : ℕ) (p : Point) →
    point_fits p ≡ true → Stands (bit_at s) at (point_bits p) → point_at s at ≡ p
unfolding point_at point_bits point_fits
point_back s at p fits there =
    let t = both (ltb p.time (2 ^ 50)) (ltb p.x (2 ^ 64) && ltb p.y (2 ^ 64)) fits in
    let c = both (ltb p.x (2 ^ 64)) (ltb p.y (2 ^ 64)) t.1 in
    let ys = bits_of 64 p.y in
    let xs = bits_of 64 p.x ++ ys in
    let at_x = field_passed s at (at + 50) 50 p.time xs refl there in
    let at_y = field_passed s (at + 50) (at + 114) 64 p.x ys (omega arith) at_x in
    rw (
      field_read s at (at + 50) 50 p.time xs refl (ltb-true _ _ t.0) there,
      field_read s (at + 50) (at + 114) 64 p.x ys (omega arith) (ltb-true _ _ c.0) at_x,
      number_read s (at + 114) 64 p.y (ltb-true _ _ c.1) at_y,
    )

points_back : (s : List ℕ) (at : ℕ) (ps : List Point) →
    every point_fits ps ≡ true → Stands (bit_at s) at (bits_for point_bits ps) → points_at s at (length ps) ≡ ps
unfolding points_at bits_for every
points_back s at [] fits there = refl
points_back s at (p ∷ ps) fits there =
    let each = both (point_fits p) (every point_fits ps) fits in
    let seam : at + length (point_bits p) ≡ at + 178 = ap (λ k. at + k) (length_point p) in
    let here = front (bit_at s) at (at + 178) (point_bits p) (bits_for point_bits ps) seam there in
    let behind = rest (bit_at s) at (at + 178) (point_bits p) (bits_for point_bits ps) seam there in
    rw (point_back s at p each.0 here, points_back s (at + 178) ps each.1 behind)

-- ---- Obstacles.

-- Its count of waypoints is read, and with it the whole.
obstacle_back : (s : List ℕ) (at : ℕ) (o : StreamObstacle) → obstacle_fits o ≡ true → Stands (bit_at s) at (obstacle_fields o) →
    (number_at s (at + 192) 9 ≡ length o.points) × (obstacle_at s at ≡ o)
unfolding obstacle_at obstacle_fields obstacle_fits
obstacle_back s at o fits there =
    let counted = ltb (length o.points) (2 ^ 9) && every point_fits o.points in
    let f = both (ltb o.footprint (2 ^ 64)) (ltb o.follow (2 ^ 64) && (ltb o.limit (2 ^ 64) && counted)) fits in
    let b = both (ltb o.follow (2 ^ 64)) (ltb o.limit (2 ^ 64) && counted) f.1 in
    let l = both (ltb o.limit (2 ^ 64)) counted b.1 in
    let c = both (ltb (length o.points) (2 ^ 9)) (every point_fits o.points) l.1 in
    let points = bits_for point_bits o.points in
    let counts = bits_of 9 (length o.points) ++ points in
    let limits = bits_of 64 o.limit ++ counts in
    let follows = bits_of 64 o.follow ++ limits in
    let at-follow = field_passed s at (at + 64) 64 o.footprint follows refl there in
    let at-limit = field_passed s (at + 64) (at + 128) 64 o.follow limits (omega arith) at-follow in
    let at_count = field_passed s (at + 128) (at + 192) 64 o.limit counts (omega arith) at-limit in
    let at-points = field_passed s (at + 192) (at + 201) 9 (length o.points) points (omega arith) at_count in
    let count = field_read s (at + 192) (at + 201) 9 (length o.points) points (omega arith) (ltb-true _ _ c.0) at_count in (
      count,
      rw (
        field_read s at (at + 64) 64 o.footprint follows refl (ltb-true _ _ f.0) there,
        field_read s (at + 64) (at + 128) 64 o.follow limits (omega arith) (ltb-true _ _ b.0) at-follow,
        field_read s (at + 128) (at + 192) 64 o.limit counts (omega arith) (ltb-true _ _ l.0) at-limit,
        count,
        points_back s (at + 201) o.points c.1 at-points,
      ),
    )

obstacles_back : (s : List ℕ) (at : ℕ) (os : List StreamObstacle) → every obstacle_fits os ≡ true →
    Stands (bit_at s) at (bits_for obstacle_fields os) → obstacles_at s at (length os) ≡ os
unfolding obstacles_at bits_for every
obstacles_back s at [] fits there = refl
obstacles_back s at (o ∷ os) fits there =
    let each = both (obstacle_fits o) (every obstacle_fits os) fits in
    let to : ℕ = at + obstacle_bits (length o.points) in
    let seam : at + length (obstacle_fields o) ≡ to = ap (λ k. at + k) (length_obstacle o) in
    let here = front (bit_at s) at to (obstacle_fields o) (bits_for obstacle_fields os) seam there in
    let behind = rest (bit_at s) at to (obstacle_fields o) (bits_for obstacle_fields os) seam there in
    let back = obstacle_back s at o each.0 here in
    rw (back.0, back.1, obstacles_back s to os each.1 behind)

-- ---- The request.

-- The edition is read, and with it the whole.
request_back : (s : List ℕ) (r : Request) → request_fits r ≡ true → Stands (bit_at s) 0 (request_fields r) →
    (number_at s 0 4 ≡ 1) × (request_at s ≡ r)
unfolding request_at request_fields request_fits
request_back s r fits there =
    let os = ltb (length r.obstacles) (2 ^ 6) && every obstacle_fits r.obstacles in
    let ends = point_fits r.from && (point_fits r.to && os) in
    let b = both (ltb r.budget (2 ^ 16)) (ltb r.footprint (2 ^ 64) && (ltb r.follow (2 ^ 64) && ends)) fits in
    let p = both (ltb r.footprint (2 ^ 64)) (ltb r.follow (2 ^ 64) && ends) b.1 in
    let f = both (ltb r.follow (2 ^ 64)) ends p.1 in
    let s0 = both (point_fits r.from) (point_fits r.to && os) f.1 in
    let s1 = both (point_fits r.to) os s0.1 in
    let c = both (ltb (length r.obstacles) (2 ^ 6)) (every obstacle_fits r.obstacles) s1.1 in
    let obstacles = bits_for obstacle_fields r.obstacles in
    let tos = point_bits r.to ++ obstacles in
    let froms = point_bits r.from ++ tos in
    let follows = bits_of 64 r.follow ++ froms in
    let footprints = bits_of 64 r.footprint ++ follows in
    let budgets = bits_of 16 r.budget ++ footprints in
    let counts = bits_of 6 (length r.obstacles) ++ budgets in
    let at_count = field_passed s 0 4 4 1 counts refl there in
    let at-budget = field_passed s 4 10 6 (length r.obstacles) budgets refl at_count in
    let at-footprint = field_passed s 10 26 16 r.budget footprints refl at-budget in
    let at-follow = field_passed s 26 90 64 r.footprint follows refl at-footprint in
    let at_from = field_passed s 90 154 64 r.follow froms refl at-follow in
    let from-seam : 154 + length (point_bits r.from) ≡ 332 = ap (λ k. 154 + k) (length_point r.from) in
    let to-seam : 332 + length (point_bits r.to) ≡ 510 = ap (λ k. 332 + k) (length_point r.to) in
    let at-to = rest (bit_at s) 154 332 (point_bits r.from) tos from-seam at_from in
    let at-obstacles = rest (bit_at s) 332 510 (point_bits r.to) obstacles to-seam at-to in (
      field_read s 0 4 4 1 counts refl (omega arith) there,
      rw (
        field_read s 4 10 6 (length r.obstacles) budgets refl (ltb-true _ _ c.0) at_count,
        field_read s 10 26 16 r.budget footprints refl (ltb-true _ _ b.0) at-budget,
        field_read s 26 90 64 r.footprint follows refl (ltb-true _ _ p.0) at-footprint,
        field_read s 90 154 64 r.follow froms refl (ltb-true _ _ f.0) at-follow,
        point_back s 154 r.from s0.0 (front (bit_at s) 154 332 (point_bits r.from) tos from-seam at_from),
        point_back s 332 r.to s1.0 (front (bit_at s) 332 510 (point_bits r.to) obstacles to-seam at-to),
        obstacles_back s 510 r.obstacles c.1 at-obstacles,
      ),
    )

-- ---- Its stream.

stream_back : (r : Request) → request_fits r ≡ true → (number_at (written r) 0 4 ≡ 1) × (request_at (written r) ≡ r)
unfolding written
stream_back r fits = request_back (packed (request_fields r)) r fits (packed_stands (request_fields r) (request_bits_law r))

-- The fields of a stream are those of the request that it was written for.
pub fields_back : (r : Request) → request_fits r ≡ true → request_at (written r) ≡ r
fields_back r fits = (stream_back r fits).1

written_filled : (r : Request) → is_filled (written r) (request_bits r.obstacles) ≡ true
unfolding is_filled written
written_filled r =
    let bits = request_fields r in
    let all : ℕ = request_bits r.obstacles in
    let n : ℕ = 8 * length (packed bits) - all in
    let same : length bits ≡ all = length_request r in
    let size = length_packed bits ∙ ap (λ k. (k + 7) / 8) same in
    let fill = ap (λ k. number_at (packed bits) k n) (sym same) ∙ packed_fill bits (request_bits_law r) n in
    rw (eq-eqb _ _ size, eq-eqb _ _ fill)

-- The stream of a request whose fields fit and whose counts are those of the table is read as that request.
pub written_read : (r : Request) → request_fits r ≡ true → are_counted r.obstacles ≡ true → read_of (written r) ≡ Of r
unfolding read_of is_request
written_read r fits counted =
    let back = stream_back r fits in rw (back.1, eq-eqb _ _ back.0, counted, written_filled r)
