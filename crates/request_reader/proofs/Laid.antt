-- The lent lists of a request fit one another, and the starts tile the waypoints (RULES 20.7).
-- Assumes nothing.
use Prim.Native.Nat.{ℕ, zero, suc, ◌+◌, ◌-◌, ◌*◌, ◌≤◌}
use mathlib.Core.Path.{◌≡◌, refl, sym, ap, ◌∙◌}
use mathlib.Core.Bool.{Bool, true}
use mathlib.Core.List.{List, [], ◌∷◌}
use borrow.Author.Tests.{le-leb, eq-eqb}
use native.Mathlib.Numerals.{add-one}
use native.Mathlib.Omega.{arith}
use lib.Dec.{leb}
use lib.IntN.{pos}
use lib.ListN.{length, get_or, length-append, length-map}
use Rattle.lent.specs.Listed.{listed, every}
use Rattle.table.specs.Lent.{start_in}
use Rattle.table.specs.Examined.{tiles, is_laid}
use Rattle.request_format.specs.Request.{Point, StreamObstacle}
use Rattle.request_reader.specs.Table.{double, starts_from, points_of, times_of, xs_of, ys_of, table_of}
use Rattle.request_reader.proofs.TableOf.{numbers_count, starts_count}

first_start : (os : List StreamObstacle) (count : ℕ) → count ≡ length (points_of os) → get_or (starts_from 0 os) 0 count ≡ 0
unfolding starts_from points_of
first_start [] count e = e
first_start (o ∷ os) count e = refl

starts_rise : (i : ℕ) (os : List StreamObstacle) (o count : ℕ) → count ≡ i + length (points_of os) →
    get_or (starts_from i os) o count ≤ get_or (starts_from i os) (suc o) count
unfolding starts_from points_of
starts_rise i [] o count e = omega arith
starts_rise i (q ∷ []) zero count e = omega arith
starts_rise i (q ∷ (r ∷ os)) zero count e = omega arith
starts_rise i (q ∷ os) (suc o) count e =
    starts_rise (i + length q.points) os o count (omega (arith, length-append q.points (points_of os)))

every_listed : {A : Type 0} (test : A → Bool) (f : ℕ → A) (n i : ℕ) →
    ((j : ℕ) → test (f j) ≡ true) → every test (listed f n i) ≡ true
unfolding listed every
every_listed test f zero i h = refl
every_listed test f (suc n) i h = rw (h i) (every_listed test f n (suc i) h)

starts_tile : (os : List StreamObstacle) (count : ℕ) → count ≡ length (points_of os) → tiles (starts_from 0 os) count ≡ true
unfolding tiles
starts_tile os count e =
    rw (eq-eqb _ _ (first_start os count e), every_listed test (λ o. o) (length (starts_from 0 os) - 0) 0 rises)
  where
    start : ℕ → ℕ
    start = start_in (starts_from 0 os) count

    test : ℕ → Bool
    test o = leb (start o) (start (o + 1))

    rises : (o : ℕ) → test o ≡ true
    rises o = le-leb (start o) (start (o + 1)) (rw (add-one o) (starts_rise 0 os o count (omega arith)))

-- A time, an x and a y for each waypoint, three numbers for each obstacle, and each waypoint belongs to one obstacle.
pub table_laid : (os : List StreamObstacle) → is_laid (table_of os) ≡ true
unfolding is_laid table_of
table_laid os =
    let ps : List Point = points_of os in
    let times : length (times_of ps) ≡ length ps = length-map ps (λ p. pos p.time) in
    let xs : length (xs_of ps) ≡ length (times_of ps) = length-map ps (λ p. double p.x) ∙ sym times in
    let ys : length (ys_of ps) ≡ length (times_of ps) = length-map ps (λ p. double p.y) ∙ sym times in
    let threes = numbers_count os ∙ ap (λ n. 3 * n) (sym (starts_count 0 os)) in
    rw (eq-eqb _ _ xs, eq-eqb _ _ ys, eq-eqb _ _ threes, starts_tile os (length (times_of ps)) times)
