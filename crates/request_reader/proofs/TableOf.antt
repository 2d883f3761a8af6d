-- The lent lists of a request stand for its obstacles (RULES 20.7).
-- Assumes nothing.
use Prim.Native.Nat.{ℕ, suc, ◌+◌, ◌-◌, ◌*◌}
use mathlib.Core.Path.{◌≡◌, refl, sym, ap, ◌∙◌}
use mathlib.Core.List.{List, [], ◌∷◌, ◌++◌, map, append_assoc}
use native.Mathlib.Nat.{sub-zero, add-zero, zero-add}
use native.Mathlib.Numerals.{add-one}
use native.Mathlib.Omega.{arith}
use lib.IntN.{pos}
use lib.ListN.{length, get_or, length-append, length-map}
use lib.Seq.{append_snoc, get_or-append-add}
use Rattle.lent.specs.Listed.{listed}
use Rattle.floats.specs.Constants.{nought}
use Rattle.shapes.specs.declared.waypoint.Waypoint.{Waypoint}
use Rattle.table.specs.Obstacle as O
use Rattle.table.specs.Lent.{start_in, waypoint_listed, waypoints_listed, obstacle_listed, obstacles_of}
use Rattle.request_format.specs.Request.{Point, StreamObstacle}
use Rattle.request_reader.specs.Table.{
  double,
  request_waypoint,
  obstacle_of,
  starts_from,
  obstacle_numbers,
  points_of,
  times_of,
  xs_of,
  ys_of,
  table_of,
}

-- ---- Waypoints.

-- The element that stands behind so many.
mapped_at : {A B : Type 0} (f : A → B) (before : List A) (x : A) (behind : List A) (d : B) →
    get_or (map f (before ++ (x ∷ behind))) (length before) d ≡ f x
mapped_at f [] x behind d = refl
mapped_at f (y ∷ before) x behind d = mapped_at f before x behind d

waypoint_at_law : (before : List Point) (p : Point) (behind all : List Point) → before ++ (p ∷ behind) ≡ all →
    waypoint_listed (times_of all) (xs_of all) (ys_of all) (length before) ≡ request_waypoint p
waypoint_at_law before p behind all e =
    rw (
      ← e,
      mapped_at (λ (q : Point). pos q.time) before p behind (pos 0),
      mapped_at (λ (q : Point). double q.x) before p behind nought,
      mapped_at (λ (q : Point). double q.y) before p behind nought,
    )

-- A run of waypoints is what the lists have from its place on.
waypoints_run : (before ps behind all : List Point) → before ++ (ps ++ behind) ≡ all →
    listed (waypoint_listed (times_of all) (xs_of all) (ys_of all)) (length ps) (length before) ≡ map request_waypoint ps
unfolding listed
waypoints_run before [] behind all e = refl
waypoints_run before (p ∷ ps) behind all e =
    let w : ℕ → Waypoint = waypoint_listed (times_of all) (xs_of all) (ys_of all) in
    let next : length (before ++ (p ∷ [])) ≡ suc (length before) = omega (arith, length-append before (p ∷ [])) in
    let on = waypoints_run (before ++ (p ∷ [])) ps behind all (append_snoc before p (ps ++ behind) ∙ e) in
    ap (λ x. x ∷ listed w (length ps) (suc (length before))) (waypoint_at_law before p (ps ++ behind) all e) ∙
    ap (λ l. request_waypoint p ∷ l) (ap (λ k. listed w (length ps) k) (sym next) ∙ on)

-- ---- Obstacles.

numbers_run : (before os : List StreamObstacle) → obstacle_numbers (before ++ os) ≡ obstacle_numbers before ++ obstacle_numbers os
unfolding obstacle_numbers
numbers_run [] os = refl
numbers_run (o ∷ before) os =
    ap (λ l. double o.footprint ∷ (double o.follow ∷ (double o.limit ∷ l))) (numbers_run before os)

pub numbers_count : (os : List StreamObstacle) → length (obstacle_numbers os) ≡ 3 * length os
unfolding obstacle_numbers
numbers_count [] = refl
numbers_count (o ∷ os) = omega (arith, numbers_count os)

points_run : (before os : List StreamObstacle) → points_of (before ++ os) ≡ points_of before ++ points_of os
unfolding points_of
points_run [] os = refl
points_run (o ∷ before) os =
    ap (λ l. o.points ++ l) (points_run before os) ∙ sym (append_assoc o.points (points_of before) (points_of os))

points_split : (before : List StreamObstacle) (o : StreamObstacle) (behind : List StreamObstacle) →
    points_of before ++ (o.points ++ points_of behind) ≡ points_of (before ++ (o ∷ behind))
unfolding points_of
points_split before o behind = sym (points_run before (o ∷ behind))

-- Each begins behind the waypoints of those before it,
start_at : (i : ℕ) (before : List StreamObstacle) (o : StreamObstacle) (behind : List StreamObstacle) (d : ℕ) →
    get_or (starts_from i (before ++ (o ∷ behind))) (length before) d ≡ i + length (points_of before)
unfolding starts_from points_of
start_at i [] o behind d = sym (add-zero i)
start_at i (q ∷ before) o behind d =
    start_at (i + length q.points) before o behind d ∙
    omega (arith, length-append q.points (points_of before))

-- and ends where the next one begins, or at the end of all.
end_at : (i : ℕ) (before : List StreamObstacle) (o : StreamObstacle) (behind : List StreamObstacle) (count : ℕ) →
    count ≡ i + length (points_of (before ++ (o ∷ behind))) →
    get_or (starts_from i (before ++ (o ∷ behind))) (suc (length before)) count ≡
    i + length (points_of before) + length o.points
unfolding starts_from points_of
end_at i [] o [] count e = omega (arith, length-append o.points [])
end_at i [] o (q ∷ behind) count e = omega arith
end_at i (q ∷ before) o behind count e =
    let all = length-append q.points (points_of (before ++ (o ∷ behind))) in
    end_at (i + length q.points) before o behind count (omega arith) ∙
    omega (arith, length-append q.points (points_of before))

-- An obstacle with others before it and behind it, in the table of all.
module _ (before : List StreamObstacle) (o : StreamObstacle) (behind : List StreamObstacle) where
  abbrev all : List StreamObstacle
  all = before ++ (o ∷ behind)

  numbers_at : (k : ℕ) → get_or (obstacle_numbers all) (3 * length before + k) nought ≡ get_or (obstacle_numbers (o ∷ behind)) k nought
  numbers_at k =
      let place : 3 * length before + k ≡ length (obstacle_numbers before) + k = omega (arith, numbers_count before) in
      rw (numbers_run before (o ∷ behind), place) (get_or-append-add (obstacle_numbers before) (obstacle_numbers (o ∷ behind)) k nought)

  waypoints_at : waypoints_listed (table_of all) (length before) ≡ map request_waypoint o.points
  unfolding waypoints_listed table_of
  waypoints_at =
      let points : List Point = points_of all in
      let count : ℕ = length (times_of points) in
      let w : ℕ → Waypoint = waypoint_listed (times_of points) (xs_of points) (ys_of points) in
      let start : ℕ = start_in (starts_from 0 all) count (length before) in
      let end : ℕ = start_in (starts_from 0 all) count (length before + 1) in
      let counted : count ≡ 0 + length points = length-map points (λ p. pos p.time) ∙ sym (zero-add (length points)) in
      let from : start ≡ length (points_of before) = start_at 0 before o behind count ∙ zero-add (length (points_of before)) in
      let next : end ≡ start_in (starts_from 0 all) count (suc (length before)) = rw (add-one (length before)) in
      let to = next ∙ end_at 0 before o behind count counted in
      let many : end - start ≡ length o.points = omega arith in
      ap (λ k. listed w k start) many ∙
      ap (λ k. listed w (length o.points) k) from ∙
      waypoints_run (points_of before) o.points (points_of behind) points (points_split before o behind)

  obstacle_at_law : obstacle_listed (table_of all) (length before) ≡ obstacle_of o
  unfolding obstacle_of table_of obstacle_numbers
  obstacle_at_law =
      let footprint = ap (λ k. get_or (obstacle_numbers all) k nought) (sym (add-zero (3 * length before))) ∙ numbers_at 0 in
      rw (waypoints_at, footprint, numbers_at 1, numbers_at 2)

-- From the obstacles behind some others,
obstacles_run : (before os all : List StreamObstacle) → before ++ os ≡ all →
    listed (obstacle_listed (table_of all)) (length os) (length before) ≡ map obstacle_of os
unfolding listed
obstacles_run before [] all e = refl
obstacles_run before (o ∷ os) all e =
    let f : ℕ → O.Obstacle = obstacle_listed (table_of all) in
    let next : length (before ++ (o ∷ [])) ≡ suc (length before) = omega (arith, length-append before (o ∷ [])) in
    let split = ap (λ l. obstacle_listed (table_of l) (length before)) (sym e) in
    let on = obstacles_run (before ++ (o ∷ [])) os all (append_snoc before o os ∙ e) in
    ap (λ x. x ∷ listed f (length os) (suc (length before))) (split ∙ obstacle_at_law before o os) ∙
    ap (λ l. obstacle_of o ∷ l) (ap (λ k. listed f (length os) k) (sym next) ∙ on)

pub starts_count : (i : ℕ) (os : List StreamObstacle) → length (starts_from i os) ≡ length os
unfolding starts_from
starts_count i [] = refl
starts_count i (o ∷ os) = ap suc (starts_count (i + length o.points) os)

-- so of all: the table of a request's obstacles stands for them, each with its own waypoints and box.
pub table_obstacles : (os : List StreamObstacle) → obstacles_of (table_of os) ≡ map obstacle_of os
unfolding obstacles_of table_of
table_obstacles os =
    ap (λ n. listed (obstacle_listed (table_of os)) n 0) (sub-zero _ ∙ starts_count 0 os) ∙
    obstacles_run [] os os refl
