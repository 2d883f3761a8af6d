-- How the table of a request fills: the obstacles that stand in it, with those that are still to come, are all.
-- Assumes nothing.
use Prim.Native.Nat.{ℕ, zero, suc, ◌+◌, ◌-◌, ◌*◌, ◌≤◌, ◌<◌, min}
use mathlib.Core.Path.{◌≡◌, refl, sym, ap, ◌∙◌}
use mathlib.Core.Logic.{⊎_elim}
use mathlib.Core.List.{List, [], ◌∷◌, ◌++◌, map, append_assoc, append-nil}
use native.Mathlib.Nat.{add-zero, zero-add, eq-or-lt_of_le}
use native.Mathlib.Numerals.{add-one}
use native.Mathlib.Omega.{arith}
use lib.IntN.{pos}
use lib.Ieee.{Float, nan}
use lib.ListN.{length, get_or, length-append}
use Rattle.lent.specs.Listed.{listed, listed_to}
use Rattle.lent.proofs.Listed.{listed_same}
use Rattle.number_words.specs.Word.{word_of, signed_of}
use Rattle.number_words.proofs.Words.{signed_back}
use Rattle.shapes.specs.declared.profile.CircularProfile.{CircularProfile}
use Rattle.shapes.specs.declared.waypoint.Waypoint.{Waypoint}
use Rattle.table.specs.Obstacle.{Obstacle, boxed}
use Rattle.table.specs.Table.{
  obstacle_count,
  first_in,
  end_in,
  profile_in,
  limit_in,
  waypoint_in,
  waypoints_in,
  obstacle_in,
  obstacles_in,
}
use Rattle.table_packing.specs.Filling.{with_ends, with_profile, with_time, with_place}
use Rattle.table_packing.proofs.Filled as F
use Rattle.table_packing.proofs.Boxed.{map_listed}
use Rattle.table_packing.proofs.Tabled.{Row, row_obstacle}
use Rattle.request_format.specs.Bits.{number_at}
use Rattle.request_format.specs.Request.{Point, StreamObstacle}
use Rattle.request_format.specs.Format.{point_at, points_at, obstacle_at}
use Rattle.request_format.proofs.Counts.{length_own}
use Rattle.request_format.proofs.Digits.{number_lt}
use Rattle.request_reader.specs.Table.{double, request_waypoint, request_profile, obstacle_of, points_of}
use Rattle.request_reader.specs.Laid.{point_times, point_places, PutTable}

-- ---- The waypoints that are left after i of them.

pub points_done : (s : List ℕ) (at n i : ℕ) → n ≤ i → points_at s at (n - i) ≡ []
unfolding points_at
points_done s at n i h = let none : n - i ≡ 0 = omega arith in rw none

pub points_next : (s : List ℕ) (at n i : ℕ) → i < n →
    points_at s (at + 178 * i) (n - i) ≡ point_at s (at + 178 * i) ∷ points_at s (at + 178 * (i + 1)) (n - (i + 1))
unfolding points_at
points_next s at n i h =
    let more : n - i ≡ suc (n - (i + 1)) = omega arith in
    let behind : at + 178 * (i + 1) ≡ at + 178 * i + 178 = omega arith in
    rw (more, behind)

-- ---- Waypoints put one behind another: what none of them changes is as it was.

pub times_kept : {B : Type 0} (read : List ℕ → B) (points : List Point) (i : ℕ) (marks : List ℕ) →
    ((j : ℕ) (l : List ℕ) (w : Waypoint) → i ≤ j → read (with_time l j w) ≡ read l) → read (point_times points i marks) ≡ read marks
unfolding point_times
times_kept read [] i marks same = refl
times_kept read (p ∷ points) i marks same =
    times_kept read points (suc i) (with_time marks i (request_waypoint p)) (λ j l w h. same j l w (omega arith)) ∙
    same i marks (request_waypoint p) (omega arith)

pub places_kept : {B : Type 0} (read : List Float → B) (points : List Point) (i : ℕ) (places : List Float) →
    ((j : ℕ) (l : List Float) (w : Waypoint) → i ≤ j → read (with_place l j w) ≡ read l) →
    read (point_places points i places) ≡ read places
unfolding point_places
places_kept read [] i places same = refl
places_kept read (p ∷ points) i places same =
    places_kept read points (suc i) (with_place places i (request_waypoint p)) (λ j l w h. same j l w (omega arith)) ∙
    same i places (request_waypoint p) (omega arith)

-- A waypoint before them,
waypoint_kept : (points : List Point) (i : ℕ) (marks : List ℕ) (places : List Float) (k : ℕ) → k < i →
    waypoint_in (point_times points i marks) (point_places points i places) k ≡ waypoint_in marks places k
unfolding waypoint_in
waypoint_kept points i marks places k h =
    rw (
      times_kept (λ l. get_or l (min 287 k + 129) 0) points i marks (λ j l w r. F.time_kept l j w k (omega arith)),
      places_kept (λ l. get_or l (2 * min 287 k + 224) nan) points i places (λ j l w r. F.x_kept l j w k (omega arith)),
      places_kept (λ l. get_or l (2 * min 287 k + 225) nan) points i places (λ j l w r. F.y_kept l j w k (omega arith)),
    )

-- and each of them: a time of 50 bits is read as it was put.
waypoint_put : (marks : List ℕ) (places : List Float) (i : ℕ) (s : List ℕ) (at : ℕ) →
    i < 288 → length marks ≡ 417 → length places ≡ 800 →
    let w = request_waypoint (point_at s at) in
    waypoint_in (with_time marks i w) (with_place places i w) i ≡ w
unfolding waypoint_in point_at
waypoint_put marks places i s at h lm lp =
    let w = request_waypoint (point_at s at) in
    let back : signed_of (word_of (pos (number_at s at 50))) ≡ pos (number_at s at 50) =
    signed_back (pos (number_at s at 50)) (record { sfits = omega (arith, number_lt s at 50) }) in
    rw (F.time_here marks i w h lm, F.x_here places i w h lp, F.y_here places i w h lp, back)

waypoints_put : (s : List ℕ) (n at i : ℕ) (marks : List ℕ) (places : List Float) →
    i + n ≤ 288 → length marks ≡ 417 → length places ≡ 800 →
    let points = points_at s at n in
    listed (waypoint_in (point_times points i marks) (point_places points i places)) n i ≡ map request_waypoint points
unfolding points_at listed point_times point_places
waypoints_put s zero at i marks places room lm lp = refl
waypoints_put s (suc n) at i marks places room lm lp =
    let w = request_waypoint (point_at s at) in
    let rest = points_at s (at + 178) n in
    let m = with_time marks i w in
    let p = with_place places i w in
    let first = waypoint_kept rest (suc i) m p i (omega arith) ∙ waypoint_put marks places i s at (omega arith) lm lp in
    let on =
    waypoints_put s n (at + 178) (suc i) m p (omega arith) (F.time_long marks i w ∙ lm) (F.place_long places i w ∙ lp) in
    ap
    (λ x. x ∷ listed (waypoint_in (point_times rest (suc i) m) (point_places rest (suc i) p)) n (suc i))
    first ∙
    ap (λ l. w ∷ l) on

-- ---- One obstacle more.

-- An obstacle as it is read, with the box of its own waypoints and footprint.
abbrev pub read_at : List ℕ → List Float → ℕ → Obstacle
read_at marks places o = boxed (obstacle_in marks places o)

listed_last : {A : Type 0} (f : ℕ → A) (n i : ℕ) → listed f (suc n) i ≡ listed f n i ++ (f (i + n) ∷ [])
unfolding listed
listed_last f zero i = rw (add-zero i)
listed_last f (suc n) i =
    let next : suc i + n ≡ i + suc n = omega arith in
    ap (λ l. f i ∷ l) (listed_last f n (suc i) ∙ ap (λ k. listed f n (suc i) ++ (f k ∷ [])) next)

-- Row o, and behind `from` waypoints those of the obstacle at a place of a stream.
module _ (s : List ℕ) (at p o from : ℕ) (profile : CircularProfile) (limit : Float) (marks : List ℕ) (places : List Float)
    (row : o < 32) (room : from + p ≤ 288) (lm : length marks ≡ 417) (lp : length places ≡ 800) where
  abbrev points : List Point
  points = points_at s at p

  abbrev rowed : List ℕ
  rowed = with_ends marks o from (from + p)

  abbrev profiled : List Float
  profiled = with_profile places o profile limit

  abbrev marked : List ℕ
  marked = point_times points from rowed

  abbrev placed : List Float
  placed = point_places points from profiled

  pub marked_long : length marked ≡ 417
  marked_long =
      times_kept length points from rowed (λ j l w h. F.time_long l j w) ∙ F.ends_long marks o from (from + p) ∙ lm

  pub placed_long : length placed ≡ 800
  placed_long =
      places_kept length points from profiled (λ j l w h. F.place_long l j w) ∙ F.profile_long places o profile limit ∙ lp

  pub marked_count : obstacle_count marked ≡ obstacle_count marks
  marked_count =
      times_kept obstacle_count points from rowed (λ j l w h. F.count_kept_time l j w) ∙
      F.count_kept_ends marks o from (from + p)

  -- It is read there,
  pub row_put : Row marked placed o from (from + p) profile limit
  row_put =
      let begin : min 288 from ≡ from = omega arith in
      let end : min 288 (from + p) ≡ from + p = omega arith in
      record {
        begins =
            times_kept (λ l. first_in l o) points from rowed (λ j l w h. F.first_kept_time l j w o) ∙
            F.first_here marks o from (from + p) row lm ∙ begin;
        ends =
            times_kept (λ l. end_in l o) points from rowed (λ j l w h. F.end_kept_time l j w o) ∙
            F.end_here marks o from (from + p) row lm ∙ end;
        profiled =
            places_kept (λ l. profile_in l o) points from profiled (λ j l w h. F.profile_kept_place l j w o) ∙
            F.profile_here places o profile limit row lp;
        limited =
            places_kept (λ l. limit_in l o) points from profiled (λ j l w h. F.limit_kept_place l j w o) ∙
            F.limit_here places o profile limit row lp;
      }

  points_put : listed_to (waypoint_in marked placed) (from + p) from ≡ map request_waypoint points
  points_put =
      let many : (from + p) - from ≡ p = omega arith in
      rw many
      (waypoints_put s p at from rowed profiled room (F.ends_long marks o from (from + p) ∙ lm)
      (F.profile_long places o profile limit ∙ lp))

  -- and the obstacles before it stay, whose waypoints end before its own.
  module _ (q : ℕ) (before : q < o) where
    begins_kept : first_in marked q ≡ first_in marks q
    begins_kept =
        times_kept (λ l. first_in l q) points from rowed (λ j l w h. F.first_kept_time l j w q) ∙
        F.first_kept marks o from (from + p) q before

    pub ends_kept : end_in marked q ≡ end_in marks q
    ends_kept =
        times_kept (λ l. end_in l q) points from rowed (λ j l w h. F.end_kept_time l j w q) ∙
        F.end_kept marks o from (from + p) q before

    point_kept : (k : ℕ) → k < from → waypoint_in marked placed k ≡ waypoint_in marks places k
    unfolding waypoint_in
    point_kept k h =
        let spot = F.place_kept_profile places o profile limit k in
        waypoint_kept points from rowed profiled k h ∙
        rw (F.time_kept_ends marks o from (from + p) k, spot.0, spot.1)

    pub read_kept : end_in marks q ≤ from → read_at marked placed q ≡ read_at marks places q
    unfolding boxed waypoints_in
    read_kept end =
        let same : listed_to (waypoint_in marked placed) (end_in marks q) (first_in marks q) ≡
        listed_to (waypoint_in marks places) (end_in marks q) (first_in marks q) =
        listed_same (waypoint_in marked placed) (waypoint_in marks places) (end_in marks q - first_in marks q) (first_in marks q)
        (λ k l r. point_kept k (omega arith)) in
        rw (
          begins_kept,
          ends_kept,
          places_kept (λ l. profile_in l q) points from profiled (λ j l w h. F.profile_kept_place l j w q) ∙
              F.profile_kept places o profile limit q before,
          places_kept (λ l. limit_in l q) points from profiled (λ j l w h. F.limit_kept_place l j w q) ∙
              F.limit_kept places o profile limit q before,
          same,
        )

-- ---- A table in which o obstacles stand, with `from` waypoints in all.

pub record Placed (os rest : List StreamObstacle) (o from : ℕ) (marks : List ℕ) (places : List Float) : Type 0 where
  pub many : from + length (points_of rest) ≡ length (points_of os)
  pub counted : obstacle_count marks ≡ length os
  pub inside : (q : ℕ) → q < o → end_in marks q ≤ from
  pub read : listed (read_at marks places) o 0 ++ map obstacle_of rest ≡ map obstacle_of os
  pub long_marks : length marks ≡ 417
  pub long_places : length places ≡ 800

pub placed_first : (os : List StreamObstacle) (marks : List ℕ) (places : List Float) →
    obstacle_count marks ≡ length os → length marks ≡ 417 → length places ≡ 800 → Placed os os 0 0 marks places
unfolding listed
placed_first os marks places counted lm lp =
    record {
      many = omega arith;
      counted = counted;
      inside = λ q h. absurd (omega arith);
      read = refl;
      long_marks = lm;
      long_places = lp;
    }

module _ (s : List ℕ) (at p : ℕ) (count : p ≡ number_at s (at + 192) 9) {os rest : List StreamObstacle} {o from : ℕ} {marks : List ℕ}
    {places : List Float} (placed : Placed os (obstacle_at s at ∷ rest) o from marks places) (row : o < 32)
    (room : from + p ≤ 288) where
  abbrev profile : CircularProfile
  profile = request_profile (number_at s at 64) (number_at s (at + 64) 64)

  abbrev limit : Float
  limit = double (number_at s (at + 128) 64)

  abbrev marks' : List ℕ
  marks' = point_times (points_at s (at + 201) p) from (with_ends marks o from (from + p))

  abbrev places' : List Float
  places' = point_places (points_at s (at + 201) p) from (with_profile places o profile limit)

  own_row : Row marks' places' o from (from + p) profile limit
  own_row = row_put s (at + 201) p o from profile limit marks places row room placed.long_marks placed.long_places

  own_read : read_at marks' places' o ≡ obstacle_of (obstacle_at s at)
  unfolding obstacle_of obstacle_at
  own_read =
      let points = points_put s (at + 201) p o from profile limit marks places row room placed.long_marks placed.long_places in
      row_obstacle marks' places' (waypoint_in marks' places') o from (from + p) profile limit own_row (λ i l r. refl) ∙
      rw (points, count)

  inside_next : (q : ℕ) → q < o + 1 → end_in marks' q ≤ from + p
  inside_next q h =
      ⊎_elim
      (λ (e : q ≡ o). rw e (omega (arith, own_row.ends)))
      (λ (b : q < o).
      let same = ends_kept s (at + 201) p o from profile limit marks places row room placed.long_marks placed.long_places q b in
      omega (arith, same, placed.inside q b))
      (eq-or-lt_of_le (let z : q ≤ o = omega arith in z))

  read_next : listed (read_at marks' places') (o + 1) 0 ++ map obstacle_of rest ≡ map obstacle_of os
  read_next =
      let same : listed (read_at marks' places') o 0 ≡ listed (read_at marks places) o 0 =
      listed_same (read_at marks' places') (read_at marks places) o 0
      (λ q l r.
      read_kept s (at + 201) p o from profile limit marks places row room placed.long_marks placed.long_places q
      (omega arith) (placed.inside q (omega arith))) in
      let last : read_at marks' places' (0 + o) ≡ obstacle_of (obstacle_at s at) =
      ap (read_at marks' places') (zero-add o) ∙ own_read in
      rw (add-one o, listed_last (read_at marks' places') o 0, last, same, append_assoc) placed.read

  pub placed_next : Placed os rest (o + 1) (from + p) marks' places'
  unfolding points_of
  placed_next =
      record {
        many = omega (arith, length-append (obstacle_at s at).points (points_of rest), placed.many, length_own s at, count);
        counted = marked_count s (at + 201) p o from profile limit marks places row room placed.long_marks placed.long_places ∙
            placed.counted;
        inside = inside_next;
        read = read_next;
        long_marks = marked_long s (at + 201) p o from profile limit marks places row room placed.long_marks placed.long_places;
        long_places = placed_long s (at + 201) p o from profile limit marks places row room placed.long_marks placed.long_places;
      }

-- Behind the last obstacle the table is whole.
pub placed_last : {os : List StreamObstacle} {o from : ℕ} {marks : List ℕ} {places : List Float} →
    Placed os [] o from marks places → o ≡ length os → PutTable os marks places
unfolding obstacles_in
placed_last {o = o} {marks = marks} {places = places} placed all =
    let count : obstacle_count marks - 0 ≡ o = omega (arith, placed.counted) in
    record {
      obstacles = rw count
          (map_listed boxed (obstacle_in marks places) o 0 ∙ sym (append-nil (listed (read_at marks places) o 0)) ∙ placed.read);
      long = placed.long_places;
    }
