-- Lent lists that were packed stand in the table as they were lent.
-- Assumes nothing.
use Prim.Native.Nat.{ℕ, ◌+◌, ◌-◌, ◌*◌, ◌≤◌, ◌<◌, min}
use mathlib.Core.Path.{◌≡◌, refl, sym, ap, ◌∙◌}
use mathlib.Core.Bool.{Bool, true, false, ◌&&◌, cond}
use mathlib.Core.List.{List}
use native.Mathlib.Nat.{le_trans, lt_of_lt_of_le}
use native.Mathlib.Omega.{arith}
use borrow.Author.Tests.{leb-true}
use lib.Dec.{leb}
use lib.IntN.{ℤ, pos}
use lib.ListN.{length, get_or, replicate, length-set, length-replicate}
use lib.Ieee.{Float, nan}
use Rattle.floats.specs.Constants.{nought}
use Rattle.number_words.specs.Word.{word_of, signed_of}
use Rattle.times.proofs.Exact.{both}
use Rattle.shapes.specs.declared.profile.CircularProfile.{CircularProfile}
use Rattle.shapes.specs.declared.waypoint.Leg.{Leg}
use Rattle.shapes.specs.declared.waypoint.Waypoint.{Waypoint}
use Rattle.table.specs.Obstacle.{Obstacle}
use Rattle.table.specs.Lent.{Lent, start_in, profile_listed, limit_listed, waypoint_listed, waypoints_listed, obstacles_of}
use Rattle.table.specs.Examined.{is_laid, is_shaped, table_examined, agent_examined}
use Rattle.table.proofs.Shaped.{fine_table}
use Rattle.table.specs.Table.{obstacle_count, first_in, end_in, profile_in, limit_in, waypoint_in, obstacles_in}
use Rattle.table_packing.specs.Filling.{with_count, with_ends, with_profile, with_time, with_place}
use Rattle.table_packing.specs.Packing.{
  has_room_for,
  ends_put,
  profiles_put,
  times_put,
  places_put,
  packed_marks,
  packed_places,
  Packs,
}
use Rattle.table_packing.proofs.Stored.{put_kept, put_all_read}
use Rattle.table_packing.proofs.Filled as F
use Rattle.table_packing.proofs.Boxed.{boxed_obstacles}
use Rattle.table_packing.proofs.Tabled.{Row, rows_obstacles}
use Rattle.table_packing.proofs.Tiled.{starts_in_room, unpacked_refused}
use Rattle.std.specs.Prelude.{Result, Ok, Err}
use Rattle.refusals.specs.declared.Refusal.{Refusal}
use Rattle.refusals.specs.declared.Refusal.TheVariants as Refusals

-- ---- The ends of all obstacles, put into a list of marks.

module _ (starts : List ℕ) (count : ℕ) where
  abbrev start : ℕ → ℕ
  start = start_in starts count

  abbrev ends_at : ℕ → List ℕ → List ℕ
  ends_at o l = with_ends l o (start o) (start (o + 1))

  ends_long : (marks : List ℕ) → length (ends_put starts count marks) ≡ length marks
  unfolding ends_put
  ends_long marks =
      put_kept ends_at length (length starts - 0) 0 marks (λ o l h. F.ends_long l o (start o) (start (o + 1)))

  ends_count : (marks : List ℕ) → obstacle_count (ends_put starts count marks) ≡ obstacle_count marks
  unfolding ends_put
  ends_count marks =
      put_kept ends_at obstacle_count (length starts - 0) 0 marks (λ o l h. F.count_kept_ends l o (start o) (start (o + 1)))

  ends_first : (marks : List ℕ) (o : ℕ) → length marks ≡ 417 → length starts ≤ 32 → o < length starts →
      first_in (ends_put starts count marks) o ≡ min 288 (start o)
  unfolding ends_put
  ends_first marks o long few h =
      put_all_read ends_at (λ l. length l ≡ 417) (λ p l. first_in l p) (λ p. min 288 (start p)) 32
      (λ j l e. F.ends_long l j (start j) (start (j + 1)) ∙ e)
      (λ j l r e. F.first_here l j (start j) (start (j + 1)) r e)
      (λ p j l r. F.first_kept l j (start j) (start (j + 1)) p r)
      (length starts) marks o few h long

  ends_end : (marks : List ℕ) (o : ℕ) → length marks ≡ 417 → length starts ≤ 32 → o < length starts →
      end_in (ends_put starts count marks) o ≡ min 288 (start (o + 1))
  unfolding ends_put
  ends_end marks o long few h =
      put_all_read ends_at (λ l. length l ≡ 417) (λ p l. end_in l p) (λ p. min 288 (start (p + 1))) 32
      (λ j l e. F.ends_long l j (start j) (start (j + 1)) ∙ e)
      (λ j l r e. F.end_here l j (start j) (start (j + 1)) r e)
      (λ p j l r. F.end_kept l j (start j) (start (j + 1)) p r)
      (length starts) marks o few h long

-- ---- Their profiles and conflict distances, put into a list of places.

module _ (starts : List ℕ) (numbers : List Float) where
  abbrev profile_at : ℕ → List Float → List Float
  profile_at o l = with_profile l o (profile_listed numbers o) (limit_listed numbers o)

  profiles_long : (places : List Float) → length (profiles_put starts numbers places) ≡ length places
  unfolding profiles_put
  profiles_long places =
      put_kept profile_at length (length starts - 0) 0 places
      (λ o l h. F.profile_long l o (profile_listed numbers o) (limit_listed numbers o))

  profiles_read : (places : List Float) (o : ℕ) → length places ≡ 800 → length starts ≤ 32 → o < length starts →
      profile_in (profiles_put starts numbers places) o ≡ profile_listed numbers o
  unfolding profiles_put
  profiles_read places o long few h =
      put_all_read profile_at (λ l. length l ≡ 800) (λ p l. profile_in l p) (profile_listed numbers) 32
      (λ j l e. F.profile_long l j (profile_listed numbers j) (limit_listed numbers j) ∙ e)
      (λ j l r e. F.profile_here l j (profile_listed numbers j) (limit_listed numbers j) r e)
      (λ p j l r. F.profile_kept l j (profile_listed numbers j) (limit_listed numbers j) p r)
      (length starts) places o few h long

  limits_read : (places : List Float) (o : ℕ) → length places ≡ 800 → length starts ≤ 32 → o < length starts →
      limit_in (profiles_put starts numbers places) o ≡ limit_listed numbers o
  unfolding profiles_put
  limits_read places o long few h =
      put_all_read profile_at (λ l. length l ≡ 800) (λ p l. limit_in l p) (limit_listed numbers) 32
      (λ j l e. F.profile_long l j (profile_listed numbers j) (limit_listed numbers j) ∙ e)
      (λ j l r e. F.limit_here l j (profile_listed numbers j) (limit_listed numbers j) r e)
      (λ p j l r. F.limit_kept l j (profile_listed numbers j) (limit_listed numbers j) p r)
      (length starts) places o few h long

-- ---- The waypoints, put into both.

module _ (times : List ℤ) (xs ys : List Float) where
  abbrev point : ℕ → Waypoint
  point = waypoint_listed times xs ys

  abbrev time_at : ℕ → List ℕ → List ℕ
  time_at i l = with_time l i (point i)

  abbrev place_at : ℕ → List Float → List Float
  place_at i l = with_place l i (point i)

  -- What no waypoint changes is as it was,
  times_kept : {B : Type 0} (read : List ℕ → B) (marks : List ℕ) →
      ((i : ℕ) (l : List ℕ) (w : Waypoint) → read (with_time l i w) ≡ read l) → read (times_put times xs ys marks) ≡ read marks
  unfolding times_put
  times_kept read marks same = put_kept time_at read (length times - 0) 0 marks (λ i l h. same i l (point i))

  places_kept : {B : Type 0} (read : List Float → B) (places : List Float) →
      ((i : ℕ) (l : List Float) (w : Waypoint) → read (with_place l i w) ≡ read l) → read (places_put times xs ys places) ≡ read places
  unfolding places_put
  places_kept read places same = put_kept place_at read (length times - 0) 0 places (λ i l h. same i l (point i))

  -- and each waypoint is read.
  module _ (i : ℕ) (few : length times ≤ 288) (h : i < length times) where
    times_read : (marks : List ℕ) → length marks ≡ 417 →
        get_or (times_put times xs ys marks) (min 287 i + 129) 0 ≡ word_of (get_or times i (pos 0))
    unfolding times_put
    times_read marks long =
        put_all_read time_at (λ l. length l ≡ 417) (λ j l. get_or l (min 287 j + 129) 0) (λ j. word_of (get_or times j (pos 0))) 288
        (λ j l e. F.time_long l j (point j) ∙ e)
        (λ j l r e. F.time_here l j (point j) r e)
        (λ p j l r. F.time_kept l j (point j) p r)
        (length times) marks i few h long

    xs_read : (places : List Float) → length places ≡ 800 →
        get_or (places_put times xs ys places) (2 * min 287 i + 224) nan ≡ get_or xs i nought
    unfolding places_put
    xs_read places long =
        put_all_read place_at (λ l. length l ≡ 800) (λ j l. get_or l (2 * min 287 j + 224) nan) (λ j. get_or xs j nought) 288
        (λ j l e. F.place_long l j (point j) ∙ e)
        (λ j l r e. F.x_here l j (point j) r e)
        (λ p j l r. F.x_kept l j (point j) p r)
        (length times) places i few h long

    ys_read : (places : List Float) → length places ≡ 800 →
        get_or (places_put times xs ys places) (2 * min 287 i + 225) nan ≡ get_or ys i nought
    unfolding places_put
    ys_read places long =
        put_all_read place_at (λ l. length l ≡ 800) (λ j l. get_or l (2 * min 287 j + 225) nan) (λ j. get_or ys j nought) 288
        (λ j l e. F.place_long l j (point j) ∙ e)
        (λ j l r e. F.y_here l j (point j) r e)
        (λ p j l r. F.y_kept l j (point j) p r)
        (length times) places i few h long

-- ---- The whole table, where there is room.

module _ (lent : Lent) where
  abbrev counted : List ℕ
  counted = with_count (replicate 417 0) (length lent.starts)

  abbrev rowed : List ℕ
  rowed = ends_put lent.starts (length lent.times) counted

  abbrev profiled : List Float
  profiled = profiles_put lent.starts lent.numbers (replicate 800 nought)

  abbrev placed : List Float
  placed = places_put lent.times lent.xs lent.ys profiled

  counted_long : length counted ≡ 417
  counted_long = length-set (replicate 417 0) 0 (length lent.starts) ∙ length-replicate {A = ℕ} 417 0

  rowed_long : length rowed ≡ 417
  rowed_long = ends_long lent.starts (length lent.times) counted ∙ counted_long

  profiled_long : length profiled ≡ 800
  profiled_long = profiles_long lent.starts lent.numbers (replicate 800 nought) ∙ length-replicate 800 nought

  placed_long : length placed ≡ 800
  placed_long =
      places_kept lent.times lent.xs lent.ys length profiled (λ i l w. F.place_long l i w) ∙ profiled_long

  packed_count : length lent.starts ≤ 32 → obstacle_count (packed_marks lent) ≡ length lent.starts
  unfolding packed_marks
  packed_count few =
      times_kept lent.times lent.xs lent.ys obstacle_count rowed (λ i l w. F.count_kept_time l i w) ∙
      ends_count lent.starts (length lent.times) counted ∙
      F.count_here (replicate 417 0) (length lent.starts) (length-replicate {A = ℕ} 417 0) few

  module _ (few : length lent.starts ≤ 32) (few_points : length lent.times ≤ 288) where
    abbrev count : ℕ
    count = length lent.times

    packed_row : (o : ℕ) → o < length lent.starts →
        start_in lent.starts count o ≤ 288 → start_in lent.starts count (o + 1) ≤ 288 →
        Row (packed_marks lent) placed o (start_in lent.starts count o) (start_in lent.starts count (o + 1))
        (profile_listed lent.numbers o) (limit_listed lent.numbers o)
    unfolding packed_marks
    packed_row o h begin end =
        let s = lent.starts in
        let here : min 288 (start_in s count o) ≡ start_in s count o = omega arith in
        let next : min 288 (start_in s count (o + 1)) ≡ start_in s count (o + 1) = omega arith in
        record {
          begins =
              times_kept lent.times lent.xs lent.ys (λ l. first_in l o) rowed (λ i l w. F.first_kept_time l i w o) ∙
              ends_first s count counted o counted_long few h ∙ here;
          ends =
              times_kept lent.times lent.xs lent.ys (λ l. end_in l o) rowed (λ i l w. F.end_kept_time l i w o) ∙
              ends_end s count counted o counted_long few h ∙ next;
          profiled =
              places_kept lent.times lent.xs lent.ys (λ l. profile_in l o) profiled
              (λ i l w. F.profile_kept_place l i w o) ∙
              profiles_read s lent.numbers (replicate 800 nought) o (length-replicate 800 nought) few h;
          limited =
              places_kept lent.times lent.xs lent.ys (λ l. limit_in l o) profiled
              (λ i l w. F.limit_kept_place l i w o) ∙
              limits_read s lent.numbers (replicate 800 nought) o (length-replicate 800 nought) few h;
        }

    packed_waypoint : (i : ℕ) → i < count → signed_of (word_of (get_or lent.times i (pos 0))) ≡ get_or lent.times i (pos 0) →
        waypoint_in (packed_marks lent) placed i ≡ waypoint_listed lent.times lent.xs lent.ys i
    unfolding packed_marks waypoint_in
    packed_waypoint i h whole =
        rw (
          times_read lent.times lent.xs lent.ys i few_points h rowed rowed_long,
          xs_read lent.times lent.xs lent.ys i few_points h profiled profiled_long,
          ys_read lent.times lent.xs lent.ys i few_points h profiled profiled_long,
          whole,
        )

  -- So the obstacles that stand in the table are those that were lent.
  packed : has_room_for lent ≡ true →
      ((i : ℕ) → signed_of (word_of (get_or lent.times i (pos 0))) ≡ get_or lent.times i (pos 0)) →
      obstacles_in (packed_marks lent) (packed_places lent) ≡ obstacles_of lent
  unfolding has_room_for packed_places obstacles_of waypoints_listed
  packed room whole =
      let n = length lent.starts in
      let end = length lent.times in
      let first = both (leb n 32) (leb end 288 && is_laid lent) room in
      let second = both (leb end 288) (is_laid lent) first.1 in
      let few = leb-true n 32 first.0 in
      let points = leb-true end 288 second.0 in
      let starts : (o : ℕ) → o ≤ n → start_in lent.starts end o ≤ end = starts_in_room lent second.1 in
      boxed_obstacles (packed_marks lent) placed placed_long ∙
      rows_obstacles
      (packed_marks lent)
      placed
      n
      (waypoint_listed lent.times lent.xs lent.ys)
      (start_in lent.starts end)
      (λ o. start_in lent.starts end (o + 1))
      (profile_listed lent.numbers)
      (limit_listed lent.numbers)
      (packed_count few)
      (λ o h.
      packed_row few points o h (le_trans (starts o (omega arith)) points) (le_trans (starts (o + 1) (omega arith)) points))
      (λ o i h from to.
      packed_waypoint few points i (lt_of_lt_of_le to (starts (o + 1) (omega arith))) (whole i))

-- ---- What `pack` leaves.

-- Where there was room, the lists fit one another.
pub room_laid : (lent : Lent) → has_room_for lent ≡ true → is_laid lent ≡ true
unfolding has_room_for
room_laid lent e =
    let laid = (both (leb (length lent.starts) 32) (leb (length lent.times) 288 && is_laid lent) e).1 in
    (both (leb (length lent.times) 288) (is_laid lent) laid).1

refused_shape : (laid : Bool) (p : CircularProfile) (leg : Leg) (os : List Obstacle) →
    (laid && is_shaped os) ≡ false → table_examined laid p leg os ≡ Err Refusals.Shape
unfolding table_examined
refused_shape laid p leg os e = rw e

pub packed_obstacles : (lent : Lent) (marks : List ℕ) (places : List Float) (r : Bool) →
    Packs lent marks places r → r ≡ true → obstacles_in marks places ≡ obstacles_of lent
packed_obstacles lent marks places r packs had =
    let room : has_room_for lent ≡ true = sym packs.room ∙ had in
    let m : marks ≡ packed_marks lent =
    packs.marked ∙ ap (λ (t : Bool). cond t (packed_marks lent) (replicate 417 0)) room in
    let p : places ≡ packed_places lent =
    packs.placed ∙ ap (λ (t : Bool). cond t (packed_places lent) (replicate 800 nought)) room in
    rw (m, p) (packed lent room (packs.whole room))

-- Its examination is the lists' own,
pub packed_examined : (lent : Lent) (marks : List ℕ) (places : List Float) (r : Bool) (p : CircularProfile) (leg : Leg) →
    Packs lent marks places r → table_examined r p leg (obstacles_in marks places) ≡ agent_examined p leg lent
unfolding agent_examined
packed_examined lent marks places r p leg packs = by (has_room_for lent) refl
  where
    by : (t : Bool) → has_room_for lent ≡ t →
        table_examined r p leg (obstacles_in marks places) ≡ table_examined (is_laid lent) p leg (obstacles_of lent)
    by true e =
        let had = packs.room ∙ e in
        rw (packed_obstacles lent marks places r packs had, had, room_laid lent e)
    by false e = refused_shape r p leg (obstacles_in marks places) (rw (packs.room ∙ e)) ∙
        sym (refused_shape (is_laid lent) p leg (obstacles_of lent) (unpacked_refused lent e))

-- and where it is fine, the obstacles are those that were lent.
pub packed_fine : (lent : Lent) (marks : List ℕ) (places : List Float) (r : Bool) (p : CircularProfile) (leg : Leg) →
    Packs lent marks places r → table_examined r p leg (obstacles_in marks places) ≡ Ok tt →
    obstacles_in marks places ≡ obstacles_of lent
packed_fine lent marks places r p leg packs fine =
    packed_obstacles lent marks places r packs (fine_table r p leg (obstacles_in marks places) fine).0

-- What a call that packs a table and has it examined cites.
pub ruleset packed_table = (packed_examined, packed_fine)
