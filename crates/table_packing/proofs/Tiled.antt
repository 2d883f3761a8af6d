-- Starts that tile the waypoints: none lies past the count, and the count is at most one more for each obstacle than the legs.
-- Assumes nothing.
use Prim.Native.Nat.{ℕ, zero, suc, ◌+◌, ◌-◌, ◌*◌, ◌≤◌, ◌<◌}
use mathlib.Core.Path.{◌≡◌, refl, ap, ◌∙◌}
use mathlib.Core.Bool.{Bool, true, false, ◌&&◌}
use mathlib.Core.Logic.{⊎_elim}
use native.Mathlib.Nat.{eq-or-lt_of_le, le_refl, le_trans}
use native.Mathlib.Numerals.{add-one}
use native.Mathlib.Omega.{arith}
use borrow.Author.Tests.{leb-true, le-leb, eqb-true}
use lib.Dec.{leb, eqb}
use lib.ListN.{length, get_or-eq_default}
use Rattle.lent.specs.Listed.{listed, every}
use Rattle.times.proofs.Exact.{both}
use Rattle.table.specs.Obstacle.{legs_of}
use Rattle.table.specs.Lent.{Lent, start_in, waypoint_listed, waypoints_listed, obstacle_listed, obstacles_of}
use Rattle.table.specs.Examined.{tiles, is_laid, legs_in_all, is_few, is_shaped}
use Rattle.table.proofs.Counting.{obstacles_count}
use Rattle.table.proofs.Legs.{legs_count}
use Rattle.table.proofs.Shaped.{shaped_few, few_obstacles, few_legs}
use Rattle.table_packing.specs.Packing.{has_room_for}

-- ---- Starts that never fall.

abbrev rises : (ℕ → ℕ) → ℕ → Bool
rises st o = leb (st o) (st (o + 1))

-- Each of those that rise,
each_rises : (st : ℕ → ℕ) (n i o : ℕ) → every (rises st) (listed (λ j. j) n i) ≡ true → i ≤ o → o < i + n → st o ≤ st (o + 1)
unfolding listed every
each_rises st zero i o e l r = absurd (omega arith)
each_rises st (suc n) i o e l r =
    let here = both (rises st i) (every (rises st) (listed (λ j. j) n (suc i))) e in
    ⊎_elim
    (λ (s : i ≡ o). rw (← s) (leb-true (st i) (st (i + 1)) here.0))
    (λ (s : i < o). each_rises st n (suc i) o here.1 (omega arith) (omega arith))
    (eq-or-lt_of_le l)

-- so none is past the last.
none_past : (st : ℕ → ℕ) (end : ℕ) → ((o : ℕ) → o < end → st o ≤ st (o + 1)) → (k o : ℕ) → o + k ≡ end → st o ≤ st end
none_past st end rise zero o e = let same : o ≡ end = omega arith in rw same (le_refl (st end))
none_past st end rise (suc k) o e = le_trans (rise o (omega arith)) (none_past st end rise k (o + 1) (omega arith))

-- ---- Lists that fit one another.

module _ (lent : Lent) where
  abbrev start : ℕ → ℕ
  start = start_in lent.starts (length lent.times)

  laid_tiles : is_laid lent ≡ true → tiles lent.starts (length lent.times) ≡ true
  unfolding is_laid
  laid_tiles e =
      let count = length lent.times in
      let threes = eqb (length lent.numbers) (3 * length lent.starts) in
      let all = tiles lent.starts count in
      let ys = eqb (length lent.ys) count in
      (both threes all (both ys (threes && all) (both (eqb (length lent.xs) count) (ys && (threes && all)) e).1).1).1

  last_start : start (length lent.starts) ≡ length lent.times
  last_start = get_or-eq_default lent.starts (length lent.times) {n = length lent.starts} (le_refl (length lent.starts))

  pub starts_in_room : is_laid lent ≡ true → (o : ℕ) → o ≤ length lent.starts → start o ≤ length lent.times
  unfolding tiles
  starts_in_room e o h =
      let n = length lent.starts in
      let count = length lent.times in
      let rise = (both (eqb (start 0) 0) (every (rises start) (listed (λ j. j) (n - 0) 0)) (laid_tiles e)).1 in
      let past = none_past start n (λ p r. each_rises start (n - 0) 0 p rise (omega arith) (omega arith)) (n - o) o (omega arith) in
      rw last_start at past

  -- ---- How many waypoints there are.

  counted_to : (n o : ℕ) → start (o + n) ≤ start o + n + legs_in_all (listed (obstacle_listed lent) n o)
  unfolding listed legs_in_all waypoints_listed
  counted_to zero o = let same : o + 0 ≡ o = omega arith in rw same (omega arith)
  counted_to (suc n) o =
      let rest = counted_to n (suc o) in
      let same : suc o + n ≡ o + suc n = omega arith in
      let legs = legs_count (waypoint_listed lent.times lent.xs lent.ys) (start (o + 1)) (start o) in
      let more : start (suc o + n) ≤ start o + suc n +
      (length (legs_of (waypoints_listed lent o)) + legs_in_all (listed (obstacle_listed lent) n (suc o))) =
      omega (arith, rest, legs, ap start (add-one o)) in
      rw same at more

  pub few_waypoints : is_laid lent ≡ true → is_few (obstacles_of lent) ≡ true → length lent.times ≤ 288
  unfolding tiles obstacles_of
  few_waypoints e few =
      let n = length lent.starts in
      let os = obstacles_of lent in
      let first = (both (eqb (start 0) 0) (every (rises start) (listed (λ j. j) (n - 0) 0)) (laid_tiles e)).0 in
      let begin : start 0 ≡ 0 = eqb-true (start 0) 0 first in
      let all = counted_to (n - 0) 0 in
      let same : 0 + (n - 0) ≡ n = omega arith in
      let end : start (0 + (n - 0)) ≡ length lent.times = ap start same ∙ last_start in
      omega (arith, all, begin, end, few_obstacles os few, few_legs os few, obstacles_count lent)

-- Lists that were lent for more than the table has room for are refused for their shape.
pub unpacked_refused : (lent : Lent) → has_room_for lent ≡ false → (is_laid lent && is_shaped (obstacles_of lent)) ≡ false
unfolding has_room_for
unpacked_refused lent e = by (is_laid lent) (is_shaped (obstacles_of lent)) refl refl
  where
    by : (laid shaped : Bool) → is_laid lent ≡ laid → is_shaped (obstacles_of lent) ≡ shaped → (laid && shaped) ≡ false
    by false shaped l s = refl
    by true false l s = refl
    by true true l s =
        let few = shaped_few (obstacles_of lent) s in
        let obstacles : length lent.starts ≤ 32 = omega (arith, few_obstacles (obstacles_of lent) few, obstacles_count lent) in
        rw (le-leb _ _ obstacles, le-leb _ _ (few_waypoints lent l few), l) at e
