-- The legs behind the search: what proximity (RULES, section 8) gives of a leg that is seen from a place, and what the legs of an
-- accepted table are to the search.
-- Assumes nothing.
use Prim.Native.Nat.{◌+◌, ◌^◌}
use mathlib.Core.Path.{◌≡◌, refl}
use mathlib.Core.Logic.{⊎_elim}
use mathlib.Core.Bool.{true, true≢false, ◌&&◌}
use mathlib.Core.List.{List, [], ◌∷◌}
use native.Mathlib.Omega.{arith}
use borrow.Author.Tests.{le-leb}
use lib.Dec.{leb→le}
use lib.IntN.{ℤ, pos, negsuc, ◌+ℤ◌}
use lib.Signed.{◌≤ℤ◌, clash_ℤ}
use lib.Ieee.{Float}
use Rattle.lent.specs.Listed.{every}
use Rattle.floats.proofs.Tests.{passed}
use Rattle.times.specs.Time.{is_exact, instant_after}
use Rattle.times.specs.declared.time.TimePoint.{TimePoint}
use Rattle.times.proofs.Integers.{below→at-most, at_most_trans}
use Rattle.times.proofs.Order.{chosen_has}
use Rattle.times.proofs.Exact.{both}
use Rattle.shapes.specs.Distance.{critical_distance_squared}
use Rattle.domain.specs.Domain.{is_time, is_limit, is_waypoint, is_leg, is_profile}
use Rattle.shapes.specs.Leg.{is_rising}
use Rattle.shapes.specs.declared.profile.CircularProfile.{CircularProfile}
use Rattle.shapes.specs.declared.waypoint.Leg.{Leg}
use Rattle.shapes.specs.declared.waypoint.Waypoint.{Waypoint}
use Rattle.domain.proofs.Within.{leg_start, leg_end, waypoint_time, waypoint_x, waypoint_y, time_not_below, time_at_most}
use Rattle.domain.proofs.Within.{critical_squared_limit}
use Rattle.proximity.specs.Range.{range_start, range_end}
use Rattle.proximity.specs.declared.detect.Proximity.TheVariants as P
use Rattle.proximity.proofs.Holding.{starts, ends}
use Rattle.proximity.proofs.Times.{early_below, refuses_early, after_both_starts}
use Rattle.proximity.proofs.OnDomain.{InRange, proximity_in_range}
use Rattle.table.specs.Obstacle.{Obstacle, legs_from, legs_of}
use Rattle.table.proofs.Accepted.{is_driven, is_fit}
use Rattle.arrival_search.specs.Sweeps.{All, Early, Fair, Joined, Ruled, Refuses}
use Rattle.arrival_search.proofs.Lists.{all_of}
use Rattle.arrival_legs.specs.Watched.{Watched, watched, standing_leg, near_of, view_at, watched_legs, watched_all}
use Rattle.std.specs.Prelude.{Ok, Err}
use Rattle.times.specs.Time.{strayed}
use Rattle.refusals.specs.declared.Refusal.{Refusal}
use Rattle.refusals.specs.declared.Refusal.TheVariants as Refusals

-- ---- Any leg.

module _ (g : Waypoint) where
  -- It is refused by a number below 8 (RULES 4.1, 4.5 to 4.7).
  pub early : (w : Watched) → Early (view_at g) w
  unfolding near_of
  early w why e = early_below (refuses_early w.limit (standing_leg g w.leg) w.leg e)

  pub all_early : (os : List (List Watched)) → All (All (Early (view_at g))) os
  all_early os = all_of (All (Early (view_at g))) (λ o. all_of (Early (view_at g)) early o) os

  -- Its exit is not before its start (RULES 8.4, 8.18).
  pub fair : (w : Watched) → w.leg.start.time.0 ≤ℤ w.leg.end.time.0 → Fair (view_at g) w
  unfolding near_of
  fair w rises =
      record {
        rises = rises;
        exit_after_start = λ enter exit e.
            (rw e at (after_both_starts w.limit (standing_leg g w.leg) w.leg).1).1;
      }

  joined : (limit : Float) (v w : Waypoint) (ws : List Waypoint) →
      Joined (view_at g) (watched limit (record { start = v; end = w })) (watched_legs limit (legs_from w ws))
  unfolding watched_legs
  joined limit v w [] = tt
  joined limit v w (u ∷ ws) = refl

  ruled_from : (limit : Float) (w : Waypoint) (ws : List Waypoint) → every is_rising (legs_from w ws) ≡ true →
      Ruled (view_at g) (watched_legs limit (legs_from w ws))
  unfolding watched_legs every is_rising
  ruled_from limit w [] e = tt
  ruled_from limit w (v ∷ vs) e =
      let leg : Leg = record { start = w; end = v } in
      let rises = both (is_rising leg) (every is_rising (legs_from v vs)) e in (
        fair (watched limit leg) (below→at-most _ _ (passed rises.0)),
        (joined limit w v vs, ruled_from limit v vs rises.1),
      )

  -- The legs of a trajectory whose times rise follow one another (RULES 3.6).
  pub ruled : (limit : Float) (ws : List Waypoint) → every is_rising (legs_of ws) ≡ true →
      Ruled (view_at g) (watched_legs limit (legs_of ws))
  unfolding legs_of watched_legs
  ruled limit [] e = tt
  ruled limit (w ∷ ws) e = ruled_from limit w ws e

-- ---- A leg of the table that ends after it starts, seen from a place of the table.

reach : (z : ℤ) → pos 0 ≤ℤ z → z ≤ℤ pos (10 ^ 15) →
    (is_exact z && (is_exact (pos 10_000) && is_exact (z +ℤ pos 10_000))) ≡ true
unfolding is_exact
reach (pos n) low high =
    let few = leb→le n (10 ^ 15) high.le in
    rw (le-leb n (2 ^ 53) (omega arith), le-leb (n + 10_000) (2 ^ 53) (omega arith))
reach (negsuc n) low high = absurd low.le

-- 10,000 ns after an instant of the table are in reach (RULES 3.1, 4.7).
not_strayed : (t : TimePoint) → pos 0 ≤ℤ t.0 → t.0 ≤ℤ pos (10 ^ 15) →
    instant_after t (record { 0 = pos 10_000 }) ≡ strayed → ⊥
unfolding instant_after
not_strayed t low high e = true≢false (cc (rw (reach t.0 low high) at e))

module _ (g : Waypoint) (limit : Float) (leg : Leg)
    (placed : is_waypoint g ≡ true) (limited : is_limit limit ≡ true) (driven : is_driven leg ≡ true) where
  abbrev stand : Leg
  stand = standing_leg g leg

  own : is_leg leg ≡ true
  own = (both (is_leg leg) (is_rising leg) driven).0

  rises : leg.start.time.0 ≤ℤ leg.end.time.0
  unfolding is_rising
  rises = below→at-most _ _ (passed (both (is_leg leg) (is_rising leg) driven).1)

  began : is_time leg.start.time ≡ true
  began = waypoint_time leg.start (leg_start leg own)

  ended : is_time leg.end.time ≡ true
  ended = waypoint_time leg.end (leg_end leg own)

  stands : is_leg (standing_leg g leg) ≡ true
  unfolding standing_leg is_leg is_waypoint
  stands = rw (began, ended, waypoint_x g placed, waypoint_y g placed)

  in_order : (range_start stand leg).0 ≤ℤ (range_end stand leg).0
  unfolding standing_leg
  in_order =
      let start = chosen_has (λ t. t.0 ≤ℤ leg.end.time.0) (starts stand leg) rises rises in
      chosen_has (λ t. (range_start stand leg).0 ≤ℤ t.0) (ends stand leg) start start

  ranged : InRange (range_start stand leg) (range_end stand leg) (near_of g limit leg)
  unfolding near_of
  ranged = proximity_in_range limit stand leg limited stands own

  -- It is refused by 5 only (RULES 8.13), and 10,000 ns after its exit are in reach.
  pub creeps : Refuses (view_at g) (λ why. why ≡ Refusals.Creep) (watched limit leg)
  creeps = record { own = only; reach = λ enter exit e strayed. absurd (is_exact_law enter exit e strayed) }
    where
      only : (why : Refusal) → near_of g limit leg ≡ Err why → why ≡ Refusals.Creep
      only why e = ⊎_elim (λ five. five) (λ gap. clash_ℤ gap.1 in_order) (rw e at ranged)

      is_exact_law : (enter exit : TimePoint) → near_of g limit leg ≡ Ok (P.Passes enter exit) →
          instant_after exit (record { 0 = pos 10_000 }) ≡ strayed → ⊥
      is_exact_law enter exit e =
          let within = rw e at ranged in
          let low = at_most_trans _ _ _ (at_most_trans _ _ _ (time_not_below _ began) (starts stand leg).second) within.0 in
          let high = at_most_trans _ _ _ within.2 (at_most_trans _ _ _ (ends stand leg).second (time_at_most _ ended)) in
          not_strayed exit (at_most_trans _ _ _ low within.1) high

-- ---- The legs of accepted obstacles (RULES 3.1 to 3.6).

driven_rise : (legs : List Leg) → every is_driven legs ≡ true → every is_rising legs ≡ true
unfolding every
driven_rise [] e = refl
driven_rise (leg ∷ legs) e =
    let here = both (is_driven leg) (every is_driven legs) e in
    rw (both (is_leg leg) (is_rising leg) here.0).1 (driven_rise legs here.1)

module _ (g : Waypoint) (p : CircularProfile) where
  -- Those of each obstacle follow one another,
  pub all_ruled : (os : List Obstacle) → every is_fit os ≡ true → All (Ruled (view_at g)) (watched_all p os)
  unfolding every watched_all
  all_ruled [] e = tt
  all_ruled (o ∷ os) e =
      let here = both (is_fit o) (every is_fit os) e in
      let legs = legs_of o.waypoints in
      let driven = (both (is_profile o.profile) (every is_driven legs) here.0).1 in
      (ruled g (critical_distance_squared p o.profile) o.waypoints (driven_rise legs driven), all_ruled os here.1)

  module _ (placed : is_waypoint g ≡ true) (sized : is_profile p ≡ true) where
    legs_creep : (limit : Float) → is_limit limit ≡ true → (legs : List Leg) → every is_driven legs ≡ true →
        All (Refuses (view_at g) (λ why. why ≡ Refusals.Creep)) (watched_legs limit legs)
    unfolding every watched_legs
    legs_creep limit limited [] e = tt
    legs_creep limit limited (leg ∷ legs) e =
        let here = both (is_driven leg) (every is_driven legs) e in
        (creeps g limit leg placed limited here.0, legs_creep limit limited legs here.1)

    -- and are refused by 5 only.
    pub all_creep : (os : List Obstacle) → every is_fit os ≡ true →
        All (All (Refuses (view_at g) (λ why. why ≡ Refusals.Creep))) (watched_all p os)
    unfolding every watched_all
    all_creep [] e = tt
    all_creep (o ∷ os) e =
        let here = both (is_fit o) (every is_fit os) e in
        let legs = legs_of o.waypoints in
        let fit = both (is_profile o.profile) (every is_driven legs) here.0 in
        let limited = critical_squared_limit p o.profile sized fit.0 in
        (legs_creep (critical_distance_squared p o.profile) limited legs fit.1, all_creep os here.1)
