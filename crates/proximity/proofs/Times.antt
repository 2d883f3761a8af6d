-- The instants and the refusals of proximity (RULES 8.4, 8.18 to 8.20): no entry and no exit is before the range's start, the
-- only refusals are 1, 5, 6 and 7, and an entry strictly inside both legs comes from a range that is not short (RULES 9.11).
-- Assumes nothing.
use mathlib.Core.Path.{◌≡◌}
use mathlib.Core.Bool.{true, true≢false}
use Prim.Native.Nat.{◌<◌}
use lib.Dec.{lit<}
use lib.Signed.{◌≤ℤ◌}
use lib.Ieee.{Float}
use Rattle.times.specs.declared.time.TimePoint.{TimePoint}
use Rattle.times.proofs.Integers.{at_most_trans}
use Rattle.shapes.specs.Leg.{is_inside}
use Rattle.shapes.specs.declared.waypoint.Leg.{Leg}
use Rattle.proximity.specs.Range.{range_start}
use Rattle.proximity.specs.Proximity.{proximity_of, entry_of}
use Rattle.proximity.specs.declared.detect.Proximity.{Proximity}
use Rattle.proximity.specs.declared.detect.Proximity.TheVariants.{Never, Enters, Passes}
use Rattle.proximity.proofs.Holding.{starts, in_range, end_not_inside}
use Rattle.proximity.proofs.Short.{Long}
use Rattle.proximity.proofs.Origins.{Reached, Origin, origin}
use Rattle.proximity.proofs.Origins.{nothing, at_end, enters, passes, rootless, creeping, apart, lost}
use Rattle.std.specs.Prelude.{Result, Ok, Err}
use Rattle.refusals.specs.declared.Refusal.{Refusal}
use Rattle.std.specs.Prelude.{Some}
use Rattle.refusals.specs.declared.Refusal.TheVariants as Refusals
use Rattle.refusals.specs.Names.{refusal_number}

-- ---- Instants.

abbrev pub NotBefore : TimePoint → Result Proximity Refusal → Type 0
NotBefore t0 (Ok Never) = Unit {0}
NotBefore t0 (Ok (Enters t)) = t0.0 ≤ℤ t.0
NotBefore t0 (Ok (Passes t u)) = (t0.0 ≤ℤ t.0) × (t0.0 ≤ℤ u.0)
NotBefore t0 (Err why) = Unit {0}

pub not_before : (limit : Float) (agent obstacle : Leg) →
    NotBefore (range_start agent obstacle) (proximity_of limit agent obstacle)
not_before limit agent obstacle = by (origin limit agent obstacle)
  where
    by : {p : Result Proximity Refusal} → Origin limit agent obstacle p → NotBefore (range_start agent obstacle) p
    by nothing = tt
    by (at_end e h k) = (in_range agent obstacle h k).0
    by (enters r) = r.since.not_before
    by (passes r s) = (r.since.not_before, s.since.not_before)
    by rootless = tt
    by creeping = tt
    by (apart l h) = tt
    by lost = tt

earlier_still : {t u : TimePoint} → t.0 ≤ℤ u.0 → (p : Result Proximity Refusal) → NotBefore u p → NotBefore t p
earlier_still h (Ok Never) k = tt
earlier_still h (Ok (Enters v)) k = at_most_trans _ _ _ h k
earlier_still h (Ok (Passes v w)) k = (at_most_trans _ _ _ h k.0, at_most_trans _ _ _ h k.1)
earlier_still h (Err why) k = tt

-- So neither leg has yet to start.
pub after_both_starts : (limit : Float) (agent obstacle : Leg) →
    NotBefore agent.start.time (proximity_of limit agent obstacle)
    × NotBefore obstacle.start.time (proximity_of limit agent obstacle)
after_both_starts limit agent obstacle =
    let begins = starts agent obstacle in
    let p = proximity_of limit agent obstacle in
    let after = not_before limit agent obstacle in
    (earlier_still begins.first p after, earlier_still begins.second p after)

-- ---- Refusals.

-- A radicand that has no root, creep, a range that ends before it begins, and a span or an instant past 2^53 ns (RULES 4.1, 4.5
-- to 4.7).
pub data Early : Refusal → Type 0 where
  by_root : Early Refusals.Number
  by_creep : Early Refusals.Creep
  by_gap : Early Refusals.Apart
  by_reach : Early Refusals.Strayed

pub early_below : {why : Refusal} → Early why → refusal_number why < 8
early_below by_root = lit< tt
early_below by_creep = lit< tt
early_below by_gap = lit< tt
early_below by_reach = lit< tt

abbrev RefusesEarly : Result Proximity Refusal → Type 0
RefusesEarly (Ok Never) = Unit {0}
RefusesEarly (Ok (Enters t)) = Unit {0}
RefusesEarly (Ok (Passes t u)) = Unit {0}
RefusesEarly (Err why) = Early why

refusals : (limit : Float) (agent obstacle : Leg) → RefusesEarly (proximity_of limit agent obstacle)
refusals limit agent obstacle = by (origin limit agent obstacle)
  where
    by : {p : Result Proximity Refusal} → Origin limit agent obstacle p → RefusesEarly p
    by nothing = tt
    by (at_end e h k) = tt
    by (enters r) = tt
    by (passes r s) = tt
    by rootless = by_root
    by creeping = by_creep
    by (apart l h) = by_gap
    by lost = by_reach

pub refuses_early : (limit : Float) (agent obstacle : Leg) {why : Refusal} → proximity_of limit agent obstacle ≡ Err why → Early why
refuses_early limit agent obstacle e = rw e at (refusals limit agent obstacle)

-- ---- An entry strictly inside.

pub inside_reached : (limit : Float) (agent obstacle : Leg) {t : TimePoint} →
    entry_of (proximity_of limit agent obstacle) ≡ Some t → is_inside agent t ≡ true → is_inside obstacle t ≡ true →
    Reached limit agent obstacle t
inside_reached limit agent obstacle {t} e h k = by (origin limit agent obstacle) e
  where
    by : {p : Result Proximity Refusal} → Origin limit agent obstacle p → entry_of p ≡ Some t → Reached limit agent obstacle t
    by nothing f = absurd (true≢false cc)
    by (at_end {t = u} g a b) f =
        let same : u ≡ t = cc in absurd (true≢false (rw (same, h, k) at (end_not_inside agent obstacle g)))
    by (enters {t = u} r) f = let same : u ≡ t = cc in rw same at r
    by (passes {t = u} r s) f = let same : u ≡ t = cc in rw same at r
    by rootless f = absurd (true≢false cc)
    by creeping f = absurd (true≢false cc)
    by (apart l g) f = absurd (true≢false cc)
    by lost f = absurd (true≢false cc)

pub inside_is_long : (limit : Float) (agent obstacle : Leg) {t : TimePoint} →
    entry_of (proximity_of limit agent obstacle) ≡ Some t → is_inside agent t ≡ true → is_inside obstacle t ≡ true →
    Long agent obstacle
inside_is_long limit agent obstacle e h k = (inside_reached limit agent obstacle e h k).long
