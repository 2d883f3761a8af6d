-- What the tests of the table say to the proofs: how large a number that passes can be, which parts of a leg, a waypoint or a
-- profile pass with it, and that a critical distance squared is a limit (RULES section 3, 7.3).
-- Assumes nothing.
use mathlib.Core.Path.{◌≡◌}
use mathlib.Core.Bool.{true, false, not}
use Prim.Native.Nat.{◌^◌}
use native.Mathlib.Omega.{arith}
use borrow.Author.Tests.{le-leb}
use lib.IntN.{pos, nat_abs}
use lib.Signed.{lt_z, le_z, ◌≤ℤ◌, le_z_yes, lt_z_no}
use lib.Ieee
use lib.Ieee.{Float, fin, binary64}
use Rattle.floats.proofs.Relations.{◌≼◌, Finite}
use Rattle.floats.specs.Constants.{nought, thousandth}
use Rattle.floats.proofs.Magnitude.{Within}
use Rattle.floats.specs.Compare.{is_between}
use Rattle.floats.proofs.Largest.{farthest, widest}
use Rattle.floats.proofs.Tests.{passed, is_true}
use Rattle.floats.proofs.Preorder.{le_trans}
use Rattle.floats.proofs.Signs.{square_not_below}
use Rattle.floats.proofs.Bounds.{within_of_bounds, within_of_upper, within_lower, within_upper, within_le, within_known}
use Rattle.floats.proofs.Bounds.{within_finite, within_add, within_mul}
use Rattle.floats.proofs.Larger.{larger_within}
use Rattle.times.specs.Time.{is_exact}
use Rattle.times.specs.declared.time.TimePoint.{TimePoint}
use Rattle.times.proofs.Integers.{size_at_most}
use Rattle.times.proofs.Exact.{both}
use Rattle.shapes.specs.Distance.{critical_distance, critical_distance_squared}
use Rattle.domain.specs.Domain.{is_time, is_coordinate, is_radius, is_limit, is_speed, is_waypoint, is_leg, is_profile}
use Rattle.shapes.specs.declared.profile.CircularProfile.{CircularProfile}
use Rattle.shapes.specs.declared.waypoint.Leg.{Leg}
use Rattle.shapes.specs.declared.waypoint.Waypoint.{Waypoint}

-- ---- The parts.

pub leg_start : (leg : Leg) → is_leg leg ≡ true → is_waypoint leg.start ≡ true
unfolding is_leg
leg_start leg e = (both _ _ e).0

pub leg_end : (leg : Leg) → is_leg leg ≡ true → is_waypoint leg.end ≡ true
unfolding is_leg
leg_end leg e = (both (is_waypoint leg.start) _ e).1

pub waypoint_time : (w : Waypoint) → is_waypoint w ≡ true → is_time w.time ≡ true
unfolding is_waypoint
waypoint_time w e = (both _ _ e).0

pub waypoint_x : (w : Waypoint) → is_waypoint w ≡ true → is_coordinate w.x ≡ true
unfolding is_waypoint
waypoint_x w e = (both _ _ (both (is_time w.time) _ e).1).0

pub waypoint_y : (w : Waypoint) → is_waypoint w ≡ true → is_coordinate w.y ≡ true
unfolding is_waypoint
waypoint_y w e = (both (is_coordinate w.x) _ (both (is_time w.time) _ e).1).1

pub profile_footprint : (p : CircularProfile) → is_profile p ≡ true → is_radius p.footprint ≡ true
unfolding is_profile
profile_footprint p e = (both _ _ e).0

-- ---- Instants.

time_told : (t : TimePoint) → is_time t ≡ true → (not (lt_z t.0 (pos 0)) ≡ true) × (le_z t.0 (pos (10 ^ 15)) ≡ true)
unfolding is_time
time_told t e = both (not (lt_z t.0 (pos 0))) (le_z t.0 (pos (10 ^ 15))) e

pub time_not_below : (t : TimePoint) → is_time t ≡ true → pos 0 ≤ℤ t.0
time_not_below t e = lt_z_no (passed (time_told t e).0)

pub time_at_most : (t : TimePoint) → is_time t ≡ true → t.0 ≤ℤ pos (10 ^ 15)
time_at_most t e = le_z_yes (passed (time_told t e).1)

pub time_exact : (t : TimePoint) → is_time t ≡ true → is_exact t.0 ≡ true
unfolding is_exact
time_exact t e =
    le-leb (nat_abs t.0) (2 ^ 53) (omega (arith, size_at_most t.0 (10 ^ 15) (time_not_below t e) (time_at_most t e)))

-- ---- Doubles.

ends : (lo hi x : Float) → is_between lo hi x ≡ true → (lo ≼ x) × (x ≼ hi)
unfolding is_between
ends lo hi x e =
    let held = both (Ieee.le lo x) (Ieee.le x hi) e in
    (passed held.0, passed held.1)

between : (lo hi x : Float) → lo ≼ x → x ≼ hi → is_between lo hi x ≡ true
unfolding is_between
between lo hi x l h = rw (is_true (Ieee.le lo x) l, is_true (Ieee.le x hi) h)

-- From -c to c, and from 0 to c.
around : (c x : Float) → is_between (Ieee.neg c) c x ≡ true → Within c x
around c x e =
    let h = ends (Ieee.neg c) c x e in
    within_of_bounds c x h.0 h.1

up_to : (c x : Float) → is_between nought c x ≡ true → Within c x
up_to c x e =
    let h = ends nought c x e in
    within_of_upper c x h.0 h.1

-- 10,000 m, the most of a coordinate.
abbrev pub ten_thousand : Float
ten_thousand = Ieee.of_int binary64 (pos 10000)

pub coordinate_at_most : (x : Float) → is_coordinate x ≡ true → Within ten_thousand x
unfolding is_coordinate
coordinate_at_most x e = around ten_thousand x e

pub coordinate_within : (x : Float) → is_coordinate x ≡ true → Within farthest x
coordinate_within x e = within_le farthest (coordinate_at_most x e) (unfold Ieee.le Ieee.of_int in tt)

pub limit_within : (x : Float) → is_limit x ≡ true → Within widest x
unfolding is_limit
limit_within x e =
    within_le widest (up_to (Ieee.of_int binary64 (pos 1000000)) x e) (unfold Ieee.le Ieee.of_int in tt)

-- 10^14 m/s, the most of a velocity's coordinate, and 2^47, just above it.
abbrev pub top_speed : Float
top_speed = Ieee.of_int binary64 (pos (10 ^ 14))

abbrev pub swiftest : Float
swiftest = fin false 1 (pos 47)

pub speed_within : (x : Float) → is_speed x ≡ true → Within swiftest x
unfolding is_speed
speed_within x e = within_le swiftest (around top_speed x e) (unfold Ieee.le Ieee.of_int in tt)

-- What is at most 10^14 in size is in the table (RULES 3.8).
pub within_speed : {x : Float} → Within top_speed x → is_speed x ≡ true
unfolding is_speed
within_speed {x} h = between (Ieee.neg top_speed) top_speed x (within_lower h) (within_upper h)

-- 100 m, the most of a radius.
abbrev hundred : Float
hundred = Ieee.of_int binary64 (pos 100)

radius_within : (x : Float) → is_radius x ≡ true → Within hundred x
unfolding is_radius
radius_within x e = up_to hundred x e

pub radius_finite : (x : Float) → is_radius x ≡ true → Finite x
radius_finite x e = within_finite (radius_within x e) (unfold Ieee.of_int in tt)

-- ---- Critical distances.

-- 200 m, the most of two footprints.
abbrev two_hundred : Float
two_hundred = Ieee.of_int binary64 (pos 200)

critical_within : (p q : CircularProfile) → is_profile p ≡ true → is_profile q ≡ true → Within two_hundred (critical_distance p q)
unfolding critical_distance Ieee.of_int Ieee.add
critical_within p q hp hq =
    larger_within (Ieee.add binary64 p.footprint q.footprint) thousandth
    (within_add binary64
    (radius_within p.footprint (profile_footprint p hp))
    (radius_within q.footprint (profile_footprint q hq))
    tt
    tt)
    (record { at_most = unfold Ieee.le Ieee.of_bits in tt })

pub critical_squared_within : (p q : CircularProfile) →
    is_profile p ≡ true → is_profile q ≡ true → Within widest (critical_distance_squared p q)
unfolding critical_distance_squared Ieee.of_int Ieee.mul
critical_squared_within p q hp hq =
    let h = critical_within p q hp hq in
    within_le widest (within_mul binary64 h h tt tt) (unfold Ieee.le in tt)

-- So it is a limit of the table: the D2 of the hints (RULES 3.4, 10.6).
pub critical_squared_limit : (p q : CircularProfile) →
    is_profile p ≡ true → is_profile q ≡ true → is_limit (critical_distance_squared p q) ≡ true
unfolding is_limit critical_distance_squared
critical_squared_limit p q hp hq =
    let d = critical_distance p q in
    let d2 = Ieee.mul binary64 d d in
    let most = Ieee.of_int binary64 (pos 1000000) in
    let known = within_known (critical_within p q hp hq) in
    let upper = within_upper (critical_squared_within p q hp hq) in
    between nought most d2 (square_not_below binary64 d known) (le_trans d2 widest most upper (unfold Ieee.le Ieee.of_int in tt))
