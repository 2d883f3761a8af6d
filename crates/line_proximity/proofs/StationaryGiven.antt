-- Of numbers in the table a stationary proximity is never refused, and its two roots are in order (RULES 10.38, 10.39).
-- Assumes nothing.
use mathlib.Core.Path.{◌≡◌, refl, subst}
use mathlib.Core.Logic.{◌↔◌}
use mathlib.Core.Bool.{Bool, true, false, ◌&&◌, cond, true≢false}
use lib.Ieee.{Float, binary64, add, mul, le}
use Rattle.floats.proofs.Relations.{Finite}
use Rattle.floats.specs.Constants.{nought}
use Rattle.floats.proofs.Magnitude.{Within}
use Rattle.floats.specs.Quadratic.{two, radicand, lower, upper}
use Rattle.floats.proofs.Largest.{farthest, widest}
use Rattle.floats.specs.Constants.{hundred_millionth}
use Rattle.floats.proofs.Tests.{passed}
use Rattle.floats.proofs.Bounds.{within_finite, within_mul, within_sub}
use Rattle.floats.proofs.Meeting.{within_dot, two_within, four_within, finite_roots_in_order}
use Rattle.times.proofs.Exact.{both}
use Rattle.root.specs.Root.{root_of, with_root, no_root}
use Rattle.root.proofs.Given.{root_given}
use Rattle.domain.specs.Domain.{is_coordinate, is_place, is_speed, is_limit}
use Rattle.shapes.specs.declared.vector.Vector.{Vector}
use Rattle.domain.proofs.Within.{swiftest, coordinate_within, speed_within, limit_within}
use Rattle.line_proximity.specs.Stationary.{stationary_quadratic, stationary_proximity}
use Rattle.line_proximity.specs.Asked.{is_stay, rooted, asked_stationary}
use Rattle.motions.specs.declared.quadratic.Quadratic.{Quadratic}
use Rattle.proximity.proofs.Roots.{root_not_below}
use Rattle.std.specs.Prelude.{Result, Ok, Err}
use Rattle.std.specs.Prelude.{Option, Some, None}
use Rattle.root.specs.declared.nearest.NoRoot.{NoRoot}
use Rattle.refusals.specs.declared.Refusal.TheVariants as Refusals

-- Never a refusal, and roots in order.
abbrev pub Ordered : {E : Type 0} → Result (Option (Float × Float)) E → Type 0
Ordered (Ok (Some (t, u))) = le t u ≡ true
Ordered (Ok None) = Unit
Ordered (Err _) = ⊥

-- What must be finite is: b, 2a and the radicand.
record Tame (q : Quadratic) : Type 0 where
  pub b_finite : Finite q.b
  pub two_a_finite : Finite (mul binary64 two q.a)
  pub radicand_finite : Finite (radicand q.a q.b q.c)

tame : {r p0 v : Vector} {limit : Float} →
    Within farthest r.x → Within farthest r.y → Within farthest p0.x → Within farthest p0.y →
    Within swiftest v.x → Within swiftest v.y → Within widest limit → Tame (stationary_quadratic r p0 v limit)
unfolding add mul
tame rx ry px py vx vy l =
    let x = within_sub binary64 px rx tt tt in
    let y = within_sub binary64 py ry tt tt in
    let a = within_dot vx vy vx vy tt tt tt in
    let b = within_mul binary64 two_within (within_dot vx vy x y tt tt tt) tt tt in
    let c = within_sub binary64 (within_dot x y x y tt tt tt) l tt tt in
    let bb = within_mul binary64 b b tt tt in
    let four-ac = within_mul binary64 (within_mul binary64 four_within a tt tt) c tt tt in
    record {
      b_finite = within_finite b tt;
      two_a_finite = within_finite (within_mul binary64 two_within a tt tt) tt;
      radicand_finite = within_finite (within_sub binary64 bb four-ac tt tt) tt;
    }

stay_tame : (r p0 v : Vector) (limit : Float) → is_stay r p0 v limit ≡ true → Tame (stationary_quadratic r p0 v limit)
unfolding is_stay is_place
stay_tame r p0 v limit e =
    let place = both (is_place r) (is_place p0 && (is_speed v.x && (is_speed v.y && is_limit limit))) e in
    let from = both (is_place p0) (is_speed v.x && (is_speed v.y && is_limit limit)) place.1 in
    let fast-x = both (is_speed v.x) (is_speed v.y && is_limit limit) from.1 in
    let fast-y = both (is_speed v.y) (is_limit limit) fast-x.1 in
    let at = both (is_coordinate r.x) (is_coordinate r.y) place.0 in
    let start = both (is_coordinate p0.x) (is_coordinate p0.y) from.0 in
    tame
    (coordinate_within r.x at.0) (coordinate_within r.y at.1)
    (coordinate_within p0.x start.0) (coordinate_within p0.y start.1)
    (speed_within v.x fast-x.0) (speed_within v.y fast-y.0) (limit_within limit fast-y.1)

module _ (q : Quadratic) (h : Tame q) where
  tame_ordered : (b : Bool) → (le hundred_millionth q.a && le nought (radicand q.a q.b q.c)) ≡ b →
      Ordered (cond b (with_root no_root (root_of (radicand q.a q.b q.c)) (λ s.
      Ok (Some (lower q.a q.b s, upper q.a q.b s)))) (Ok None))
  tame_ordered true e =
      let r = radicand q.a q.b q.c in
      let tests = both (le hundred_millionth q.a) (le nought r) e in
      let root = root_given r h.radicand_finite (passed tests.1) in
      let not_below = root_not_below q.a q.b q.c root.1 in
      rw root.1 (finite_roots_in_order q.a q.b root.0 h.two_a_finite h.b_finite (passed tests.0) not_below)
  tame_ordered false e = tt

pub stationary_ordered : (r p0 v : Vector) (limit : Float) →
    is_stay r p0 v limit ≡ true → Ordered (stationary_proximity r p0 v limit)
unfolding stationary_proximity
stationary_ordered r p0 v limit e = tame_ordered (stationary_quadratic r p0 v limit) (stay_tame r p0 v limit e) _ refl

rooted_ordered : (s : Result (Option (Float × Float)) NoRoot) → Ordered s → Ordered (rooted s)
rooted_ordered (Ok (Some (t, u))) h = h
rooted_ordered (Ok None) h = h
rooted_ordered (Err _) h = h

-- The call is refused for numbers outside the table, and for no others.
pub refused_outside : (r p0 v : Vector) (limit : Float) →
    (asked_stationary r p0 v limit ≡ Err Refusals.Number) ↔ (is_stay r p0 v limit ≡ false)
unfolding asked_stationary
refused_outside r p0 v limit = by (is_stay r p0 v limit) refl
  where
    by : (b : Bool) → is_stay r p0 v limit ≡ b →
        (cond b (rooted (stationary_proximity r p0 v limit)) (Err Refusals.Number) ≡ Err Refusals.Number) ↔ (b ≡ false)
    by true e =
        let given = rooted_ordered (stationary_proximity r p0 v limit) (stationary_ordered r p0 v limit e) in
        ((λ f. absurd (subst Ordered f given)), (λ f. absurd (true≢false f)))
    by false e = ((λ f. refl), (λ f. refl))
