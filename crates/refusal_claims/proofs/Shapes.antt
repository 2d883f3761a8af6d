-- The position and the box of a leg are refused by 1 or 3, the box of an obstacle by 1 or 2 (RULES 4.1 to 4.3, 5.1).
-- Assumes nothing.
use mathlib.Core.Path.{◌≡◌, refl}
use mathlib.Core.Bool.{Bool, true, false, ◌&&◌, cond}
use mathlib.Core.List.{List}
use lib.Dec.{eqb}
use lib.IntN.{ℤ}
use lib.ListN.{length}
use lib.Ieee.{Float}
use Rattle.times.specs.declared.time.TimePoint.{TimePoint}
use Rattle.times.proofs.Exact.{both}
use Rattle.domain.specs.Asked.{asked_box}
use Rattle.shapes.specs.Box.{box_of_leg}
use Rattle.domain.specs.Domain.{is_time, is_leg, is_profile}
use Rattle.shapes.specs.Leg.{is_backward}
use Rattle.shapes.specs.declared.bounding_box.BoundingBox.{BoundingBox}
use Rattle.shapes.specs.declared.profile.CircularProfile.{CircularProfile}
use Rattle.shapes.specs.declared.waypoint.Leg.{Leg}
use Rattle.domain.proofs.Within.{time_exact}
use Rattle.proximity.specs.Asked.{asked_position}
use Rattle.motions.specs.Motion.{motion_at}
use Rattle.proximity.proofs.Arrivals.{times_given}
use Rattle.proximity.proofs.Moving.{Motioned, there, outside, adrift, motion, never_strays}
use Rattle.proximity.proofs.Placed.{accepted}
use Rattle.table.specs.Examined.{is_laid, is_shaped, are_allowed}
use Rattle.table.specs.Lent.{obstacles_of}
use Rattle.table_checks.specs.Asked.{alone, asked_hull}
use Rattle.refusal_claims.specs.Numbers.{LegRefusal, HullRefusal, Number, Shape, Backward}
use Rattle.std.specs.Prelude.{Result, Ok, Err}
use Rattle.refusals.specs.declared.Refusal.{Refusal}
use Rattle.std.specs.Prelude.{Option, Some, None}
use Rattle.motions.specs.declared.motion.State.{State}
use Rattle.times.specs.declared.time.Strayed.{Strayed}
use Rattle.refusals.specs.declared.Refusal.TheVariants as Refusals

-- ---- One leg.

abbrev Stands : Result (Option State) Refusal → Type 0
Stands (Ok (Some s)) = Unit {0}
Stands (Ok None) = Unit {0}
Stands (Err why) = LegRefusal why

module _ (leg : Leg) where
  -- A leg of the table does not stray at an instant of the table (RULES 3.1, 4.7).
  stands : (t : TimePoint) → Stands (asked_position leg t)
  unfolding asked_position
  stands t = by (is_leg leg && is_time t) (is_backward leg) refl refl
    where
      moves : {m : Result (Option State) Strayed} → is_leg leg ≡ true → is_time t ≡ true → motion_at leg t ≡ m →
          Motioned leg t m → is_backward leg ≡ false → Stands (asked_position leg t)
      moves own timed e (there m) forward = rw (own, timed, forward, e) tt
      moves own timed e (outside h) forward = rw (own, timed, forward, e) tt
      moves own timed e (adrift s) forward =
          let a = accepted leg own in
          absurd (never_strays (times_given _ _ a.start_time a.end_time) (time_exact t timed) s)

      by : (allowed backward : Bool) → (is_leg leg && is_time t) ≡ allowed → is_backward leg ≡ backward →
          Stands (asked_position leg t)
      by true true e b = rw (e, b) Backward
      by true false e b =
          let h = both (is_leg leg) (is_time t) e in moves h.0 h.1 refl (motion leg t) b
      by false backward e b = rw e Number

  pub position_refused : (t : TimePoint) {why : Refusal} → asked_position leg t ≡ Err why → LegRefusal why
  position_refused t e = rw e at (stands t)

  abbrev Boxes : Result BoundingBox Refusal → Type 0
  Boxes (Ok b) = Unit {0}
  Boxes (Err why) = LegRefusal why

  boxes : (p : CircularProfile) → Boxes (asked_box p leg)
  unfolding asked_box
  boxes p = by (is_profile p && is_leg leg) (is_backward leg) (box_of_leg p.footprint leg)
    where
      by : (allowed backward : Bool) (b : BoundingBox) →
          Boxes (cond allowed (cond backward (Err Refusals.Backward) (Ok b)) (Err Refusals.Number))
      by true true b = Backward
      by true false b = tt
      by false backward b = Number

  pub box_refused : (p : CircularProfile) {why : Refusal} → asked_box p leg ≡ Err why → LegRefusal why
  box_refused p e = rw e at (boxes p)

-- ---- One obstacle.

abbrev Hulls : Result (Option BoundingBox) Refusal → Type 0
Hulls (Ok (Some b)) = Unit {0}
Hulls (Ok None) = Unit {0}
Hulls (Err why) = HullRefusal why

module _ (p : CircularProfile) (times : List ℤ) (xs ys : List Float) where
  hulls : Hulls (asked_hull p times xs ys)
  unfolding asked_hull
  hulls =
      let own = alone p times xs ys in
      let os = obstacles_of own in
      by (is_laid own && is_shaped os) (are_allowed os) (eqb (length times) 0) _
    where
      by : (shaped allowed none : Bool) (b : BoundingBox) →
          Hulls (cond shaped (cond allowed (cond none (Ok None) (Ok (Some b))) (Err Refusals.Number)) (Err Refusals.Shape))
      by true true true b = tt
      by true true false b = tt
      by true false none b = Number
      by false allowed none b = Shape

  pub hull_refused : {why : Refusal} → asked_hull p times xs ys ≡ Err why → HullRefusal why
  hull_refused e = rw e at hulls
