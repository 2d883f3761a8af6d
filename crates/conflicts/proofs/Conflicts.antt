-- What a verdict on two legs tells (RULES 9.2 to 9.6): working the derivative out refuses nothing, so that a refusal is one of
-- proximity (RULES 20.6), and a conflict is an entry strictly inside both legs, at which they still close in.
-- Assumes nothing.
use mathlib.Core.Path.{◌≡◌, refl, ap}
use mathlib.Core.Bool.{Bool, true, false, ◌&&◌, cond}
use lib.Ieee.{Float}
use Rattle.times.specs.Time.{seconds_of}
use Rattle.times.specs.declared.time.TimePoint.{TimePoint}
use Rattle.shapes.specs.Leg.{is_inside}
use Rattle.shapes.specs.Box.{overlap}
use Rattle.shapes.specs.declared.bounding_box.BoundingBox.{BoundingBox}
use Rattle.shapes.specs.declared.waypoint.Leg.{Leg}
use Rattle.proximity.specs.Proximity.{proximity_of, entry_of}
use Rattle.proximity.specs.declared.detect.Proximity.{Proximity}
use Rattle.proximity.specs.declared.detect.Proximity.TheVariants as P
use Rattle.proximity.proofs.Holding.{end_not_inside}
use Rattle.proximity.proofs.Origins.{Reached, Origin, origin}
use Rattle.proximity.proofs.Origins.{nothing, at_end, enters, passes, rootless, creeping, apart, lost}
use Rattle.conflicts.specs.Conflict.{is_closing, closing_at, entered_at, judged, conflict_of}
use Rattle.conflicts.specs.declared.conflict.Verdict.{Verdict}
use Rattle.conflicts.specs.declared.conflict.Verdict.TheVariants.{Clear, Conflict}
use Rattle.std.specs.Prelude.{Result, Ok, Err}
use Rattle.refusals.specs.declared.Refusal.{Refusal}
use Rattle.std.specs.Prelude.{Some}

-- The boxes overlap and the entry is strictly inside both legs, where the derivative is below -1e-6.
pub record Entered (agent : Leg) (bounds : BoundingBox) (obstacle : Leg) (other : BoundingBox) (limit : Float) : Type 0 where
  pub overlapping : overlap bounds other ≡ true
  pub entry : TimePoint
  pub entered : entry_of (proximity_of limit agent obstacle) ≡ Some entry
  pub in_agent : is_inside agent entry ≡ true
  pub in_obstacle : is_inside obstacle entry ≡ true
  pub reached : Reached limit agent obstacle entry
  pub closing : is_closing reached.quadratic (seconds_of reached.since.span.0) ≡ true

-- An answer that has an entry is judged by it.
pub with_entry : (limit : Float) (agent obstacle : Leg) (p : Result Proximity Refusal) (t : TimePoint) → entry_of p ≡ Some t →
    judged limit agent obstacle p ≡ entered_at limit agent obstacle t
with_entry limit agent obstacle (Ok P.Never) t e = cc
with_entry limit agent obstacle (Ok (P.Enters u)) t e = cc
with_entry limit agent obstacle (Ok (P.Passes u v)) t e = cc
with_entry limit agent obstacle (Err why) t e = cc

entered_at_law : {limit : Float} {agent obstacle : Leg} {t : TimePoint} (r : Reached limit agent obstacle t) →
    entered_at limit agent obstacle t ≡
    cond (is_inside agent t && is_inside obstacle t)
    (cond (is_closing r.quadratic (seconds_of r.since.span.0)) (Ok Conflict) (Ok Clear))
    (Ok Clear)
unfolding entered_at closing_at
entered_at_law r = rw (r.since.given, r.meets)

module _ (agent : Leg) (bounds : BoundingBox) (obstacle : Leg) (other : BoundingBox) (limit : Float) where
  abbrev Tells : Result Verdict Refusal → Type 0
  Tells (Ok Clear) = Unit {0}
  Tells (Ok Conflict) = Entered agent bounds obstacle other limit
  Tells (Err why) = proximity_of limit agent obstacle ≡ Err why

  of_reached : {t : TimePoint} → overlap bounds other ≡ true → entry_of (proximity_of limit agent obstacle) ≡ Some t →
      Reached limit agent obstacle t → Tells (entered_at limit agent obstacle t)
  of_reached {t} o e r =
      rw (entered_at_law r)
      (by (is_inside agent t) (is_inside obstacle t) (is_closing r.quadratic (seconds_of r.since.span.0)) refl refl refl)
    where
      by : (a b c : Bool) → is_inside agent t ≡ a → is_inside obstacle t ≡ b →
          is_closing r.quadratic (seconds_of r.since.span.0) ≡ c →
          Tells (cond (a && b) (cond c (Ok Conflict) (Ok Clear)) (Ok Clear))
      by true true true h k l =
          record {
            overlapping = o;
            entry = t;
            entered = e;
            in_agent = h;
            in_obstacle = k;
            reached = r;
            closing = l;
          }
      by true true false h k l = tt
      by true false c h k l = tt
      by false b c h k l = tt

  of_proximity : {p : Result Proximity Refusal} → overlap bounds other ≡ true → proximity_of limit agent obstacle ≡ p →
      Origin limit agent obstacle p → Tells (judged limit agent obstacle p)
  unfolding entered_at
  of_proximity o e nothing = tt
  of_proximity o e (at_end g h k) = rw (end_not_inside agent obstacle g) tt
  of_proximity o e (enters r) = of_reached o (ap entry_of e) r
  of_proximity o e (passes r s) = of_reached o (ap entry_of e) r
  of_proximity o e rootless = e
  of_proximity o e creeping = e
  of_proximity o e (apart l h) = e
  of_proximity o e lost = e

  tells : Tells (conflict_of agent bounds obstacle other limit)
  unfolding conflict_of
  tells = by (overlap bounds other) refl
    where
      by : (b : Bool) → overlap bounds other ≡ b →
          Tells (cond b (judged limit agent obstacle (proximity_of limit agent obstacle)) (Ok Clear))
      by true o = of_proximity o refl (origin limit agent obstacle)
      by false o = tt

  pub refused_by_proximity : {why : Refusal} →
      conflict_of agent bounds obstacle other limit ≡ Err why → proximity_of limit agent obstacle ≡ Err why
  refused_by_proximity e = rw e at tells

  pub conflict_enters : conflict_of agent bounds obstacle other limit ≡ Ok Conflict → Entered agent bounds obstacle other limit
  conflict_enters e = rw e at tells

  -- And nothing else is asked of one.
  pub enters_conflict : Entered agent bounds obstacle other limit → conflict_of agent bounds obstacle other limit ≡ Ok Conflict
  unfolding conflict_of
  enters_conflict x =
      rw (
        x.overlapping,
        with_entry limit agent obstacle (proximity_of limit agent obstacle) x.entry x.entered,
        entered_at_law x.reached,
        x.in_agent,
        x.in_obstacle,
        x.closing,
      )
