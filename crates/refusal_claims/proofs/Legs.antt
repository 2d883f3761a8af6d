-- Proximity and conflict of two legs are refused by 1, 2, 3, 5 or 6 (RULES 4.1 to 4.3, 4.5, 4.6, 5.1).
-- Assumes nothing.
use mathlib.Core.Path.{◌≡◌, refl}
use mathlib.Core.Logic.{inl, inr}
use mathlib.Core.Bool.{Bool, true, false, ◌&&◌, cond, true≢false}
use lib.Ieee.{Float}
use Rattle.times.specs.declared.time.TimePoint.{TimePoint}
use Rattle.shapes.specs.Box.{box_of_leg}
use Rattle.domain.specs.Domain.{is_limit, is_leg, is_profile}
use Rattle.shapes.specs.Leg.{is_backward, is_rising}
use Rattle.shapes.specs.declared.profile.CircularProfile.{CircularProfile}
use Rattle.shapes.specs.declared.waypoint.Leg.{Leg}
use Rattle.proximity.specs.Asked.{legs_examined, asked_proximity}
use Rattle.proximity.specs.Proximity.{proximity_of}
use Rattle.proximity.specs.Range.{range_start, range_end}
use Rattle.proximity.specs.declared.detect.Proximity.{Proximity}
use Rattle.proximity.specs.declared.detect.Proximity.TheVariants as P
use Rattle.proximity.proofs.OnDomain.{InRange, asked_in_range}
use Rattle.conflicts.specs.Asked.{carts_examined, asked_conflict}
use Rattle.conflicts.proofs.Conflicts.{refused_by_proximity}
use Rattle.refusal_claims.specs.Numbers.{LegsRefusal, Number, Shape, Backward, Creep, Apart}
use Rattle.refusal_claims.proofs.Examined.{Finds}
use Rattle.std.specs.Prelude.{Result, Ok, Err}
use Rattle.refusals.specs.declared.Refusal.{Refusal}
use Rattle.refusals.specs.declared.Refusal.TheVariants as Refusals

-- An answer whose refusals are such numbers.
abbrev Says : Result Proximity Refusal → Type 0
Says (Ok P.Never) = Unit {0}
Says (Ok (P.Enters t)) = Unit {0}
Says (Ok (P.Passes t u)) = Unit {0}
Says (Err why) = LegsRefusal why

in_range_says : (t0 t1 : TimePoint) (a : Result Proximity Refusal) → InRange t0 t1 a → Says a
in_range_says t0 t1 (Ok P.Never) h = tt
in_range_says t0 t1 (Ok (P.Enters t)) h = tt
in_range_says t0 t1 (Ok (P.Passes t u)) h = tt
in_range_says t0 t1 (Err why) (inl five) = rw five Creep
in_range_says t0 t1 (Err why) (inr gap) = rw gap.0 Apart

module _ (limit : Float) (agent obstacle : Leg) where
  -- ---- Proximity.

  legs_find : Finds LegsRefusal (legs_examined limit agent obstacle)
  unfolding legs_examined
  legs_find = by (is_rising obstacle) (is_leg agent && (is_limit limit && is_leg obstacle)) (is_backward agent)
    where
      by : (rising allowed backward : Bool) →
          Finds LegsRefusal (cond rising
          (cond allowed (cond backward (Err Refusals.Backward) (Ok tt)) (Err Refusals.Number))
          (Err Refusals.Shape))
      by true true true = Backward
      by true true false = tt
      by true false backward = Number
      by false allowed backward = Shape

  asked_says : Says (asked_proximity limit agent obstacle)
  unfolding asked_proximity
  asked_says = by (legs_examined limit agent obstacle) refl legs_find
    where
      by : (x : Result Unit Refusal) → legs_examined limit agent obstacle ≡ x → Finds LegsRefusal x →
          Says (asked_proximity limit agent obstacle)
      by (Ok tt) e h =
          in_range_says (range_start agent obstacle) (range_end agent obstacle) (asked_proximity limit agent obstacle)
          (asked_in_range limit agent obstacle e)
      by (Err why) e h = rw e h

  pub proximity_refused : {why : Refusal} → asked_proximity limit agent obstacle ≡ Err why → LegsRefusal why
  proximity_refused e = rw e at asked_says

  -- ---- Conflict.

  module _ (p q : CircularProfile) where
    -- What is fine with the carts is fine with the legs.
    record Found (x : Result Unit Refusal) : Type 0 where
      pub finds : Finds LegsRefusal x
      pub fine : x ≡ (Ok tt) → legs_examined limit agent obstacle ≡ (Ok tt)

    carts_find : Found (carts_examined p q limit agent obstacle)
    unfolding carts_examined
    carts_find = by (is_rising obstacle) (is_profile p && is_profile q)
      where
        by : (rising sized : Bool) →
            Found (cond rising (cond sized (legs_examined limit agent obstacle) (Err Refusals.Number)) (Err Refusals.Shape))
        by true true = record { finds = legs_find; fine = λ e. e }
        by true false = record { finds = Number; fine = λ e. absurd (true≢false (cc e)) }
        by false sized = record { finds = Shape; fine = λ e. absurd (true≢false (cc e)) }

    pub conflict_refused : {why : Refusal} → asked_conflict p agent q obstacle limit ≡ Err why → LegsRefusal why
    unfolding asked_conflict asked_proximity
    conflict_refused {why} = by (carts_examined p q limit agent obstacle) refl carts_find.finds
      where
        by : (x : Result Unit Refusal) → carts_examined p q limit agent obstacle ≡ x → Finds LegsRefusal x →
            asked_conflict p agent q obstacle limit ≡ Err why → LegsRefusal why
        by (Ok tt) e h told =
            let bounds = box_of_leg p.footprint agent in
            let other = box_of_leg q.footprint obstacle in
            let near : proximity_of limit agent obstacle ≡ Err why =
            refused_by_proximity agent bounds obstacle other limit (rw e at told) in
            proximity_refused (rw (carts_find.fine e) near)
        by (Err own) e h told =
            let same : own ≡ why = cc (rw e at told) in rw same at h
