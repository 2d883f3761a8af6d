-- Where a leg lies that a call accepts: its instants from 0 to 10^15 ns, its places no farther out than a hint's may be, so that
-- the doubles of a meeting stay finite (RULES 3.1, 3.2, 3.4, 4.7, 5.1).
-- Assumes nothing.
use mathlib.Core.Path.{◌≡◌, refl}
use mathlib.Core.Bool.{Bool, true, false, ◌&&◌, cond, true≢false}
use lib.Ieee.{Float}
use Rattle.floats.proofs.Magnitude.{Within}
use Rattle.floats.proofs.Largest.{farthest, widest}
use Rattle.times.proofs.Exact.{both}
use Rattle.times.proofs.Order.{chosen_has}
use Rattle.shapes.specs.Leg.{is_backward, is_rising}
use Rattle.domain.specs.Domain.{is_time, is_limit, is_leg}
use Rattle.shapes.specs.declared.waypoint.Leg.{Leg}
use Rattle.domain.proofs.Within as L
use Rattle.proximity.specs.Range.{range_start, range_end}
use Rattle.proximity.specs.Asked.{legs_examined}
use Rattle.proximity.proofs.Holding.{starts, ends}
use Rattle.std.specs.Prelude.{Ok, Err}
use Rattle.refusals.specs.declared.Refusal.TheVariants as Refusals

-- Both ends of the leg lie within 10^6 m. The limit beside it is `Within widest`, 10^6 too (RULES 3.4).
pub record Placed (leg : Leg) : Type 0 where
  pub start_x : Within farthest leg.start.x
  pub start_y : Within farthest leg.start.y
  pub end_x : Within farthest leg.end.x
  pub end_y : Within farthest leg.end.y

pub record Accepted (leg : Leg) : Type 0 where
  pub start_time : is_time leg.start.time ≡ true
  pub end_time : is_time leg.end.time ≡ true
  pub placed : Placed leg

pub accepted : (leg : Leg) → is_leg leg ≡ true → Accepted leg
accepted leg e =
    let start = L.leg_start leg e in
    let end = L.leg_end leg e in
    record {
      start_time = L.waypoint_time leg.start start;
      end_time = L.waypoint_time leg.end end;
      placed = record {
        start_x = L.coordinate_within leg.start.x (L.waypoint_x leg.start start);
        start_y = L.coordinate_within leg.start.y (L.waypoint_y leg.start start);
        end_x = L.coordinate_within leg.end.x (L.waypoint_x leg.end end);
        end_y = L.coordinate_within leg.end.y (L.waypoint_y leg.end end);
      };
    }

-- The range of two.
pub range_start_time : {agent obstacle : Leg} → Accepted agent → Accepted obstacle → is_time (range_start agent obstacle) ≡ true
range_start_time {agent} {obstacle} a b =
    chosen_has (λ t. is_time t ≡ true) (starts agent obstacle) a.start_time b.start_time

pub range_end_time : {agent obstacle : Leg} → Accepted agent → Accepted obstacle → is_time (range_end agent obstacle) ≡ true
range_end_time {agent} {obstacle} a b = chosen_has (λ t. is_time t ≡ true) (ends agent obstacle) a.end_time b.end_time

-- What a call goes on with, where it found nothing wrong with what it was handed (RULES 5.1).
pub record Fine (limit : Float) (agent obstacle : Leg) : Type 0 where
  pub limit_within : Within widest limit
  pub agent_accepted : Accepted agent
  pub obstacle_accepted : Accepted obstacle

pub fine : (limit : Float) (agent obstacle : Leg) → legs_examined limit agent obstacle ≡ Ok tt → Fine limit agent obstacle
unfolding legs_examined
fine limit agent obstacle e = by (is_rising obstacle) (is_leg agent && (is_limit limit && is_leg obstacle)) refl e
  where
    by : (rising good : Bool) → (is_leg agent && (is_limit limit && is_leg obstacle)) ≡ good →
        cond rising
        (cond good (cond (is_backward agent) (Err Refusals.Backward) (Ok (tt {0}))) (Err Refusals.Number))
        (Err Refusals.Shape) ≡ Ok (tt {0}) →
        Fine limit agent obstacle
    by true true p e =
        let first = both (is_leg agent) (is_limit limit && is_leg obstacle) p in
        let others = both (is_limit limit) (is_leg obstacle) first.1 in
        record {
          limit_within = L.limit_within limit others.0;
          agent_accepted = accepted agent first.0;
          obstacle_accepted = accepted obstacle others.1;
        }
    by true false p e = absurd (true≢false cc)
    by false good p e = absurd (true≢false cc)
