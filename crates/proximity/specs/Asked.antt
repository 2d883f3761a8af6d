-- What the calls answer: each examines its own input first (RULES 5.1 to 5.4, 5.11).
-- Assumes nothing.
use Rattle.std.specs.Prelude.{cond, ◌&&◌, [], ◌∷◌, Float}
use Rattle.std.specs.Float.{binary64}
use Rattle.std.specs.Float.Ieee.{to_bits}
use Rattle.lent.specs.Outcome.{Outcome, Gives, Refuses}
use Rattle.times.specs.declared.time.TimePoint.{TimePoint}
use Rattle.shapes.specs.Leg.{is_backward, is_rising}
use Rattle.domain.specs.Domain.{is_time, is_limit, is_leg}
use Rattle.shapes.specs.declared.waypoint.Leg.{Leg}
use Rattle.motions.specs.Motion.{motion_at}
use Rattle.proximity.specs.Proximity.{proximity_of}
use Rattle.proximity.specs.declared.detect.Proximity.{Proximity}
use Rattle.std.specs.Prelude.{Result, Ok, Err}
use Rattle.refusals.specs.declared.Refusal.{Refusal}
use Rattle.std.specs.Prelude.{Option, Some, None}
use Rattle.times.specs.declared.time.Strayed.{Strayed}
use Rattle.motions.specs.declared.motion.State.{State}
use Rattle.refusals.specs.declared.Refusal.TheVariants as Refusals
use Rattle.refusals.specs.Names.{refusal_number}

-- A leg of the agent's at an instant: 1 for its numbers, 3 where it runs backward, then the work.
unfoldable pub asked_position : Leg → TimePoint → Result (Option State) Refusal
asked_position leg t =
    cond (is_leg leg && is_time t) (cond (is_backward leg) (Err Refusals.Backward) (found (motion_at leg t))) (Err Refusals.Number)
  where
    found : Result (Option State) Strayed → Result (Option State) Refusal
    found (Ok (Some s)) = Ok (Some s)
    found (Ok None) = Ok None
    found (Err _) = Err Refusals.Strayed

-- What is wrong with the agent's leg, an obstacle's leg and a limit: 2 where the obstacle's times do not rise, 1 for the numbers,
-- 3 where the agent runs backward (RULES 5.1).
unfoldable pub legs_examined : Float → Leg → Leg → Result Unit Refusal
legs_examined limit agent obstacle =
    cond (is_rising obstacle)
    (cond (is_leg agent && (is_limit limit && is_leg obstacle))
    (cond (is_backward agent) (Err Refusals.Backward) (Ok tt))
    (Err Refusals.Number))
    (Err Refusals.Shape)

-- Proximity of the two.
unfoldable pub asked_proximity : Float → Leg → Leg → Result Proximity Refusal
asked_proximity limit agent obstacle = examined (legs_examined limit agent obstacle)
  where
    examined : Result Unit Refusal → Result Proximity Refusal
    examined (Ok tt) = proximity_of limit agent obstacle
    examined (Err why) = Err why

-- The number and the words of a position: whether there is one, the place and the velocity.
abbrev pub position_outcome : Result (Option State) Refusal → Outcome
position_outcome (Ok (Some s)) =
    Gives (1 ∷ (to_bits binary64 s.place.x ∷ (to_bits binary64 s.place.y ∷
    (to_bits binary64 s.velocity.x ∷ (to_bits binary64 s.velocity.y ∷ [])))))
position_outcome (Ok None) = Gives (0 ∷ [])
position_outcome (Err why) = Refuses (refusal_number why)
