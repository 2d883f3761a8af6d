-- The quadratic of two legs (RULES 8.10, 8.11).
-- Assumes nothing.
use Rattle.std.specs.Prelude.{Float}
use Rattle.std.specs.Float.Ieee
use Rattle.std.specs.Float.{binary64}
use Rattle.floats.specs.Quadratic.{coefficient_a, coefficient_b, coefficient_c}
use Rattle.times.specs.declared.time.TimePoint.{TimePoint}
use Rattle.shapes.specs.declared.waypoint.Leg.{Leg}
use Rattle.motions.specs.Motion.{motion_at}
use Rattle.motions.specs.declared.motion.State.{State}
use Rattle.motions.specs.declared.quadratic.Quadratic.{Quadratic}
use Rattle.std.specs.Prelude.{Result, Ok, Err}
use Rattle.std.specs.Prelude.{Option, Some, None}
use Rattle.times.specs.declared.time.Strayed.{Strayed}
use Rattle.refusals.specs.declared.Refusal.{Refusal}
use Rattle.refusals.specs.declared.Refusal.TheVariants as Refusals

-- Of the agent's state p and the obstacle's state q, whose differences are q - p.
abbrev pub quadratic_of : Float → State → State → Quadratic
quadratic_of limit p q =
    let px = Ieee.sub binary64 q.place.x p.place.x in
    let py = Ieee.sub binary64 q.place.y p.place.y in
    let vx = Ieee.sub binary64 q.velocity.x p.velocity.x in
    let vy = Ieee.sub binary64 q.velocity.y p.velocity.y in
    record { a = coefficient_a vx vy; b = coefficient_b vx vy px py; c = coefficient_c px py limit }

-- Goes on with a state; a leg that is nowhere at the instant is refused 6 (RULES 8.9), a span past 2^53 ns 7.
abbrev pub moving : Result (Option State) Strayed → (State → Result Quadratic Refusal) → Result Quadratic Refusal
moving (Ok (Some s)) go = go s
moving (Ok None) go = Err Refusals.Apart
moving (Err _) go = Err Refusals.Strayed

-- Going on with the quadratic of two legs, or with the refusal.
abbrev pub with_meeting : {A : Type 0} → (Refusal → A) → Result Quadratic Refusal → (Quadratic → A) → A
with_meeting refused (Ok q) go = go q
with_meeting refused (Err why) go = refused why

-- Of two legs from t0 on: the agent's is worked out first, as in the Rust (RULES 8.9, 8.10).
unfoldable pub meeting_from : Float → Leg → Leg → TimePoint → Result Quadratic Refusal
meeting_from limit agent obstacle t0 =
    moving (motion_at agent t0) (λ p. moving (motion_at obstacle t0) (λ q. Ok (quadratic_of limit p q)))
