-- What an answer of `motion_at` or `meeting_from` tells: whether the leg's times hold the instant, and which spans it was worked
-- out from (RULES 8.1, 8.2, 8.8 to 8.10).
-- Assumes nothing.
use mathlib.Core.Path.{◌≡◌, refl}
use mathlib.Core.Logic.{◌⊎◌, inl, inr}
use mathlib.Core.Bool.{Bool, true, false, ◌&&◌, cond, true≢false}
use lib.Signed.{◌≤ℤ◌}
use lib.Ieee.{Float}
use Rattle.times.specs.Time.{is_exact, span_between, seconds_of, with_span}
use Rattle.times.specs.declared.time.TimePoint.{TimePoint}
use Rattle.times.specs.declared.time.Duration.{Duration}
use Rattle.times.proofs.Spans.{part_given}
use Rattle.shapes.specs.Leg.{holds}
use Rattle.shapes.specs.declared.waypoint.Leg.{Leg}
use Rattle.motions.specs.Motion.{velocity_over, place_after, motion_at}
use Rattle.motions.specs.Quadratic.{quadratic_of, moving, meeting_from}
use Rattle.proximity.specs.Range.{range_start, range_end}
use Rattle.motions.specs.declared.motion.State.{State}
use Rattle.motions.specs.declared.quadratic.Quadratic.{Quadratic}
use Rattle.proximity.proofs.Holding.{held, in_range}
use Rattle.std.specs.Prelude.{Result, Ok, Err}
use Rattle.times.specs.Time.{strayed}
use Rattle.times.specs.declared.time.Strayed.{Strayed}
use Rattle.std.specs.Prelude.{Option, Some, None}
use Rattle.refusals.specs.declared.Refusal.{Refusal}
use Rattle.refusals.specs.declared.Refusal.TheVariants as Refusals

-- ---- A leg at an instant.

-- The state of a leg that lasts so many seconds, so many of them gone (RULES 8.1, 8.2).
abbrev state_after : Leg → Float → Float → State
state_after leg lasts gone = let v = velocity_over leg lasts in record { place = place_after leg v gone; velocity = v }

-- The leg is at s at the instant t.
pub record Moves (leg : Leg) (t : TimePoint) (s : State) : Type 0 where
  pub holding : holds leg t ≡ true
  pub lasts : Duration
  pub gone : Duration
  pub lasting : span_between leg.start.time leg.end.time ≡ Ok lasts
  pub going : span_between leg.start.time t ≡ Ok gone
  pub state : s ≡ state_after leg (seconds_of lasts.0) (seconds_of gone.0)

-- How long it lasts is not given, or how long it has gone.
pub data Strays (leg : Leg) (t : TimePoint) : Type 0 where
  in_all : span_between leg.start.time leg.end.time ≡ strayed → Strays leg t
  so_far : holds leg t ≡ true → span_between leg.start.time t ≡ strayed → Strays leg t

pub data Motioned (leg : Leg) (t : TimePoint) : Result (Option State) Strayed → Type 0 where
  there : {s : State} → Moves leg t s → Motioned leg t (Ok (Some s))
  outside : holds leg t ≡ false → Motioned leg t (Ok None)
  adrift : Strays leg t → Motioned leg t strayed

pub motion : (leg : Leg) (t : TimePoint) → Motioned leg t (motion_at leg t)
unfolding motion_at
motion leg t =
    by (span_between leg.start.time leg.end.time) (holds leg t) (span_between leg.start.time t) refl refl refl
  where
    by : (x : Result Duration Strayed) (b : Bool) (y : Result Duration Strayed) →
        span_between leg.start.time leg.end.time ≡ x → holds leg t ≡ b → span_between leg.start.time t ≡ y →
        Motioned leg t (with_span strayed x (λ lasts.
        cond b (with_span strayed y (λ gone. Ok (Some (state_after leg (seconds_of lasts.0) (seconds_of gone.0))))) (Ok None)))
    by (Ok d) true (Ok g) p h q =
        there (record { holding = h; lasts = d; gone = g; lasting = p; going = q; state = refl })
    by (Ok d) true (Err _) p h q = adrift (so_far h q)
    by (Ok d) false y p h q = outside h
    by (Err _) b y p h q = adrift (in_all p)

-- A leg that lasts at most 2^53 ns strays at no instant in reach.
pub never_strays : {leg : Leg} {t : TimePoint} {d : Duration} →
    span_between leg.start.time leg.end.time ≡ Ok d → is_exact t.0 ≡ true → Strays leg t → ⊥
never_strays e r (in_all f) = absurd (true≢false cc)
never_strays {leg} {t} e r (so_far h f) =
    let given = part_given {u = t} e r (held h).from_start (held h).to_end in absurd (true≢false cc)

-- ---- Two legs at an instant.

-- They are at two states, and q is the quadratic of these.
pub record Meets (limit : Float) (agent obstacle : Leg) (t : TimePoint) (q : Quadratic) : Type 0 where
  pub first : State
  pub second : State
  pub agent_moves : Moves agent t first
  pub obstacle_moves : Moves obstacle t second
  pub quadratic : q ≡ quadratic_of limit first second

pub data Met (limit : Float) (agent obstacle : Leg) (t : TimePoint) : Result Quadratic Refusal → Type 0 where
  both : {q : Quadratic} → Meets limit agent obstacle t q → Met limit agent obstacle t (Ok q)
  missed : (holds agent t && holds obstacle t) ≡ false → Met limit agent obstacle t (Err Refusals.Apart)
  astray : Strays agent t ⊎ Strays obstacle t → Met limit agent obstacle t (Err Refusals.Strayed)

pub met : (limit : Float) (agent obstacle : Leg) (t : TimePoint) →
    Met limit agent obstacle t (meeting_from limit agent obstacle t)
unfolding meeting_from
met limit agent obstacle t = by (motion agent t) (motion obstacle t)
  where
    by : {m n : Result (Option State) Strayed} → Motioned agent t m → Motioned obstacle t n →
        Met limit agent obstacle t (moving m (λ p. moving n (λ q. Ok (quadratic_of limit p q))))
    by (there {s = p} h) (there {s = q} k) =
        both (record { first = p; second = q; agent_moves = h; obstacle_moves = k; quadratic = refl })
    by (there h) (outside k) = missed (rw (h.holding, k))
    by (there h) (adrift k) = astray (inr k)
    by (outside h) n = missed (rw h)
    by (adrift h) n = astray (inl h)

pub meets : {limit : Float} {agent obstacle : Leg} {t : TimePoint} {q : Quadratic} →
    meeting_from limit agent obstacle t ≡ Ok q → Meets limit agent obstacle t q
meets {limit} {agent} {obstacle} {t} {q} e = by (rw e at (met limit agent obstacle t))
  where
    by : Met limit agent obstacle t (Ok q) → Meets limit agent obstacle t q
    by (both m) = m

-- So a range from whose start on there is a quadratic is in order.
pub range_in_order : {limit : Float} {agent obstacle : Leg} {q : Quadratic} →
    Meets limit agent obstacle (range_start agent obstacle) q → (range_start agent obstacle).0 ≤ℤ (range_end agent obstacle).0
range_in_order {limit} {agent} {obstacle} m =
    (in_range agent obstacle m.agent_moves.holding m.obstacle_moves.holding).1
