-- Where the range of two placed legs is not short, the doubles of their meeting are finite, the root is given and the two roots
-- are in order: the Rust's `assert!(t_m <= t_p)` (RULES 8.16, 20.6).
-- Assumes nothing.
use mathlib.Core.Path.{◌≡◌, subst}
use mathlib.Core.Bool.{true, false}
use lib.Signed.{◌≤ℤ◌}
use lib.Ieee.{Float, binary64, mul, lt, le, is_nan}
use lib.Ieee.Fits.{sub-fits}
use Rattle.floats.proofs.Relations.{◌≼◌, Finite}
use Rattle.floats.specs.Constants.{nought}
use Rattle.floats.proofs.Magnitude.{abs, Within}
use Rattle.floats.specs.Quadratic.{four, radicand, lower, upper}
use Rattle.floats.proofs.Largest.{longest, widest, fastest, remotest, largest_a, largest_b, largest_c}
use Rattle.floats.specs.Constants.{hundred_millionth, ten_thousandth}
use Rattle.floats.proofs.Tests.{failed}
use Rattle.floats.proofs.Strict.{not-lt→le}
use Rattle.floats.proofs.NotANumber.{finite_known}
use Rattle.floats.proofs.Meeting as F
use Rattle.times.specs.Time.{span_between, seconds_of}
use Rattle.times.specs.declared.time.TimePoint.{TimePoint}
use Rattle.times.specs.declared.time.Duration.{Duration}
use Rattle.times.proofs.Answers.{span_made}
use Rattle.times.proofs.Seconds.{seconds_finite, seconds_within_power}
use Rattle.root.specs.Root.{IsRoot, root_of}
use Rattle.root.proofs.Given.{root_given}
use Rattle.root.proofs.Meets as N
use Rattle.root.proofs.Size.{root_fine}
use Rattle.shapes.specs.declared.waypoint.Leg.{Leg}
use Rattle.proximity.specs.Range.{range_start, range_end}
use Rattle.motions.specs.declared.motion.State.{State}
use Rattle.motions.specs.declared.quadratic.Quadratic.{Quadratic}
use Rattle.proximity.proofs.Holding.{starts, ends}
use Rattle.proximity.proofs.Short.{wide_seconds, Long, long_around}
use Rattle.proximity.proofs.Moving.{Moves, Meets, range_in_order}
use Rattle.proximity.proofs.Placed.{Placed}
use Rattle.std.specs.Prelude.{Ok}

-- The quadratic q of two placed legs whose range is not short, from the range's start.
pub record Posed (limit : Float) (agent obstacle : Leg) (q : Quadratic) : Type 0 where
  pub agent_placed : Placed agent
  pub obstacle_placed : Placed obstacle
  pub limit_within : Within widest limit
  pub long : Long agent obstacle
  pub meeting : Meets limit agent obstacle (range_start agent obstacle) q

-- ---- How long the legs last.

-- A leg around a range that is in order and not short lasts 1e-4 s or more (RULES 8.6).
lasts_long : {agent obstacle : Leg} {d : Duration} (leg : Leg) → Long agent obstacle →
    (range_start agent obstacle).0 ≤ℤ (range_end agent obstacle).0 →
    leg.start.time.0 ≤ℤ (range_start agent obstacle).0 → (range_end agent obstacle).0 ≤ℤ leg.end.time.0 →
    span_between leg.start.time leg.end.time ≡ Ok d → ten_thousandth ≼ seconds_of d.0
lasts_long {d = d} leg long ordered h k lasting =
    wide_seconds d.0
    (rw (span_made leg.start.time leg.end.time d lasting).number at
    (long_around long leg.start.time.0 leg.end.time.0 ordered h k))

module _ {limit : Float} {agent obstacle : Leg} {q : Quadratic} (p : Posed limit agent obstacle q) where
  pub agent_lasts : {d : Duration} →
      span_between agent.start.time agent.end.time ≡ Ok d → ten_thousandth ≼ seconds_of d.0
  agent_lasts =
      lasts_long agent p.long (range_in_order p.meeting) (starts agent obstacle).first (ends agent obstacle).first

  pub obstacle_lasts : {d : Duration} →
      span_between obstacle.start.time obstacle.end.time ≡ Ok d → ten_thousandth ≼ seconds_of d.0
  obstacle_lasts =
      lasts_long obstacle p.long (range_in_order p.meeting) (starts agent obstacle).second (ends agent obstacle).second

-- ---- How large the numbers are.

record Bounded (s : State) : Type 0 where
  pub place_x : Within remotest s.place.x
  pub place_y : Within remotest s.place.y
  pub velocity_x : Within fastest s.velocity.x
  pub velocity_y : Within fastest s.velocity.y

bounded : {leg : Leg} {t : TimePoint} {s : State} (m : Moves leg t s) →
    Placed leg → ten_thousandth ≼ seconds_of m.lasts.0 → Bounded s
bounded {leg} {t} {s} m p h =
    let lasts = seconds_of m.lasts.0 in
    let finite : Finite lasts =
    seconds_finite m.lasts.0 (span_made leg.start.time leg.end.time m.lasts m.lasting).result in
    let gone : Within longest (seconds_of m.gone.0) =
    seconds_within_power m.gone.0 (span_made leg.start.time t m.gone m.going).result in
    let vx = F.velocity_within lasts p.start_x p.end_x h finite in
    let vy = F.velocity_within lasts p.start_y p.end_y h finite in
    rw m.state (record {
      place_x = F.position_within p.start_x vx gone;
      place_y = F.position_within p.start_y vy gone;
      velocity_x = vx;
      velocity_y = vy;
    })

-- The coefficients are within the bounds of Domain, and a, whose size the Rust tests, is its own size (RULES 8.11, 8.12).
pub record Sound (q : Quadratic) : Type 0 where
  pub a_within : Within largest_a q.a
  pub b_within : Within largest_b q.b
  pub c_within : Within largest_c q.c
  pub a_size : abs q.a ≡ q.a

pub sound : {limit : Float} {agent obstacle : Leg} {q : Quadratic} → Posed limit agent obstacle q → Sound q
sound p =
    let m = p.meeting in
    let a = bounded m.agent_moves p.agent_placed (agent_lasts p m.agent_moves.lasting) in
    let b = bounded m.obstacle_moves p.obstacle_placed (obstacle_lasts p m.obstacle_moves.lasting) in
    let px = F.separation_within b.place_x a.place_x in
    let py = F.separation_within b.place_y a.place_y in
    let vx = F.closing_within b.velocity_x a.velocity_x in
    let vy = F.closing_within b.velocity_y a.velocity_y in
    rw m.quadratic (record {
      a_within = F.a_within vx vy;
      b_within = F.b_within vx vy px py;
      c_within = F.c_within px py p.limit_within;
      a_size = F.dot_abs _ _;
    })

-- ---- The roots.

pub radicand_finite : {q : Quadratic} → Sound q → Finite (radicand q.a q.b q.c)
radicand_finite h = F.radicand_finite h.a_within h.b_within h.c_within

-- A radicand that is not below 0 has a root: refusal 1 is not met.
pub root_is_given : {q : Quadratic} → Sound q → let r = radicand q.a q.b q.c in
    lt r nought ≡ false → (s : Float) × (root_of r ≡ Ok s)
root_is_given {q} h e =
    let r = radicand q.a q.b q.c in
    root_given r (radicand_finite h) (not-lt→le r nought (finite_known r (radicand_finite h)) (unfold is_nan in tt) (failed e))

-- A root of a radicand is 0 or more.
pub root_not_below : {s : Float} (a b c : Float) → root_of (radicand a b c) ≡ Ok s → nought ≼ s
root_not_below {s} a b c e =
    let r = radicand a b c in
    let fits = sub-fits binary64 (mul binary64 b b) (mul binary64 (mul binary64 four a) c) in
    (root_fine r s (subst (IsRoot r) e (N.meets r fits))).not_below

pub ordered : {q : Quadratic} {s : Float} → Sound q → lt q.a hundred_millionth ≡ false →
    root_of (radicand q.a q.b q.c) ≡ Ok s → le (lower q.a q.b s) (upper q.a q.b s) ≡ true
ordered {q} {s} h e f = F.roots_in_order s h.a_within h.b_within e (root_not_below q.a q.b q.c f)
