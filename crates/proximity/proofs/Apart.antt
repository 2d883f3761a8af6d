-- Refusal 6 is exactly that the meeting range ends 100,000 ns or more before it begins (RULES 4.6, 8.9).
-- Assumes nothing.
use mathlib.Core.Path.{◌≡◌, refl, ◌∙◌}
use mathlib.Core.Logic.{◌↔◌, inl, inr}
use mathlib.Core.Bool.{true, false, true≢false}
use borrow.Author.Tests.{le-ltb}
use lib.Dec.{ltb, leb→le}
use lib.IntN.{ℤ, pos, negsuc, nat_abs, ◌-ℤ◌, +ℤ_invr}
use lib.Signed.{◌≤ℤ◌, ◌<ℤ◌, ≤ℤ_refl, clash_ℤ}
use lib.Ieee.{Float}
use Rattle.times.specs.Time.{is_exact, span_between}
use Rattle.times.specs.declared.time.Duration.{Duration}
use Rattle.times.proofs.Answers.{span_made}
use Rattle.times.proofs.Integers.{below→at-most, below_or_at_most, at_most_trans, difference_mono}
use Rattle.shapes.specs.declared.waypoint.Leg.{Leg}
use Rattle.motions.specs.Quadratic.{meeting_from}
use Rattle.proximity.specs.Range.{range_start, range_end}
use Rattle.proximity.specs.Proximity.{long_range, proximity_of}
use Rattle.proximity.specs.Asked.{legs_examined, asked_proximity}
use Rattle.proximity.specs.declared.detect.Proximity.{Proximity}
use Rattle.proximity.specs.declared.detect.Proximity.TheVariants.{Never, Enters, Passes}
use Rattle.proximity.proofs.Holding.{in_range}
use Rattle.proximity.proofs.Short.{short_is_under, Long, long_gap}
use Rattle.proximity.proofs.Moving.{never_strays, Met, both, missed, astray, met}
use Rattle.proximity.proofs.Origins.{Origin, origin}
use Rattle.proximity.proofs.Origins.{nothing, at_end, enters, passes, rootless, creeping, apart, lost}
use Rattle.proximity.proofs.Placed.{Accepted, range_start_time, range_end_time, fine}
use Rattle.proximity.proofs.Arrivals.{times_given}
use Rattle.std.specs.Prelude.{Result, Ok, Err}
use Rattle.refusals.specs.declared.Refusal.{Refusal}
use Rattle.motions.specs.declared.quadratic.Quadratic.{Quadratic}
use Rattle.refusals.specs.declared.Refusal.TheVariants as Refusals

-- The range is not short and ends before it begins.
pub record Apart (agent obstacle : Leg) : Type 0 where
  pub long : Long agent obstacle
  pub backward : (range_end agent obstacle).0 <ℤ (range_start agent obstacle).0

-- ---- In nanoseconds.

pub apart_gap : (agent obstacle : Leg) → Apart agent obstacle →
    pos 100000 ≤ℤ ((range_start agent obstacle).0 -ℤ (range_end agent obstacle).0)
apart_gap agent obstacle a = long_gap a.long (below→at-most _ _ a.backward.lt)

not_under : (z : ℤ) → pos 100000 ≤ℤ z → ltb (nat_abs z) 100000 ≡ false
not_under (pos n) h = le-ltb n 100000 (leb→le 100000 n h.le)
not_under (negsuc n) h = absurd h.le

pub gap_apart : (agent obstacle : Leg) {d : Duration} →
    span_between (range_end agent obstacle) (range_start agent obstacle) ≡ Ok d →
    pos 100000 ≤ℤ ((range_start agent obstacle).0 -ℤ (range_end agent obstacle).0) → Apart agent obstacle
gap_apart agent obstacle {d} e h =
    let t0 = range_start agent obstacle in
    let t1 = range_end agent obstacle in
    let wide : pos 100000 ≤ℤ d.0 = rw (span_made t1 t0 d e).number at h in
    record {
      long = record { width = d; given = e; not_short = short_is_under d ∙ not_under d.0 wide };
      backward =
          elim (below_or_at_most t1.0 t0.0) [
            | inl k ↦ k
            | inr k ↦
                let none = rw (+ℤ_invr t1.0) at (difference_mono t1.0 t1.0 t0.0 t1.0 (≤ℤ_refl t1.0) k) in
                absurd (at_most_trans (pos 100000) (t0.0 -ℤ t1.0) (pos 0) h none).le
          ];
    }

-- ---- The refusal.

abbrev SixIsApart : Leg → Leg → Result Proximity Refusal → Type 0
SixIsApart agent obstacle (Ok Never) = Unit {0}
SixIsApart agent obstacle (Ok (Enters t)) = Unit {0}
SixIsApart agent obstacle (Ok (Passes t u)) = Unit {0}
SixIsApart agent obstacle (Err why) = why ≡ Refusals.Apart → Apart agent obstacle

module _ (limit : Float) (agent obstacle : Leg) where
  told : SixIsApart agent obstacle (proximity_of limit agent obstacle)
  told = by (origin limit agent obstacle)
    where
      by : {p : Result Proximity Refusal} → Origin limit agent obstacle p → SixIsApart agent obstacle p
      by nothing = tt
      by (at_end e h k) = tt
      by (enters r) = tt
      by (passes r s) = tt
      by rootless = λ e. absurd (true≢false cc)
      by creeping = λ e. absurd (true≢false cc)
      by (apart l h) = λ e. record { long = l; backward = h }
      by lost = λ e. absurd (true≢false cc)

  pub six_is_apart : proximity_of limit agent obstacle ≡ Err Refusals.Apart → Apart agent obstacle
  six_is_apart e = (rw e at told) refl

  no_meeting : {d e : Duration} → Apart agent obstacle →
      span_between agent.start.time agent.end.time ≡ Ok d →
      span_between obstacle.start.time obstacle.end.time ≡ Ok e →
      meeting_from limit agent obstacle (range_start agent obstacle) ≡ Err Refusals.Apart
  no_meeting a agent_lasts obstacle_lasts =
      let t0 = range_start agent obstacle in
      by (span_made (range_end agent obstacle) t0 a.long.width a.long.given).first (met limit agent obstacle t0)
    where
      by : {m : Result Quadratic Refusal} → is_exact (range_start agent obstacle).0 ≡ true →
          Met limit agent obstacle (range_start agent obstacle) m → m ≡ Err Refusals.Apart
      by reach (both m) =
          clash_ℤ a.backward (in_range agent obstacle m.agent_moves.holding m.obstacle_moves.holding).1
      by reach (missed h) = refl
      by reach (astray (inl s)) = absurd (never_strays agent_lasts reach s)
      by reach (astray (inr s)) = absurd (never_strays obstacle_lasts reach s)

  -- Provided that neither leg lasts more than 2^53 ns, which comes first (RULES 8.10).
  pub apart_is_six : {d e : Duration} → Apart agent obstacle →
      span_between agent.start.time agent.end.time ≡ Ok d →
      span_between obstacle.start.time obstacle.end.time ≡ Ok e →
      proximity_of limit agent obstacle ≡ Err Refusals.Apart
  unfolding proximity_of long_range
  apart_is_six a agent_lasts obstacle_lasts =
      rw (a.long.given, a.long.not_short, no_meeting a agent_lasts obstacle_lasts)

-- ---- Of legs that a call accepts, which never last so long.

pub six_exactly : (limit : Float) {agent obstacle : Leg} → Accepted agent → Accepted obstacle →
    (proximity_of limit agent obstacle ≡ Err Refusals.Apart) ↔
    (pos 100000 ≤ℤ ((range_start agent obstacle).0 -ℤ (range_end agent obstacle).0))
six_exactly limit {agent} {obstacle} a b = (
  (λ e. apart_gap agent obstacle (six_is_apart limit agent obstacle e)),
  (λ h.
      apart_is_six limit agent obstacle
      (gap_apart agent obstacle (times_given _ _ (range_end_time a b) (range_start_time a b)) h)
      (times_given agent.start.time agent.end.time a.start_time a.end_time)
      (times_given obstacle.start.time obstacle.end.time b.start_time b.end_time)),
)

pub asked_six : (limit : Float) (agent obstacle : Leg) → legs_examined limit agent obstacle ≡ Ok tt →
    (asked_proximity limit agent obstacle ≡ Err Refusals.Apart) ↔
    (pos 100000 ≤ℤ ((range_start agent obstacle).0 -ℤ (range_end agent obstacle).0))
unfolding asked_proximity
asked_six limit agent obstacle e =
    let f = fine limit agent obstacle e in rw e (six_exactly limit f.agent_accepted f.obstacle_accepted)
