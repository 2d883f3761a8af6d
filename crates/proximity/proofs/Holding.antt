-- Which instants a leg's times hold, and how the meeting range of two legs lies to them (RULES 8.2, 8.4, 8.9, 9.4).
-- Assumes nothing.
use mathlib.Core.Path.{◌≡◌, sym, ◌∙◌}
use mathlib.Core.Logic.{◌⊎◌, inl, inr}
use mathlib.Core.Bool.{true, false, not, ◌&&◌, and-false, true≢false}
use lib.Signed.{lt_z, ◌≤ℤ◌, ◌<ℤ◌, lt_z_no, ≤ℤ_refl}
use Rattle.floats.proofs.Tests.{passed}
use Rattle.times.specs.declared.time.TimePoint.{TimePoint}
use Rattle.times.proofs.Integers.{at-most→not-below, below_or_at_most, at_most_trans}
use Rattle.times.proofs.Order.{Chosen, later, earlier, chosen_has}
use Rattle.times.proofs.Exact.{both}
use Rattle.shapes.specs.Leg.{holds, is_inside}
use Rattle.shapes.specs.declared.waypoint.Leg.{Leg}
use Rattle.proximity.specs.Range.{range_start, range_end}

-- ---- One leg.

-- From its start to its end.
pub record Held (leg : Leg) (t : TimePoint) : Type 0 where
  pub from_start : leg.start.time.0 ≤ℤ t.0
  pub to_end : t.0 ≤ℤ leg.end.time.0

pub held : {leg : Leg} {t : TimePoint} → holds leg t ≡ true → Held leg t
unfolding holds
held {leg} {t} h =
    let tests = both (not (lt_z t.0 leg.start.time.0)) (not (lt_z leg.end.time.0 t.0)) h in
    record { from_start = lt_z_no (passed tests.0); to_end = lt_z_no (passed tests.1) }

holding : {leg : Leg} {t : TimePoint} → Held leg t → holds leg t ≡ true
unfolding holds
holding h = rw (at-most→not-below _ _ h.from_start, at-most→not-below _ _ h.to_end)

start_outside : (leg : Leg) (t : TimePoint) → t ≡ leg.start.time → is_inside leg t ≡ false
unfolding is_inside
start_outside leg t e = rw (e, at-most→not-below _ _ (≤ℤ_refl leg.start.time.0))

end_outside : (leg : Leg) (t : TimePoint) → t ≡ leg.end.time → is_inside leg t ≡ false
unfolding is_inside
end_outside leg t e = rw (e, at-most→not-below _ _ (≤ℤ_refl leg.end.time.0), and-false)

-- ---- Both.

pub starts : (agent obstacle : Leg) → Chosen ◌≤ℤ◌ agent.start.time obstacle.start.time (range_start agent obstacle)
starts agent obstacle = later agent.start.time obstacle.start.time

pub ends : (agent obstacle : Leg) → Chosen (λ x y. y ≤ℤ x) agent.end.time obstacle.end.time (range_end agent obstacle)
ends agent obstacle = earlier agent.end.time obstacle.end.time

module _ (agent obstacle : Leg) where
  abbrev t0 : TimePoint
  t0 = range_start agent obstacle

  abbrev t1 : TimePoint
  t1 = range_end agent obstacle

  -- An instant that both hold is in the range.
  pub in_range : {t : TimePoint} → holds agent t ≡ true → holds obstacle t ≡ true →
      ((range_start agent obstacle).0 ≤ℤ t.0) × (t.0 ≤ℤ (range_end agent obstacle).0)
  in_range {t} h k = (
    chosen_has (λ u. u.0 ≤ℤ t.0) (starts agent obstacle) (held h).from_start (held k).from_start,
    chosen_has (λ u. t.0 ≤ℤ u.0) (ends agent obstacle) (held h).to_end (held k).to_end,
  )

  start_held : t0.0 ≤ℤ t1.0 → (holds agent t0 && holds obstacle t0) ≡ true
  start_held ordered =
      let s = starts agent obstacle in
      let e = ends agent obstacle in
      let to-agent = at_most_trans t0.0 t1.0 agent.end.time.0 ordered e.first in
      let to-obstacle = at_most_trans t0.0 t1.0 obstacle.end.time.0 ordered e.second in
      let agent-holds : holds agent t0 ≡ true = holding (record { from_start = s.first; to_end = to-agent }) in
      let obstacle-holds : holds obstacle t0 ≡ true = holding (record { from_start = s.second; to_end = to-obstacle }) in
      rw (agent-holds, obstacle-holds)

  -- A range whose start one of them does not hold ends before it begins.
  pub missed_backward : (holds agent (range_start agent obstacle) && holds obstacle (range_start agent obstacle)) ≡ false →
      (range_end agent obstacle).0 <ℤ (range_start agent obstacle).0
  missed_backward missed =
      elim (below_or_at_most t1.0 t0.0) [
        | inl backward ↦ backward
        | inr ordered ↦ absurd (true≢false (sym (start_held ordered) ∙ missed))
      ]

  -- An end of it is an end of a leg, and not inside that one.
  pub end_not_inside : {t : TimePoint} → (t ≡ range_start agent obstacle) ⊎ (t ≡ range_end agent obstacle) →
      (is_inside agent t && is_inside obstacle t) ≡ false
  end_not_inside {t} (inl e) =
      elim (starts agent obstacle).one_of [
        | inl f ↦ rw (start_outside agent t (e ∙ f))
        | inr f ↦ rw (start_outside obstacle t (e ∙ f), and-false)
      ]
  end_not_inside {t} (inr e) =
      elim (ends agent obstacle).one_of [
        | inl f ↦ rw (end_outside agent t (e ∙ f))
        | inr f ↦ rw (end_outside obstacle t (e ∙ f), and-false)
      ]
