-- The search for hints keeps them sound: on an input of the table it is refused by 4, 7 and 10 only (RULES 4.4, 4.7, 4.10).
-- Assumes nothing.
use Prim.Native.Nat.{ℕ, suc, ◌≤◌}
use mathlib.Core.Path.{◌≡◌, refl, subst}
use mathlib.Core.Logic.{◌⊎◌, inl, inr, ⊎_elim}
use mathlib.Core.Bool.{true, false}
use mathlib.Core.List.{List, [], ◌∷◌}
use native.Mathlib.Omega.{arith}
use lib.IntN.{ℤ, pos, ◌-ℤ◌, +ℤ_invr}
use lib.Signed.{lt_z, ◌≤ℤ◌, ◌<ℤ◌, lt_z_no, ≤ℤ_refl}
use Rattle.std.specs.Prelude.{Result, Ok, Err, Option, Some, None}
use Rattle.refusals.specs.declared.Refusal.{Refusal}
use Rattle.refusals.specs.declared.Refusal.TheVariants as Refusals
use Rattle.lent.specs.Listed.{every}
use Rattle.floats.proofs.Tests.{failed, is_true}
use Rattle.times.proofs.Integers.{below_or_at_most, at_most_trans, difference_mono}
use Rattle.times.proofs.Exact.{both}
use Rattle.shapes.specs.Box.{overlap}
use Rattle.domain.specs.Domain.{is_limit, is_leg, is_profile}
use Rattle.shapes.specs.Leg.{is_rising, is_brief}
use Rattle.shapes.specs.Vector.{dot_of}
use Rattle.shapes.specs.declared.bounding_box.BoundingBox.{BoundingBox}
use Rattle.shapes.specs.declared.profile.CircularProfile.{CircularProfile}
use Rattle.shapes.specs.declared.vector.Vector.{Vector}
use Rattle.shapes.specs.declared.waypoint.Leg.{Leg}
use Rattle.times.specs.declared.time.TimePoint.{TimePoint}
use Rattle.domain.proofs.Within.{leg_start, leg_end, waypoint_time, critical_squared_limit}
use Rattle.proximity.proofs.Arrivals.{times_given}
use Rattle.courses.specs.Course.{course_of}
use Rattle.courses.specs.declared.course.Course.{Course}
use Rattle.courses.specs.declared.course.Run.{Run}
use Rattle.line_proximity.proofs.OnDomain.{Steady, Charted, Headed, leg_runs, course_given}
use Rattle.table.specs.Obstacle.{Obstacle, legs_of}
use Rattle.table.proofs.Accepted.{is_driven, is_fit}
use Rattle.hint_list.specs.Hints.{one_wait}
use Rattle.hint_list.proofs.Sound.{MayBe, Sound, none_sound, wait_sound, either_sound, then_sound}
use Rattle.hint_waits.specs.Crossing.{crossing_wait}
use Rattle.hint_waits.specs.Standing.{standing_wait}
use Rattle.hint_waits.specs.Oncoming.{oncoming_wait}
use Rattle.hint_waits.proofs.OnDomain.{Waited, NeverRefused, crossing_waited, standing_waited, oncoming_waited}
use Rattle.hint_chasing.specs.declared.chase.Gaps.{Gaps}
use Rattle.hint_following.proofs.Sound.{follow_sound}
use Rattle.hint_walk.specs.LegHints.{part_of, part_hints, leg_hints}
use Rattle.hint_walk.specs.Walk.{gaps_of, other_of, hint_box, near_leg, near_legs, near_obstacle, near_obstacles, hints_of}
use Rattle.hint_walk.specs.declared.walk.Other.{Other}
use Rattle.hint_walk.specs.declared.leg_hints.Part.{Part}
use Rattle.hint_walk.specs.declared.leg_hints.Part.TheVariants as P

-- What a part answers is stored, where each refusal that it has may be.
part_stored : {may : Refusal → Type 0} (n : ℕ) (wait : Result (Option (Vector × TimePoint)) Refusal) (obstacle : ℕ) →
    n ≤ 64 → Waited may wait → ((why : Refusal) → may why → MayBe why) → Sound n (one_wait n wait obstacle)
part_stored {may} n wait obstacle few answered told =
    wait_sound n wait obstacle few (λ why e. told why (subst (Waited may) e answered))

-- ---- One leg.

module _ {own : Leg} {agent : Course} (h : Charted own agent) where
  module _ (leg : Run) (gaps : Gaps) (obstacle : ℕ) (g : Steady leg) (hl : is_limit gaps.squared ≡ true) where
    part_sound : (n : ℕ) → n ≤ 64 → Sound n (part_hints agent leg gaps obstacle n)
    unfolding part_hints
    part_sound n few = by (part_of agent leg (dot_of leg.velocity agent.direction)) refl
      where
        stored : (wait : Result (Option (Vector × TimePoint)) Refusal) → Waited NeverRefused wait → Sound n (one_wait n wait obstacle)
        stored wait answered = part_stored n wait obstacle few answered (λ why never. absurd never)

        by : (part : Part) → part_of agent leg (dot_of leg.velocity agent.direction) ≡ part →
            Sound n (part_hints agent leg gaps obstacle n)
        by P.Oncoming e = rw e (stored (oncoming_wait agent leg gaps.squared) (oncoming_waited gaps.squared h g hl))
        by P.Outpacing e = rw e (none_sound n few)
        by P.Following e = rw e (follow_sound agent leg obstacle gaps (dot_of leg.velocity agent.direction) n few)
        by P.Standing e = rw e (stored (standing_wait agent leg gaps.squared) (standing_waited gaps.squared h g hl))

    leg_sound : (n : ℕ) → n ≤ 64 → Sound n (leg_hints agent leg gaps obstacle n)
    unfolding leg_hints
    leg_sound n few =
        let crossing = crossing_wait agent leg gaps.squared in
        then_sound n (one_wait n crossing obstacle) (part_hints agent leg gaps obstacle)
        (part_stored n crossing obstacle few (crossing_waited gaps.squared h g hl) (λ why.
        ⊎_elim (λ (e : why ≡ Refusals.NoLine). inl e) (λ (e : why ≡ Refusals.Strayed). inr (inl e))))
        part_sound

  -- ---- The legs of an obstacle.

  module _ (bounds : BoundingBox) (other : Other) (hl : is_limit other.gaps.squared ≡ true) where
    near_leg_sound : (leg : Leg) (n : ℕ) →
        is_leg leg ≡ true → is_rising leg ≡ true → n ≤ 64 → Sound n (near_leg agent bounds other leg n)
    unfolding near_leg
    near_leg_sound leg n e rising few =
        let r = leg_runs leg e rising in
        let near = leg_sound r.run other.gaps other.number r.steady hl n few in
        rw r.ran (either_sound n (overlap bounds (hint_box other.footprint leg)) _ _ near (none_sound n few))

    legs_sound : (legs : List Leg) (n : ℕ) → every is_driven legs ≡ true → n ≤ 64 → Sound n (near_legs agent bounds other legs n)
    unfolding near_legs every
    legs_sound [] n e few = none_sound n few
    legs_sound (leg ∷ legs) n e few =
        let here = both (is_driven leg) (every is_driven legs) e in
        let driven = both (is_leg leg) (is_rising leg) here.0 in
        then_sound n (near_leg agent bounds other leg n) (near_legs agent bounds other legs)
        (near_leg_sound leg n driven.0 driven.1 few)
        (λ m. legs_sound legs m here.1)

  -- ---- The obstacles.

  module _ (p : CircularProfile) (bounds : BoundingBox) (hp : is_profile p ≡ true) where
    squared_limit : (number : ℕ) (q : CircularProfile) → is_profile q ≡ true → is_limit (other_of p number q).gaps.squared ≡ true
    unfolding gaps_of other_of
    squared_limit number q hq = critical_squared_limit p q hp hq

    obstacle_sound : (number : ℕ) (o : Obstacle) (n : ℕ) →
        is_fit o ≡ true → n ≤ 64 → Sound n (near_obstacle agent p bounds number o n)
    unfolding near_obstacle
    obstacle_sound number o n e few =
        let legs = legs_of o.waypoints in
        let fit = both (is_profile o.profile) (every is_driven legs) e in
        let hl = squared_limit number o.profile fit.0 in
        let near = legs_sound bounds (other_of p number o.profile) hl legs n fit.1 few in
        either_sound n (overlap bounds o.bounds) _ _ near (none_sound n few)

    obstacles_sound : (number : ℕ) (os : List Obstacle) (n : ℕ) →
        every is_fit os ≡ true → n ≤ 64 → Sound n (near_obstacles agent p bounds number os n)
    unfolding near_obstacles every
    obstacles_sound number [] n e few = none_sound n few
    obstacles_sound number (o ∷ os) n e few =
        let here = both (is_fit o) (every is_fit os) e in
        then_sound n (near_obstacle agent p bounds number o n) (near_obstacles agent p bounds (suc number) os)
        (obstacle_sound number o n here.0 few)
        (λ m. obstacles_sound (suc number) os m here.1)

-- All of them, for an agent and obstacles of the table (RULES 10.1 to 10.43).
pub hints_sound : (p : CircularProfile) (leg : Leg) (bounds : BoundingBox) (obstacles : List Obstacle) →
    is_profile p ≡ true → is_leg leg ≡ true → is_rising leg ≡ true → every is_fit obstacles ≡ true →
    Sound 0 (hints_of p leg bounds obstacles)
unfolding hints_of
hints_sound p leg bounds obstacles hp e rising fit = by (course_of leg) refl (course_given leg e rising)
  where
    by : (heading : Result (Option Course) Refusal) → course_of leg ≡ heading → Headed leg heading → Sound 0 (hints_of p leg bounds obstacles)
    by (Ok (Some agent)) q h = rw q (obstacles_sound h p bounds hp 0 obstacles 0 fit (omega arith))
    by (Ok None) q h = rw q (none_sound 0 (omega arith))
    by (Err why) q h = absurd h

-- A leg of the table that lasts 10 ns or more is such an agent's (RULES 4.13).
pub lasting_rises : (leg : Leg) → is_leg leg ≡ true → is_brief leg ≡ false → is_rising leg ≡ true
unfolding is_brief is_rising
lasting_rises leg e brief = by (below_or_at_most start end)
  where
    start : ℤ
    start = leg.start.time.0

    end : ℤ
    end = leg.end.time.0

    long : pos 10 ≤ℤ (end -ℤ start)
    long =
        let first = waypoint_time leg.start (leg_start leg e) in
        let last = waypoint_time leg.end (leg_end leg e) in
        lt_z_no (failed (rw (times_given leg.start.time leg.end.time first last) at brief))

    by : (start <ℤ end) ⊎ (end ≤ℤ start) → lt_z start end ≡ true
    by (inl rises) = is_true (lt_z start end) rises.lt
    by (inr falls) =
        let short : (end -ℤ start) ≤ℤ pos 0 =
        rw (+ℤ_invr start) at (difference_mono start start end start (≤ℤ_refl start) falls) in
        absurd (at_most_trans (pos 10) (end -ℤ start) (pos 0) long short).le
