-- Whether a segment is safe is refused by 1, 2, 3 or 5: a leg that it is held against lasts at its time (RULES 2.7, 4.6, 9.8).
-- Assumes nothing.
use mathlib.Core.Path.{◌≡◌, refl, ap, ◌∙◌}
use mathlib.Core.Logic.{⊎_elim}
use mathlib.Core.Bool.{Bool, true, false, not, ◌&&◌}
use mathlib.Core.List.Memᴰ
use mathlib.Core.List.{List, [], ◌∷◌, Memᴰ}
use lib.Signed.{lt_z, ◌≤ℤ◌, lt_z_no, clash_ℤ}
use Rattle.lent.specs.Listed.{every}
use Rattle.floats.proofs.Tests.{passed, failed}
use Rattle.times.proofs.Integers.{below→at-most}
use Rattle.times.proofs.Order.{chosen_has}
use Rattle.times.proofs.Exact.{both}
use Rattle.shapes.specs.Box.{box_of_leg}
use Rattle.domain.specs.Domain.{is_limit, is_waypoint, is_leg, is_profile}
use Rattle.shapes.specs.Leg.{is_backward, is_rising}
use Rattle.shapes.specs.declared.profile.CircularProfile.{CircularProfile}
use Rattle.shapes.specs.declared.waypoint.Leg.{Leg}
use Rattle.proximity.specs.Proximity.{proximity_of}
use Rattle.proximity.specs.Range.{range_start, range_end}
use Rattle.proximity.proofs.Holding.{starts, ends}
use Rattle.proximity.proofs.OnDomain.{proximity_in_range}
use Rattle.conflicts.proofs.Conflicts.{refused_by_proximity}
use Rattle.table.specs.Examined.{is_laid, is_allowed, are_allowed, agent_examined}
use Rattle.table.specs.Lent.{Lent, obstacles_of}
use Rattle.table.specs.Obstacle.{legs_of}
use Rattle.table.proofs.Accepted.{is_driven, is_fit, accepted}
use Rattle.table.proofs.Shaped.{fine_fits}
use Rattle.segments.specs.Asked.{asked_segment}
use Rattle.segments.specs.Segment.{is_during, segment_of}
use Rattle.segments.proofs.Safe.{refused}
use Rattle.refusal_claims.specs.Numbers.{SegmentRefusal, Number, Shape, Backward, Creep}
use Rattle.refusal_claims.proofs.Examined.{Finds, agent_finds}
use Rattle.std.specs.Prelude.{Result, Ok, Err}
use Rattle.refusals.specs.declared.Refusal.{Refusal}
use Rattle.refusals.specs.declared.Refusal.TheVariants as Refusals

-- ---- A leg that lasts at the agent's time.

-- The two meet: their range does not end before it begins (RULES 8.4).
meets : (agent leg : Leg) → is_backward agent ≡ false → is_rising leg ≡ true → is_during agent leg ≡ true →
    (range_start agent leg).0 ≤ℤ (range_end agent leg).0
unfolding is_backward is_rising is_during
meets agent leg forward rising during =
    let ended = not (lt_z leg.end.time.0 agent.start.time.0) in
    let begun = not (lt_z agent.end.time.0 leg.start.time.0) in
    let lasts = both ended begun during in
    let own = lt_z_no (failed forward) in
    let other = below→at-most _ _ (passed rising) in
    let to_end = chosen_has (λ t. t.0 ≤ℤ agent.end.time.0) (starts agent leg) own (lt_z_no (passed lasts.1)) in
    let to-other = chosen_has (λ t. t.0 ≤ℤ leg.end.time.0) (starts agent leg) (lt_z_no (passed lasts.0)) other in
    chosen_has (λ t. (range_start agent leg).0 ≤ℤ t.0) (ends agent leg) to_end to-other

-- ---- Accepted obstacles.

each : {A : Type 0} (test : A → Bool) (xs : List A) → every test xs ≡ true → (x : A) → Memᴰ x xs → test x ≡ true
unfolding every
each test [] e x m = absurd (Memᴰ.not-nil m)
each test (y ∷ ys) e x m =
    let here = both (test y) (every test ys) e in
    ⊎_elim (λ (s : x ≡ y). ap test s ∙ here.0) (each test ys here.1 x) (Memᴰ.cases_cons m)

-- ---- The call.

module _ (p : CircularProfile) (agent : Leg) (lent : Lent) {why : Refusal} where
  creeps : agent_examined p agent lent ≡ (Ok tt) →
      segment_of agent (box_of_leg p.footprint agent) (obstacles_of lent) ≡ Err why → SegmentRefusal why
  unfolding agent_examined are_allowed is_allowed
  creeps fine e =
      let os = obstacles_of lent in
      let bounds = box_of_leg p.footprint agent in
      let f = refused agent bounds os why e in
      let o = f.obstacle in
      let leg = f.leg in
      let a = accepted p agent lent fine in
      let legs = legs_of o.waypoints in
      let fit = both (is_profile o.profile) (every is_driven legs) (each is_fit os a.others o f.met.obstacle) in
      let driven = both (is_leg leg) (is_rising leg) (each is_driven legs fit.1 leg f.met.leg_of) in
      let numbers = both (is_profile o.profile) (is_limit o.limit && every is_waypoint o.waypoints)
      (each is_allowed os (fine_fits (is_laid lent) p agent os fine).allowed o f.met.obstacle) in
      let limited = (both (is_limit o.limit) (every is_waypoint o.waypoints) numbers.1).0 in
      let near : proximity_of o.limit agent leg ≡ Err why =
      refused_by_proximity agent bounds leg (box_of_leg o.profile.footprint leg) o.limit f.verdict in
      ⊎_elim (λ (five : why ≡ Refusals.Creep). rw five Creep)
      (λ gap. absurd (clash_ℤ gap.1 (meets agent leg a.forward driven.1 f.met.during)))
      (rw near at (proximity_in_range o.limit agent leg limited a.own driven.0))

  pub segment_refused : asked_segment p agent lent ≡ Err why → SegmentRefusal why
  unfolding asked_segment
  segment_refused = by (agent_examined p agent lent) refl (agent_finds SegmentRefusal Number Shape Backward p agent lent)
    where
      by : (x : Result Unit Refusal) → agent_examined p agent lent ≡ x → Finds SegmentRefusal x →
          asked_segment p agent lent ≡ Err why → SegmentRefusal why
      by (Ok tt) e h told = creeps e (rw e at told)
      by (Err own) e h told = let same : own ≡ why = cc (rw e at told) in rw same at h
