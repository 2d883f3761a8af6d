-- The hints for one leg of an obstacle (RULES 10.8, 10.14, 10.15).
-- Assumes nothing.
use Rattle.std.specs.Prelude.{ℕ, cond, not, ◌&&◌, [], Float}
use Rattle.std.specs.Int.Signed.{lt_z}
use Rattle.std.specs.Float.Ieee
use Rattle.std.specs.Float.{binary64}
use Rattle.floats.specs.Constants.{nought}
use Rattle.shapes.specs.Vector.{dot_of}
use Rattle.courses.specs.declared.course.Course.{Course}
use Rattle.courses.specs.declared.course.Run.{Run}
use Rattle.hint_list.specs.Hints.{Hints, Of, one_wait, found_then}
use Rattle.hint_waits.specs.Crossing.{crossing_wait}
use Rattle.hint_waits.specs.Standing.{standing_wait}
use Rattle.hint_waits.specs.Oncoming.{oncoming_wait}
use Rattle.hint_following.specs.Follow.{follow_hints}
use Rattle.hint_chasing.specs.declared.chase.Gaps.{Gaps}
use Rattle.hint_walk.specs.declared.leg_hints.Part.{Part}
use Rattle.hint_walk.specs.declared.leg_hints.Part.TheVariants.{Oncoming, Outpacing, Following, Standing}

-- 1e-2 m/s: a leg that goes along no faster stands.
abbrev pub slowest : Float
slowest = Ieee.of_bits binary64 0x3f84_7ae1_47ae_147b

-- The part for a leg that goes along the agent's line at the speed `aligned` (RULES 10.15).
unfoldable pub part_of : Course → Run → Float → Part
part_of agent leg aligned =
    cond (Ieee.le nought aligned && not (lt_z leg.end.0 agent.run.start.0))
    (cond (Ieee.le agent.speed aligned) Outpacing (cond (Ieee.lt slowest aligned) Following Standing))
    Oncoming

-- The hints of that part, behind n others (RULES 10.14, 10.15).
unfoldable pub part_hints : Course → Run → Gaps → ℕ → ℕ → Hints
part_hints agent leg gaps obstacle n = by (part_of agent leg (dot_of leg.velocity agent.direction))
  where
    by : Part → Hints
    by Oncoming = one_wait n (oncoming_wait agent leg gaps.squared) obstacle
    by Outpacing = Of []
    by Following = follow_hints agent leg gaps (dot_of leg.velocity agent.direction) obstacle n
    by Standing = one_wait n (standing_wait agent leg gaps.squared) obstacle

-- First the crossing hint, then the part, whatever came of it (RULES 10.8).
unfoldable pub leg_hints : Course → Run → Gaps → ℕ → ℕ → Hints
leg_hints agent leg gaps obstacle n =
    found_then n (one_wait n (crossing_wait agent leg gaps.squared) obstacle) (part_hints agent leg gaps obstacle)
