-- The walk as the Rust writes it: over the legs that `iter_range` gives, with an early `return true` (RULES 9.10).
-- Assumes nothing.
use Rattle.std.specs.Prelude.{cond, List, [], ◌∷◌, Float}
use Rattle.std.specs.Int.Signed.{lt_z}
use Rattle.shapes.specs.Box.{box_of_leg, overlap}
use Rattle.shapes.specs.declared.bounding_box.BoundingBox.{BoundingBox}
use Rattle.shapes.specs.declared.waypoint.Leg.{Leg}
use Rattle.conflicts.specs.Conflict.{conflict_of}
use Rattle.conflicts.specs.declared.conflict.Verdict.{Verdict}
use Rattle.conflicts.specs.declared.conflict.Verdict.TheVariants.{Clear, Conflict}
use Rattle.table.specs.Obstacle.{Obstacle, legs_of}
use Rattle.segments.specs.Segment.{is_during}
use Rattle.std.specs.Prelude.{Result, Ok, Err}
use Rattle.refusals.specs.declared.Refusal.{Refusal}

-- What a turn of a loop does: it goes on to the next, or it returns from the whole function.
pub data Turn : Type 0 where
  Goes : Turn
  Returns : Result Verdict Refusal → Turn

-- A verdict on a leg returns at once, unless it is clear.
abbrev pub turn_by : Result Verdict Refusal → Turn
turn_by (Ok Clear) = Goes
turn_by (Ok Conflict) = Returns (Ok Conflict)
turn_by (Err why) = Returns (Err why)

abbrev pub and_then : Turn → Turn → Turn
and_then Goes rest = rest
and_then (Returns v) rest = Returns v

-- The turns of a loop over a list.
unfoldable pub turns : {A : Type 0} → (A → Turn) → List A → Turn
turns turn [] = Goes
turns turn (x ∷ xs) = and_then (turn x) (turns turn xs)

-- `iter_range` for the agent's start and end (RULES 2.7).
unfoldable pub iter_range : Leg → List Leg → List Leg
iter_range agent [] = []
iter_range agent (leg ∷ legs) = cond (is_during agent leg) (leg ∷ iter_range agent legs) (iter_range agent legs)

-- A leg: `return true` where the agent's ends before it starts, else the verdict on the two.
unfoldable pub leg_turn : Leg → BoundingBox → Float → Float → Leg → Turn
leg_turn agent bounds footprint limit leg =
    cond (lt_z agent.end.time.0 leg.start.time.0)
    (Returns (Ok Clear))
    (turn_by (conflict_of agent bounds leg (box_of_leg footprint leg) limit))

-- An obstacle: `continue` where its box does not overlap, else its legs.
unfoldable pub obstacle_turn : Leg → BoundingBox → Obstacle → Turn
obstacle_turn agent bounds o =
    cond (overlap bounds o.bounds)
    (turns (leg_turn agent bounds o.profile.footprint o.limit) (iter_range agent (legs_of o.waypoints)))
    Goes

-- The function as a whole: `true`, for clear, after the last obstacle.
abbrev pub returned : Turn → Result Verdict Refusal
returned Goes = Ok Clear
returned (Returns v) = v

unfoldable pub segment_as_written : Leg → BoundingBox → List Obstacle → Result Verdict Refusal
segment_as_written agent bounds obstacles = returned (turns (obstacle_turn agent bounds) obstacles)
