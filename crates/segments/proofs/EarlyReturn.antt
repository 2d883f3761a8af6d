-- The Rust's early `return true` cannot be reached, and the walk with it is the walk over every obstacle (RULES 9.10).
-- Assumes nothing.
use mathlib.Core.Path.{◌≡◌, refl, ap, ◌∙◌}
use mathlib.Core.Bool.{Bool, true, false, cond, not}
use mathlib.Core.List.{List, [], ◌∷◌}
use borrow.Author.Tests.{not-true}
use lib.Signed.{lt_z}
use lib.Ieee.{Float}
use Rattle.times.proofs.Exact.{both}
use Rattle.shapes.specs.Box.{box_of_leg, overlap}
use Rattle.shapes.specs.declared.bounding_box.BoundingBox.{BoundingBox}
use Rattle.shapes.specs.declared.waypoint.Leg.{Leg}
use Rattle.conflicts.specs.Conflict.{conflict_of}
use Rattle.conflicts.specs.declared.conflict.Verdict.{Verdict}
use Rattle.conflicts.specs.declared.conflict.Verdict.TheVariants.{Clear, Conflict}
use Rattle.table.specs.Obstacle.{Obstacle, legs_of}
use Rattle.segments.specs.Segment.{is_during, leg_verdict, or_else, first_of, obstacle_verdict, segment_of}
use Rattle.segments.specs.Early.{Turn, Goes, turn_by, and_then, turns}
use Rattle.segments.specs.Early.{iter_range, leg_turn, obstacle_turn, returned, segment_as_written}
use Rattle.std.specs.Prelude.{Result, Ok, Err}
use Rattle.refusals.specs.declared.Refusal.{Refusal}

-- No leg that `iter_range` gives starts after the agent's end, which is what the early return asks for.
pub not_after : (agent leg : Leg) → is_during agent leg ≡ true → lt_z agent.end.time.0 leg.start.time.0 ≡ false
unfolding is_during
not_after agent leg e =
    let after = lt_z agent.end.time.0 leg.start.time.0 in
    let before = lt_z leg.end.time.0 agent.start.time.0 in
    not-true after (both (not before) (not after) e).1

-- Turns that follow verdicts go on as the first of them says.
turn_else : (v rest : Result Verdict Refusal) → and_then (turn_by v) (turn_by rest) ≡ turn_by (or_else v rest)
turn_else (Ok Clear) rest = refl
turn_else (Ok Conflict) rest = refl
turn_else (Err why) rest = refl

turns_first : {A : Type 0} (turn : A → Turn) (says : A → Result Verdict Refusal) → ((x : A) → turn x ≡ turn_by (says x)) →
    (xs : List A) → turns turn xs ≡ turn_by (first_of says xs)
unfolding turns first_of
turns_first turn says same [] = refl
turns_first turn says same (x ∷ xs) =
    rw (same x, turns_first turn says same xs) (turn_else (says x) (first_of says xs))

module _ (agent : Leg) (bounds : BoundingBox) where
  -- The legs that are given, each with its early return: the first verdict of them all.
  legs_first : (footprint limit : Float) (legs : List Leg) →
      turns (leg_turn agent bounds footprint limit) (iter_range agent legs) ≡
      turn_by (first_of (leg_verdict agent bounds footprint limit) legs)
  unfolding turns iter_range first_of leg_verdict leg_turn
  legs_first footprint limit [] = refl
  legs_first footprint limit (leg ∷ legs) = by (is_during agent leg) refl (legs_first footprint limit legs)
    where
      turn : Leg → Turn
      turn = leg_turn agent bounds footprint limit

      v : Result Verdict Refusal
      v = conflict_of agent bounds leg (box_of_leg footprint leg) limit

      rest : Result Verdict Refusal
      rest = first_of (leg_verdict agent bounds footprint limit) legs

      by : (t : Bool) → is_during agent leg ≡ t → turns turn (iter_range agent legs) ≡ turn_by rest →
          turns turn (cond t (leg ∷ iter_range agent legs) (iter_range agent legs)) ≡ turn_by (or_else (cond t v (Ok Clear)) rest)
      by true e below = rw (not_after agent leg e, below) (turn_else v rest)
      by false e below = below

  obstacle_first : (o : Obstacle) → obstacle_turn agent bounds o ≡ turn_by (obstacle_verdict agent bounds o)
  unfolding obstacle_turn obstacle_verdict
  obstacle_first o = by (overlap bounds o.bounds) _ _ (legs_first o.profile.footprint o.limit (legs_of o.waypoints))
    where
      by : (t : Bool) (turn : Turn) (v : Result Verdict Refusal) → turn ≡ turn_by v → cond t turn Goes ≡ turn_by (cond t v (Ok Clear))
      by true turn v e = e
      by false turn v e = refl

  -- What the Rust returns is what all obstacles say.
  pub as_written : (os : List Obstacle) → segment_as_written agent bounds os ≡ segment_of agent bounds os
  unfolding segment_as_written segment_of
  as_written os =
      ap returned (turns_first (obstacle_turn agent bounds) (obstacle_verdict agent bounds) obstacle_first os) ∙
      by (first_of (obstacle_verdict agent bounds) os)
    where
      by : (v : Result Verdict Refusal) → returned (turn_by v) ≡ v
      by (Ok Clear) = refl
      by (Ok Conflict) = refl
      by (Err why) = refl
