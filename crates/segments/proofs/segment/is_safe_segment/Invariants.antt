-- `segments::segment::is_safe_segment` meets its contract: at each turn of either loop nothing was found yet, and
-- the walk from here on is the whole one.
-- Assumes nothing.
use Prim.Native.Nat.{ℕ}
use mathlib.Core.Path.{◌≡◌}
use Rattle.lent.specs.Listed.{listed_to}
use Rattle.shapes.specs.declared.waypoint.Leg.{Leg}
use Rattle.conflicts.specs.declared.conflict.Verdict.{Verdict}
use Rattle.conflicts.specs.declared.conflict.Verdict.TheVariants.{Clear}
use Rattle.table.specs.Table.{obstacle_count, profile_in, limit_in, leg_in, obstacle_in, obstacles_in}
use Rattle.table.specs.Walked.{walked_in}
use Rattle.segments.specs.Segment.{leg_verdict, first_of, obstacle_verdict, segment_of}
use Rattle.segments.proofs.segment.is_safe_segment.Given as goal
use Rattle.std.specs.Prelude.{Result}
use Rattle.refusals.specs.declared.Refusal.{Refusal}

-- The legs of obstacle o from i on.
abbrev pub invariant-loop-i : goal.invariant-loop-i
invariant-loop-i l =
    let leg : ℕ → Leg = leg_in l.marks l.places in
    let footprint = (profile_in l.places l.o).footprint in
    let says : Leg → Result Verdict Refusal = leg_verdict l.agent l.bounds footprint (limit_in l.places l.o) in
    (l.found ≡ Clear) ×
    (first_of says (listed_to leg (walked_in l.bounds l.marks l.places l.o) l.i) ≡
    obstacle_verdict l.agent l.bounds (obstacle_in l.marks l.places l.o))

-- The obstacles from o on.
abbrev pub invariant-walk : goal.invariant-walk
invariant-walk l =
    (l.found ≡ Clear) ×
    (first_of (obstacle_verdict l.agent l.bounds) (listed_to (obstacle_in l.marks l.places) (obstacle_count l.marks) l.o) ≡
    segment_of l.agent l.bounds (obstacles_in l.marks l.places))
