-- What the call for a segment answers: the table and the agent are examined first (RULES 5.1 to 5.4).
-- Assumes nothing.
use Rattle.shapes.specs.Box.{box_of_leg}
use Rattle.shapes.specs.declared.profile.CircularProfile.{CircularProfile}
use Rattle.shapes.specs.declared.waypoint.Leg.{Leg}
use Rattle.conflicts.specs.declared.conflict.Verdict.{Verdict}
use Rattle.table.specs.Lent.{Lent, obstacles_of}
use Rattle.table.specs.Examined.{agent_examined}
use Rattle.segments.specs.Segment.{segment_of}
use Rattle.std.specs.Prelude.{Result, Ok, Err}
use Rattle.refusals.specs.declared.Refusal.{Refusal}

-- The agent's leg in the box of its own footprint, among the obstacles that the lists stand for.
unfoldable pub asked_segment : CircularProfile → Leg → Lent → Result Verdict Refusal
asked_segment p agent lent = examined (agent_examined p agent lent)
  where
    examined : Result Unit Refusal → Result Verdict Refusal
    examined (Ok tt) = segment_of agent (box_of_leg p.footprint agent) (obstacles_of lent)
    examined (Err why) = Err why
