-- What the call for hints alone answers: the table and the agent are examined first (RULES 4.13, 5.1 to 5.7).
-- Assumes nothing.
use Rattle.std.specs.Prelude.{cond, Result, Ok, Err}
use Rattle.refusals.specs.declared.Refusal.{Refusal}
use Rattle.refusals.specs.declared.Refusal.TheVariants as Refusals
use Rattle.shapes.specs.Box.{box_of_leg}
use Rattle.shapes.specs.Leg.{is_brief}
use Rattle.shapes.specs.declared.profile.CircularProfile.{CircularProfile}
use Rattle.shapes.specs.declared.waypoint.Leg.{Leg}
use Rattle.table.specs.Lent.{Lent, obstacles_of}
use Rattle.table.specs.Examined.{agent_examined}
use Rattle.hint_ranking.specs.Hints.{Ranked, Refused}
use Rattle.hints.specs.Contour.{ranked_hints}

-- 4 for a duration under 10 ns, then the hints of the agent's leg in the box of its own footprint.
unfoldable pub asked_hints : CircularProfile → Leg → Lent → Ranked
asked_hints p agent lent = examined (agent_examined p agent lent)
  where
    examined : Result Unit Refusal → Ranked
    examined (Ok tt) =
        cond (is_brief agent) (Refused Refusals.NoLine) (ranked_hints p agent (box_of_leg p.footprint agent) (obstacles_of lent))
    examined (Err why) = Refused why
