-- What the call for conflict answers: it examines its own input first (RULES 5.1 to 5.4, 5.11).
-- Assumes nothing.
use Rattle.std.specs.Prelude.{cond, ◌&&◌, Float}
use Rattle.shapes.specs.Leg.{is_rising}
use Rattle.shapes.specs.Box.{box_of_leg}
use Rattle.domain.specs.Domain.{is_profile}
use Rattle.shapes.specs.declared.profile.CircularProfile.{CircularProfile}
use Rattle.shapes.specs.declared.waypoint.Leg.{Leg}
use Rattle.proximity.specs.Asked.{legs_examined}
use Rattle.conflicts.specs.Conflict.{conflict_of}
use Rattle.conflicts.specs.declared.conflict.Verdict.{Verdict}
use Rattle.std.specs.Prelude.{Result, Ok, Err}
use Rattle.refusals.specs.declared.Refusal.{Refusal}
use Rattle.refusals.specs.declared.Refusal.TheVariants as Refusals

-- What is wrong with the two profiles, and then with the legs and the limit; 2 comes first (RULES 5.1).
unfoldable pub carts_examined : CircularProfile → CircularProfile → Float → Leg → Leg → Result Unit Refusal
carts_examined p q limit agent obstacle =
    cond (is_rising obstacle)
    (cond (is_profile p && is_profile q) (legs_examined limit agent obstacle) (Err Refusals.Number))
    (Err Refusals.Shape)

-- Whether the agent's leg and an obstacle's are in conflict, each in the box of its own footprint (RULES 9.1).
unfoldable pub asked_conflict : CircularProfile → Leg → CircularProfile → Leg → Float → Result Verdict Refusal
asked_conflict p agent q obstacle limit = examined (carts_examined p q limit agent obstacle)
  where
    examined : Result Unit Refusal → Result Verdict Refusal
    examined (Ok tt) = conflict_of agent (box_of_leg p.footprint agent) obstacle (box_of_leg q.footprint obstacle) limit
    examined (Err why) = Err why
