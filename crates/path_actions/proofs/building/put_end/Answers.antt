-- `path_actions::building::put_end` meets its contract: a row for the move to the goal.
-- Assumes nothing.
use mathlib.Core.Path.{◌≡◌, sym, ◌∙◌}
use Rattle.shapes.specs.Leg.{place_of}
use Rattle.path_tests.specs.Travel.{reached_from}
use Rattle.path_actions.specs.Built.{ended}
use Rattle.path_actions.specs.declared.action.SafeAction.TheVariants.{Move}
use Rattle.path_actions.proofs.Left.{one_row, put_rows}
use Rattle.path_actions.proofs.building.put_end.Goals as goal
use Rattle.path_actions.proofs.building.put_end.Goals.{After-arrival_at}

-- The waypoint at the goal's place, or its refusal.
reached : (c : After-arrival_at) →
    let a = c.args in
    reached_from a.trip.speed a.from (place_of a.trip.leg.end) ≡ c.arrival_at.result
reached c = rw (← c.place.ensures) (sym c.arrival_at.ensures)

pub returns-in-Ok : goal.returns-in-Ok
unfolding ended
returns-in-Ok c =
    let a = c.args in
    rw (reached (goal.at.returns-in-Ok c).After-arrival_at ∙ c.in-Ok.is)
    (put_rows _ _ (one_row a.out.now a.row (Move c.in-Ok.w) c.put_action.ensures))
