-- `path_actions::building::put_stop` meets its contract: a row each for the move and the wait.
-- Assumes nothing.
use mathlib.Core.Path.{sym, ◌∙◌}
use Rattle.path_actions.specs.Built.{stopped}
use Rattle.path_actions.specs.declared.action.SafeAction.TheVariants.{Move, Wait}
use Rattle.path_actions.proofs.Left.{two_rows, put_rows}
use Rattle.path_actions.proofs.building.put_stop.Goals as goal

pub returns-in-Ok-hold_after : goal.returns-in-Ok-hold_after
unfolding stopped
returns-in-Ok-hold_after c =
    let a = c.args in
    let hint = a.hint in
    rw (
      sym c.arrival_at.ensures ∙ c.in-Ok.is,
      sym c.hold_after.ensures ∙ c.in-Ok-hold_after.is,
    )
    (put_rows _ _
    (two_rows a.out.now a.row (Move c.in-Ok.w) (Wait hint.obstacle hint.until)
    c.put_action.ensures c.put_action-in-Ok.ensures))
