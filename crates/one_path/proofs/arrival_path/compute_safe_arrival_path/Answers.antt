-- `one_path::arrival_path::compute_safe_arrival_path` meets its contract: one move where that is safe, else by way of hints.
-- Assumes nothing.
use mathlib.Core.Path.{◌≡◌, sym, ◌∙◌}
use mathlib.Core.List.{[], ◌∷◌}
use Rattle.path_actions.specs.Built.{unheld}
use Rattle.path_actions.specs.declared.action.SafeAction.TheVariants.{Move}
use Rattle.path_actions.proofs.Left.{one_row}
use Rattle.one_path.specs.Path.{path_for}
use Rattle.std.specs.Prelude.{Ok}
use Rattle.std.proofs.Common.{rules}
use Rattle.path_search.specs.declared.trial.Trial.TheVariants.{Passed}
use Rattle.one_path.proofs.Left.{put_path}
use Rattle.one_path.proofs.arrival_path.compute_safe_arrival_path.Goals as goal

pub returns-in-Ok-Passed : goal.returns-in-Ok-Passed
unfolding path_for
returns-in-Ok-Passed c =
    let a = c.args in
    let passed : c.can_arrive_safely.result ≡ Ok Passed = search rules in
    let move = Move a.trip.leg.end in
    rw (sym c.can_arrive_safely.ensures ∙ passed)
    (put_path (move ∷ []) 0 unheld (one_row a.out.now a.row move c.put_action.ensures))
