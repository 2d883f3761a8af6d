-- `hint_walk::leg_hints::with_leg` meets its contract: the crossing hint first, then the part, unless it was refused.
-- Assumes nothing.
use Rattle.std.proofs.Common.{rules, ◌≡◌}
use Rattle.std.specs.Prelude.{Err}
use Rattle.hint_list.proofs.Added.{added_then, added_ended}
use Rattle.hint_walk.specs.LegHints.{part_hints, leg_hints}
use Rattle.hint_walk.proofs.leg_hints.with_leg.Goals as goal

pub returns-in_err-m : goal.returns-in_err-m
unfolding leg_hints
returns-in_err-m c =
    let refused : c.from_residual.result ≡ Err c.in_err-m.field-0.0 = search rules in
    rw refused (added_ended _ _ _ _ (rw c.crossing_wait-wait.ensures at c.in_err-m.ensures))

pub returns : goal.returns
unfolding leg_hints
returns c =
    added_then _ _ _ (part_hints _ _ _ _) (rw c.crossing_wait-wait.ensures at c.in_ok-m.ensures) c.with_part.ensures
