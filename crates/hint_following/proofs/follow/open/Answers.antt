-- `hint_following::follow::open` meets its contract: the rounds follow the first wait where it was not refused.
-- Assumes nothing.
use Rattle.std.proofs.Common.{rules, ◌≡◌}
use Rattle.std.specs.Prelude.{Err}
use Rattle.hint_list.proofs.Added.{added_then, added_ended}
use Rattle.hint_following.specs.Follow.{opened}
use Rattle.hint_following.proofs.follow.open.Goals as goal

pub returns-in_err-m-in-Waits : goal.returns-in_err-m-in-Waits
unfolding opened
returns-in_err-m-in-Waits c =
    let refused : c.from_residual.result ≡ Err c.in_err-m-in-Waits.field-0.0 = search rules in
    rw (c.in-Waits.is, refused) (added_ended _ _ _ _ c.in_err-m-in-Waits.ensures)

pub returns-in_ok-m-in-Waits : goal.returns-in_ok-m-in-Waits
unfolding opened
returns-in_ok-m-in-Waits c =
    rw c.in-Waits.is (added_then _ _ _ _ c.in_ok-m-in-Waits.ensures c.rounds-in-Waits.ensures)
