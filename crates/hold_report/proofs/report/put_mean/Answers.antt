-- `hold_report::report::put_mean` meets its contract: mean and remainder, by the sign of the total.
-- Assumes nothing.
use Rattle.std.proofs.Common.{◌≡◌, ◌+◌, ◌-◌, ◌/◌, ◌^◌, div-le_self, arith}
use Rattle.texts.proofs.Putting.{put_both}
use Rattle.hold_report.proofs.Lowered.{mean_below, mean_above, remainder_below, remainder_above}
use Rattle.hold_report.proofs.report.put_mean.Goals as goal

pub returns-then-total-lt-RAISE : goal.returns-then-total-lt-RAISE
returns-then-total-lt-RAISE c =
    let word = c.wrapping_neg in
    let a = c.args in
    let known : word.result ≡ 2 ^ 64 - ((9223372036854775807 - a.total) / a.rounds + 1) =
    omega (arith, word.ensures, div-le_self (9223372036854775807 - a.total) a.rounds)
    in
    rw (
      mean_below a.total a.rounds word.result (omega arith) known,
      remainder_below a.total a.rounds (omega arith),
    )
    (put_both c.put_time-next.ensures c.put_count.ensures)

pub returns : goal.returns
returns c =
    let a = c.args in
    rw (mean_above a.total a.rounds (omega arith), remainder_above a.total a.rounds (omega arith))
    (put_both c.put_time-next-2.ensures c.put_count-2.ensures)
