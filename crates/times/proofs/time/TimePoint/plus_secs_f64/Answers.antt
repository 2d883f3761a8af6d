-- `times::time::TimePoint::plus_secs_f64` meets its contract: the seconds' span, and the instant after it.
-- Assumes nothing.
use Rattle.std.proofs.Common.{sym, ◌∙◌}
use Rattle.times.specs.Time.{instant_after_seconds}
use Rattle.times.proofs.Operands.{only_strayed}
use Rattle.times.proofs.time.TimePoint.plus_secs_f64.Goals as goal

pub returns-in_err-from_secs_f64 : goal.returns-in_err-from_secs_f64
unfolding instant_after_seconds
returns-in_err-from_secs_f64 c =
    rw (sym c.from_secs_f64.ensures ∙ c.in_err-from_secs_f64.was) (only_strayed _ c.from_residual.ensures.0)

pub returns : goal.returns
unfolding instant_after_seconds
returns c = rw (sym c.from_secs_f64.ensures ∙ c.in_ok-from_secs_f64.was) c.plus.ensures
