-- `times::time::TimePoint::from_secs_f64` meets its contract: it is the span's number, or the span's refusal.
-- Assumes nothing.
use Rattle.std.proofs.Common.{sym, ◌∙◌}
use Rattle.times.specs.Time.{instant_of_seconds}
use Rattle.number_words.proofs.ReadBack.{read_back}
use Rattle.times.proofs.Operands.{only_strayed}
use Rattle.times.proofs.time.TimePoint.from_secs_f64.Goals as goal

pub returns-in_err-d : goal.returns-in_err-d
unfolding instant_of_seconds
returns-in_err-d c = rw (sym c.from_secs_f64.ensures ∙ c.in_err-d.was) (only_strayed _ c.from_residual.ensures.0)

pub returns : goal.returns
unfolding instant_of_seconds
returns c =
    rw (
      sym c.from_secs_f64.ensures ∙ c.in_ok-d.was,
      read_back c.in_ok-d.d.0 (record { sfits = c.struct_told-1.given.0.1 }),
    )
