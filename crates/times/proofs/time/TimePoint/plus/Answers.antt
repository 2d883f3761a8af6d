-- `times::time::TimePoint::plus` meets its contract: it finds of both numbers, and of their sum, whether they are exact.
-- Assumes nothing.
use Rattle.std.proofs.Common.{◌+ℤ◌}
use Rattle.times.specs.Time.{instant_after}
use Rattle.times.proofs.Exact.{sum_fits}
use Rattle.times.proofs.Operands.{Operands, only_strayed, one_out, one_held, read_fits, result_out, result_held, read_result}
use Rattle.times.proofs.time.TimePoint.plus.Goals as goal
use Rattle.times.proofs.time.TimePoint.plus.Goals.{In_ok-t}

operands : (c : In_ok-t) → Operands ◌+ℤ◌ c.args.self.0 c.args.d.0 c.in_ok-exact.field-0 c.in_ok-t.field-0
operands c =
    record {
      fits_first = record { sfits = c.struct_told-1.given.0.1 };
      fits_second = record { sfits = c.struct_told-2-1.given.0.1 };
      fits_result = sum_fits _ _;
      first = one_held (record { sfits = c.struct_told-1.given.0.1 }) c.exact.ensures c.in_ok-exact.was;
      second = one_held (record { sfits = c.struct_told-2-1.given.0.1 }) c.exact-2.ensures c.in_ok-t.was;
    }

pub returns-in_err-exact : goal.returns-in_err-exact
unfolding instant_after
returns-in_err-exact c =
    rw (one_out (record { sfits = c.struct_told-1.given.0.1 }) c.exact.ensures c.in_err-exact.was)
    (only_strayed _ c.from_residual.ensures.0)

pub returns-in_err-t : goal.returns-in_err-t
unfolding instant_after
returns-in_err-t c =
    rw (
      (one_held (record { sfits = c.struct_told-1.given.0.1 }) c.exact.ensures c.in_ok-exact.was).0,
      one_out (record { sfits = c.struct_told-2-1.given.0.1 }) c.exact-2.ensures c.in_err-t.was,
    )
    (only_strayed _ c.from_residual-in_err-t.ensures.0)

pub overflow_add-t : goal.overflow_add-t
overflow_add-t c = read_fits (operands (goal.at.overflow_add-t c).In_ok-t)

pub returns-in_err-exact-2 : goal.returns-in_err-exact-2
unfolding instant_after
returns-in_err-exact-2 c =
    let o = operands (goal.at.returns-in_err-exact-2 c).In_ok-t in
    rw (o.first.0, o.second.0, result_out o c.exact-3.ensures c.in_err-exact-2.was)
    (only_strayed _ c.from_residual-in_err-exact-2.ensures.0)

pub returns : goal.returns
unfolding instant_after
returns c =
    let o = operands (goal.at.returns c).In_ok-t in
    let held = result_held o c.exact-3.ensures c.in_ok-exact-2.was in
    rw (o.first.0, o.second.0, held.0, read_result o held.1)
