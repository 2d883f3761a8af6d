-- `times::time::TimePoint::since` meets its contract: it finds of both numbers, and of their difference, whether they are exact.
-- Assumes nothing.
use Rattle.std.proofs.Common.{◌-ℤ◌}
use Rattle.times.specs.Time.{span_between}
use Rattle.times.proofs.Exact.{difference_fits}
use Rattle.times.proofs.Operands.{Operands, only_strayed, one_out, one_held, read_fits, result_out, result_held, read_result}
use Rattle.times.proofs.time.TimePoint.since.Goals as goal
use Rattle.times.proofs.time.TimePoint.since.Goals.{In_ok-d}

operands : (c : In_ok-d) → Operands ◌-ℤ◌ c.args.self.0 c.args.earlier.0 c.in_ok-exact.field-0 c.in_ok-d.field-0
operands c =
    record {
      fits_first = record { sfits = c.struct_told-1.given.0.1 };
      fits_second = record { sfits = c.struct_told-2-1.given.0.1 };
      fits_result = difference_fits _ _;
      first = one_held (record { sfits = c.struct_told-1.given.0.1 }) c.exact.ensures c.in_ok-exact.was;
      second = one_held (record { sfits = c.struct_told-2-1.given.0.1 }) c.exact-2.ensures c.in_ok-d.was;
    }

pub returns-in_err-exact : goal.returns-in_err-exact
unfolding span_between
returns-in_err-exact c =
    rw (one_out (record { sfits = c.struct_told-1.given.0.1 }) c.exact.ensures c.in_err-exact.was)
    (only_strayed _ c.from_residual.ensures.0)

pub returns-in_err-d : goal.returns-in_err-d
unfolding span_between
returns-in_err-d c =
    rw (
      (one_held (record { sfits = c.struct_told-1.given.0.1 }) c.exact.ensures c.in_ok-exact.was).0,
      one_out (record { sfits = c.struct_told-2-1.given.0.1 }) c.exact-2.ensures c.in_err-d.was,
    )
    (only_strayed _ c.from_residual-in_err-d.ensures.0)

pub overflow_sub-d : goal.overflow_sub-d
overflow_sub-d c = read_fits (operands (goal.at.overflow_sub-d c).In_ok-d)

pub returns-in_err-exact-2 : goal.returns-in_err-exact-2
unfolding span_between
returns-in_err-exact-2 c =
    let o = operands (goal.at.returns-in_err-exact-2 c).In_ok-d in
    rw (o.first.0, o.second.0, result_out o c.exact-3.ensures c.in_err-exact-2.was)
    (only_strayed _ c.from_residual-in_err-exact-2.ensures.0)

pub returns : goal.returns
unfolding span_between
returns c =
    let o = operands (goal.at.returns c).In_ok-d in
    let held = result_held o c.exact-3.ensures c.in_ok-exact-2.was in
    rw (o.first.0, o.second.0, held.0, read_result o held.1)
