-- Between instants from 0 to 10^15 ns (RULES 3.1) every span is given, and seconds that a range holds lead to an instant in it.
-- Assumes nothing.
use mathlib.Core.Path.{◌≡◌}
use mathlib.Core.Bool.{true}
use Prim.Native.Nat.{◌^◌, ◌≤◌}
use native.Mathlib.Omega.{arith}
use lib.IntN.{pos, nat_abs, ◌+ℤ◌, +ℤ_idr, +ℤ_comm, -ℤ-+ℤ_cancel}
use lib.Signed.{◌≤ℤ◌}
use lib.Ieee.{Float}
use Rattle.floats.proofs.Relations.{◌≼◌}
use Rattle.floats.specs.Constants.{nought}
use Rattle.times.specs.Time.{span_between, instant_after, instant_after_seconds, seconds_of}
use Rattle.times.specs.declared.time.TimePoint.{TimePoint}
use Rattle.times.proofs.Cut.{nanoseconds_of}
use Rattle.times.proofs.Answers.{span_made}
use Rattle.times.proofs.Integers.{at_most_trans, sum_mono, difference_not_below, size_at_most}
use Rattle.times.proofs.Exact.{smaller_exact, difference_exact}
use Rattle.times.proofs.Order.{between_size}
use Rattle.times.proofs.Spans.{span_from, between_given}
use Rattle.times.proofs.Width.{in_width}
use Rattle.domain.specs.Domain.{is_time}
use Rattle.domain.proofs.Within.{time_not_below, time_at_most, time_exact}
use Rattle.std.specs.Prelude.{Ok}

time_size : (t : TimePoint) → is_time t ≡ true → nat_abs t.0 ≤ 2 ^ 52
time_size t h = omega (arith, size_at_most t.0 (10 ^ 15) (time_not_below t h) (time_at_most t h))

pub times_given : (t u : TimePoint) → is_time t ≡ true → is_time u ≡ true → span_between t u ≡ Ok (span_from t u)
times_given t u h k =
    between_given t u (time_exact t h) (time_exact u k) (difference_exact u.0 t.0 (time_size u k) (time_size t h))

-- ---- The instant some seconds after t0.

abbrev pub arrival : TimePoint → Float → TimePoint
arrival t s = record { 0 = t.0 +ℤ nanoseconds_of s }

-- It is given, and in the range from t0 to t1.
pub record Arrives (t0 t1 : TimePoint) (s : Float) : Type 0 where
  pub given : instant_after_seconds t0 s ≡ Ok (arrival t0 s)
  pub not_before : t0.0 ≤ℤ (arrival t0 s).0
  pub not_after : (arrival t0 s).0 ≤ℤ t1.0

pub arrives : {t0 t1 : TimePoint} {s : Float} → is_time t0 ≡ true → is_time t1 ≡ true → t0.0 ≤ℤ t1.0 →
    nought ≼ s → s ≼ seconds_of (span_from t0 t1).0 → Arrives t0 t1 s
unfolding instant_after_seconds instant_after
arrives {t0} {t1} {s} start end in_order low high =
    let w = (span_from t0 t1).0 in
    let n = nanoseconds_of s in
    let u = arrival t0 s in
    let spanned = times_given t0 t1 start end in
    let few = between_size t0 t1 (span_from t0 t1) (10 ^ 15) spanned (time_not_below t0 start) in_order (time_at_most t1 end) in
    let held = in_width w s (difference_not_below t0.0 t1.0 in_order) (omega (arith, few)) low high in
    let not_before : t0.0 ≤ℤ u.0 = rw +ℤ_idr at (sum_mono t0.0 (pos 0) n held.not_below) in
    let not_after : u.0 ≤ℤ t1.0 =
    rw (+ℤ_comm t0.0 w, -ℤ-+ℤ_cancel t1.0 t0.0) at (sum_mono t0.0 n w held.at_most) in
    let span-reach = smaller_exact n w held.not_below held.at_most (span_made t0 t1 (span_from t0 t1) spanned).result in
    let not_below = at_most_trans (pos 0) t0.0 u.0 (time_not_below t0 start) not_before in
    let reach = smaller_exact u.0 t1.0 not_below not_after (time_exact t1 end) in
    record {
      given = rw (held.given, time_exact t0 start, span-reach, reach);
      not_before = not_before;
      not_after = not_after;
    }
