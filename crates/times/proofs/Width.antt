-- Seconds within a width come back within it: from 0 to the seconds of n ns, for n up to 2^51, are from 0 to n ns.
-- Near 2^53 the two roundings can add 1 ns. Assumes nothing.
use Rattle.std.proofs.Common.{◌≡◌, ℕ, ◌+◌, ◌-◌, ◌*◌, ◌/◌, ◌^◌, ◌<◌, ◌≤◌, min, true, false, T, ℤ, pos, negsuc, nat_abs, ◌≤ℤ◌, refl, true≢false, mul-le-mul_right, arith, lit<, le-leb}
use lib.Ieee
use lib.Ieee.{Float, nan, inf, fin, binary64, down, up, le}
use lib.Ieee.Exact.{HasValue}
use lib.Ieee.Fits.{down_pos}
use Rattle.floats.specs.Constants.{nought}
use Rattle.floats.proofs.Preorder.{le_trans}
use Rattle.floats.proofs.Exact.{exact, rounded_at_most}
use Rattle.floats.proofs.Monotone.{mul_mono_behind}
use Rattle.floats.proofs.Whole.{to_signed_mono}
use Rattle.floats.proofs.Bounds.{within_upper, within_of_upper}
use Rattle.times.specs.Time.{is_exact, billion, seconds_of, span_of_seconds}
use Rattle.times.proofs.Cut.{product, nanoseconds_of}
use Rattle.times.proofs.Seconds.{most_seconds, seconds_within, nanoseconds_not_below, span_given}
use Rattle.std.specs.Prelude.{Result, Ok, Err}
use Rattle.times.specs.Time.{strayed}
use Rattle.times.specs.declared.time.Strayed.{Strayed}
use Rattle.times.specs.declared.time.Duration.{Duration}

-- q / 2^31 is the least such fraction that is not below the seconds of n ns.
module _
    (n q : ℕ)
    (few : n ≤ 2 ^ 51)
    (not_below : n * 2 ^ 31 ≤ q * 1000000000)
    (least : q * 1000000000 ≤ n * 2 ^ 31 + 999999999)
  where
    divided : (x : Float) → HasValue x false n 1 → T (le (Ieee.div binary64 x billion) (fin false q (negsuc 30)))
    unfolding Ieee.of_int Ieee.div
    divided nan v = absurd v
    divided (inf s) v = absurd v
    divided (fin true m e) v = absurd (true≢false v.0)
    divided (fin false m e) v =
        let above_zero : 0 < 1953125 * 2 ^ 9 * down e = omega (arith, down_pos e) in
        rounded_at_most (m * up e * 1) (1953125 * 2 ^ 9 * down e) q 30 above_zero (omega arith) (lit< tt)
        (omega (arith, v.1, mul-le-mul_right (down e) not_below))

    seconds_at_most : T (le (seconds_of (pos n)) (fin false q (negsuc 30)))
    unfolding seconds_of Ieee.of_int
    seconds_at_most = divided (Ieee.of_int binary64 (pos n)) (exact n 0 (omega arith) (omega arith))

    product_at_most : T (le (product (fin false q (negsuc 30))) (fin false (2 * n + 1) (negsuc 0)))
    unfolding Ieee.of_int Ieee.mul
    product_at_most =
        rounded_at_most (q * 1 * (1953125 * 2 ^ 9)) (2 ^ 31 * 1) (2 * n + 1) 0 (lit< tt) (omega arith) (lit< tt) (omega arith)

    -- The product of no more seconds than those of n ns is at most n and a half.
    half_at_most : (s : Float) → T (le s (seconds_of (pos n))) → T (le (product s) (fin false (2 * n + 1) (negsuc 0)))
    unfolding Ieee.of_int
    half_at_most s h =
        let x = fin false q (negsuc 30) in
        le_trans (product s) (product x) (fin false (2 * n + 1) (negsuc 0))
        (mul_mono_behind binary64 billion s x tt (le_trans s (seconds_of (pos n)) x h seconds_at_most))
        product_at_most

    back : (s : Float) → T (le s (seconds_of (pos n))) → nanoseconds_of s ≤ℤ pos n
    unfolding Ieee.to_signed
    back s h =
        let whole : min ((2 * n + 1) * 1 / 2) (2 ^ 63 - 1) ≡ n = omega arith in
        rw whole at (to_signed_mono 63 (product s) (fin false (2 * n + 1) (negsuc 0)) (half_at_most s h))

at_most_width : (n : ℕ) (s : Float) → n ≤ 2 ^ 51 → T (le s (seconds_of (pos n))) → nanoseconds_of s ≤ℤ pos n
at_most_width n s few = back n ((n * 2 ^ 31 + 999999999) / 1000000000) few (omega arith) (omega arith) s

-- The seconds s come back as a span, from 0 to w.
pub record InWidth (w : ℤ) (s : Float) : Type 0 where
  pub given : span_of_seconds s ≡ Ok (record { 0 = nanoseconds_of s })
  pub not_below : pos 0 ≤ℤ nanoseconds_of s
  pub at_most : nanoseconds_of s ≤ℤ w

pub in_width : (w : ℤ) (s : Float) →
    pos 0 ≤ℤ w → nat_abs w ≤ 2 ^ 51 → T (le nought s) → T (le s (seconds_of w)) → InWidth w s
unfolding is_exact
in_width (negsuc n) s h few low high = absurd h.le
in_width (pos n) s h few low high =
    let most = within_upper (seconds_within (pos n) (le-leb n (2 ^ 53) (omega arith))) in
    record {
      given = span_given s (within_of_upper most_seconds s low (le_trans s (seconds_of (pos n)) most_seconds high most));
      not_below = nanoseconds_not_below s low;
      at_most = at_most_width n s few high;
    }

-- Past 2^23 s a width does not hold its own seconds.
pub one_past : nanoseconds_of (seconds_of (pos 8388608000000001)) ≡ pos 8388608000000002
unfolding seconds_of Ieee.of_int Ieee.div Ieee.mul Ieee.to_signed
one_past = refl
