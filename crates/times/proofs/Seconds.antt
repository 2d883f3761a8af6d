-- Seconds and nanoseconds keep the order: what is later in the one is no earlier in the other, what is exact stays so, and
-- a span is as many seconds one way as the other.
-- Assumes nothing.
use Rattle.std.proofs.Common.{◌≡◌, refl, subst, ℕ, suc, ◌^◌, true, false, not, T, ℤ, pos, negsuc, nat_abs, ◌≤ℤ◌, ap, ◌∙◌, arith, le→leb, leb-true}
use lib.Signed.{le_z_yes, ≤ℤ_refl}
use lib.Ieee
use lib.Ieee.{Float, fin, binary64, le, is_nan}
use lib.Ieee.Bits.{is_true}
use lib.Ieee.Scale.{finite}
use Rattle.floats.specs.Constants.{nought}
use Rattle.floats.proofs.Magnitude.{abs, Within}
use Rattle.floats.specs.Compare.{size_of}
use Rattle.floats.proofs.Preorder.{left_known}
use Rattle.floats.proofs.Strict.{le_lt_trans}
use Rattle.floats.proofs.Monotone.{mul_mono_behind, div_mono}
use Rattle.floats.proofs.Powers.{pow2}
use Rattle.floats.proofs.Whole.{to_signed_mono, of_int_mono, within_of_int}
use Rattle.floats.proofs.Bounds.{round_abs, div_abs}
use Rattle.floats.proofs.Bounds.{within_finite, within_le, within_mul, within_div, within_lower, within_upper}
use Rattle.floats.proofs.Sizes.{size_above, size_below}
use Rattle.times.specs.Time.{is_exact, billion, two_to_53, seconds_of, span_of_seconds}
use Rattle.times.specs.declared.time.Duration.{Duration}
use Rattle.times.proofs.Cut.{product, nanoseconds_of}
use Rattle.times.proofs.Answers.{span_converted}
use Rattle.std.specs.Prelude.{Result, Ok, Err}
use Rattle.times.specs.Time.{strayed}
use Rattle.times.specs.declared.time.Strayed.{Strayed}

-- ---- seconds of nanoseconds

pub seconds_mono : (m n : ℤ) → m ≤ℤ n → T (le (seconds_of m) (seconds_of n))
unfolding seconds_of Ieee.of_int
seconds_mono m n h = div_mono binary64 (Ieee.of_int binary64 m) (Ieee.of_int binary64 n) billion tt (of_int_mono binary64 m n h)

pub seconds_not_below : (n : ℤ) → pos 0 ≤ℤ n → T (le nought (seconds_of n))
seconds_not_below n h = unfold seconds_of Ieee.of_int Ieee.div in seconds_mono (pos 0) n h

-- They are never a NaN.
pub seconds_known : (n : ℤ) → T (not (is_nan (seconds_of n)))
seconds_known n = left_known (seconds_of n) (seconds_of n) (seconds_mono n n (≤ℤ_refl n))

seconds_abs : (n : ℕ) → abs (seconds_of (negsuc n)) ≡ seconds_of (pos (suc n))
unfolding seconds_of Ieee.of_int
seconds_abs n =
    div_abs binary64 (Ieee.of_int binary64 (negsuc n)) billion ∙
    ap (λ x. Ieee.div binary64 x billion) (round_abs binary64 true (suc n) 1)

-- Their size is the seconds of the size.
pub seconds_size : (n : ℤ) → size_of (seconds_of n) ≡ seconds_of (pos (nat_abs n))
seconds_size (pos n) = size_above (seconds_of (pos n)) (seconds_not_below (pos n) (le_z_yes (le→leb 0 n (omega arith))))
seconds_size (negsuc n) =
    let s = seconds_of (negsuc n) in
    let most = seconds_mono (negsuc n) (negsuc 0) (le_z_yes (le→leb 0 n (omega arith))) in
    let below = le_lt_trans s (seconds_of (negsuc 0)) nought most (unfold seconds_of Ieee.of_int Ieee.div Ieee.lt in tt) in
    size_below s below ∙ seconds_abs n

-- The seconds of 2^53 ns, the most that are given back.
abbrev pub most_seconds : Float
most_seconds = seconds_of (pos (2 ^ 53))

pub seconds_within : (n : ℤ) → is_exact n ≡ true → Within most_seconds (seconds_of n)
unfolding is_exact seconds_of Ieee.of_int le
seconds_within n h =
    within_div binary64 billion billion (within_of_int binary64 (2 ^ 53) n (leb-true (nat_abs n) (2 ^ 53) h)) tt tt tt tt

pub seconds_within_power : (n : ℤ) → is_exact n ≡ true → Within (pow2 24) (seconds_of n)
unfolding seconds_of Ieee.of_int Ieee.div le
seconds_within_power n h = within_le (pow2 24) (seconds_within n h) tt

pub seconds_finite : (n : ℤ) → is_exact n ≡ true → T (finite (seconds_of n))
seconds_finite n h = within_finite (seconds_within_power n h) tt

-- ---- nanoseconds of seconds

pub nanoseconds_mono : (s t : Float) → T (le s t) → nanoseconds_of s ≤ℤ nanoseconds_of t
unfolding Ieee.of_int
nanoseconds_mono s t h = to_signed_mono 63 (product s) (product t) (mul_mono_behind binary64 billion s t tt h)

pub nanoseconds_not_below : (s : Float) → T (le nought s) → pos 0 ≤ℤ nanoseconds_of s
nanoseconds_not_below s h = unfold Ieee.of_int Ieee.mul Ieee.to_signed in nanoseconds_mono nought s h

pub span_mono : (s t : Float) (d e : Duration) →
    span_of_seconds s ≡ Ok d → span_of_seconds t ≡ Ok e → T (le s t) → d.0 ≤ℤ e.0
span_mono s t d e p q h = rw ((span_converted s d p).number, (span_converted t e q).number) at (nanoseconds_mono s t h)

pub span_not_below : (s : Float) (d : Duration) → span_of_seconds s ≡ Ok d → T (le nought s) → pos 0 ≤ℤ d.0
span_not_below s d p h = rw (span_converted s d p).number at (nanoseconds_not_below s h)

-- Seconds of at most 2^53 ns are given back, for 2^53 ns come back as they were.
most_is : most_seconds ≡ fin false 4835703278458517 (negsuc 28)
unfolding seconds_of Ieee.of_int Ieee.div
most_is = refl

billion_is : billion ≡ fin false 1953125 (pos 9)
unfolding Ieee.of_int
billion_is = refl

multiplied_back : Ieee.mul binary64 (fin false 4835703278458517 (negsuc 28)) (fin false 1953125 (pos 9)) ≡ fin false 1 (pos 53)
unfolding Ieee.mul
multiplied_back = refl

two_to_53_is : two_to_53 ≡ fin false 1 (pos 53)
unfolding Ieee.of_int
two_to_53_is = refl

-- 2^53 ns come back.
most_back : Ieee.mul binary64 most_seconds billion ≡ two_to_53
most_back = rw (most_is, billion_is, two_to_53_is) multiplied_back

most_finite : T (finite most_seconds)
unfolding seconds_of Ieee.of_int Ieee.div
most_finite = tt

billion_within : Within billion billion
unfolding Ieee.of_int le
billion_within = record { at_most = tt }

billion_finite : T (finite billion)
unfolding Ieee.of_int
billion_finite = tt

pub product_within : (s : Float) → Within most_seconds s → Within two_to_53 (product s)
product_within s h =
    subst (λ (c : Float). Within c (product s)) most_back
    (within_mul binary64 {d = billion} h billion_within most_finite billion_finite)

pub span_given : (s : Float) → Within most_seconds s → span_of_seconds s ≡ Ok (record { 0 = nanoseconds_of s })
unfolding span_of_seconds
span_given s h =
    let p = product_within s h in
    rw (is_true (le (Ieee.neg two_to_53) (product s)) (within_lower p), is_true (le (product s) two_to_53) (within_upper p))
