-- A range is short exactly where it is under 100,000 ns wide, or a gap of less than that (RULES 8.6); so one that is not short
-- is 100,000 ns wide or more, and so is what lies around it.
-- Assumes nothing.
use mathlib.Core.Path.{◌≡◌, refl, sym, ◌∙◌}
use mathlib.Core.Bool.{Bool, true, false}
use Prim.Native.Nat.{ℕ}
use native.Mathlib.Omega.{arith}
use borrow.Author.Tests.{ltb-true, ltb-false}
use lib.Dec.{ltb, le→leb}
use lib.IntN.{ℤ, pos, negsuc, nat_abs, ◌-ℤ◌}
use lib.Signed.{◌≤ℤ◌, le_z_yes}
use lib.Ieee
use lib.Ieee.{lt, le, of_bits}
use Rattle.floats.proofs.Relations.{◌≼◌, ◌≺◌}
use Rattle.floats.specs.Constants.{ten_thousandth}
use Rattle.floats.proofs.Tests.{is_true}
use Rattle.floats.proofs.Preorder.{le_trans}
use Rattle.floats.proofs.Strict.{le_lt_trans, le→not-lt}
use Rattle.times.specs.Time.{span_between, seconds_of}
use Rattle.times.specs.declared.time.Duration.{Duration}
use Rattle.times.proofs.Answers.{span_made}
use Rattle.times.proofs.Integers.{at_most_trans, difference_mono, difference_not_below}
use Rattle.times.proofs.Exact.{size_turned}
use Rattle.times.proofs.Seconds.{seconds_mono, seconds_size}
use Rattle.shapes.specs.declared.waypoint.Leg.{Leg}
use Rattle.proximity.specs.Range.{range_start, range_end, is_short}
use Rattle.std.specs.Prelude.{Ok}

-- ---- In seconds: those of 99,999 ns are below 1e-4, and those of 100,000 ns are not.

under : seconds_of (pos 99999) ≺ ten_thousandth
unfolding seconds_of Ieee.of_int Ieee.div of_bits lt
under = tt

over : ten_thousandth ≼ seconds_of (pos 100000)
unfolding seconds_of Ieee.of_int Ieee.div of_bits le
over = tt

pub wide_seconds : (z : ℤ) → pos 100000 ≤ℤ z → ten_thousandth ≼ seconds_of z
wide_seconds z h = le_trans ten_thousandth (seconds_of (pos 100000)) (seconds_of z) over (seconds_mono (pos 100000) z h)

short : (n : ℕ) (b : Bool) → ltb n 100000 ≡ b → lt (seconds_of (pos n)) ten_thousandth ≡ b
short n true e =
    let s = seconds_of (pos n) in
    let few = seconds_mono (pos n) (pos 99999) (le_z_yes (le→leb n 99999 (omega (arith, ltb-true n 100000 e)))) in
    is_true (lt s ten_thousandth) (le_lt_trans s (seconds_of (pos 99999)) ten_thousandth few under)
short n false e =
    le→not-lt ten_thousandth (seconds_of (pos n)) (wide_seconds (pos n) (le_z_yes (le→leb 100000 n (ltb-false n 100000 e))))

pub short_is_under : (d : Duration) → is_short d ≡ ltb (nat_abs d.0) 100000
short_is_under d = rw (seconds_size d.0) (short (nat_abs d.0) (ltb (nat_abs d.0) 100000) refl)

-- ---- A range that is not short.

pub record Long (agent obstacle : Leg) : Type 0 where
  pub width : Duration
  pub given : span_between (range_end agent obstacle) (range_start agent obstacle) ≡ Ok width
  pub not_short : is_short width ≡ false

not_under : (z : ℤ) → pos 0 ≤ℤ z → ltb (nat_abs z) 100000 ≡ false → pos 100000 ≤ℤ z
not_under (pos n) low e = le_z_yes (le→leb 100000 n (ltb-false n 100000 e))
not_under (negsuc n) low e = absurd low.le

module _ {agent obstacle : Leg} (long : Long agent obstacle) where
  size : ltb (nat_abs ((range_start agent obstacle).0 -ℤ (range_end agent obstacle).0)) 100000 ≡ false
  size =
      rw (span_made (range_end agent obstacle) (range_start agent obstacle) long.width long.given).number
      (sym (short_is_under long.width) ∙ long.not_short)

  pub long_gap : (range_end agent obstacle).0 ≤ℤ (range_start agent obstacle).0 →
      pos 100000 ≤ℤ ((range_start agent obstacle).0 -ℤ (range_end agent obstacle).0)
  long_gap backward = not_under _ (difference_not_below _ _ backward) size

  -- From s to e around a range that is in order.
  pub long_around : (s e : ℤ) → (range_start agent obstacle).0 ≤ℤ (range_end agent obstacle).0 →
      s ≤ℤ (range_start agent obstacle).0 → (range_end agent obstacle).0 ≤ℤ e → pos 100000 ≤ℤ (e -ℤ s)
  long_around s e ordered h k =
      let t0 = (range_start agent obstacle).0 in
      let t1 = (range_end agent obstacle).0 in
      at_most_trans (pos 100000) (t1 -ℤ t0) (e -ℤ s)
      (not_under (t1 -ℤ t0) (difference_not_below t0 t1 ordered) (rw (size_turned t1 t0) size))
      (difference_mono s t0 t1 e h k)
