-- Signed numbers of 64 bits raised by 2^63: their sums and their order are those of the numbers.
-- Assumes nothing.
use Rattle.std.proofs.Common.{Some, None, ◌≡◌, ℕ, suc, ◌+◌, ◌-◌, ◌^◌, ◌<◌, ◌≤◌, max, Bool, true, false, cond, ltb, ℤ, pos, negsuc, ◌+ℤ◌, refl, arith, ltb-false, ltb-true, le-ltb, lt-ltb, le-leb}
use borrow.Author.Tests.{lt-leb}
use lib.IntN.{sub_ℕ}
use lib.Signed.{lt_z}
use Rattle.hold_lines.specs.Text.{raised_of}
use Rattle.hold_figures.specs.Crews.{is_signed64}
use Rattle.hold_figures.specs.Words.{raised_sum}

-- ---- The three cases of a sum.

pub sum_under : (x y : ℕ) → x + y < 2 ^ 63 → raised_sum x y ≡ None
unfolding raised_sum
sum_under x y h = rw (lt-leb (2 ^ 63) (x + y) h)

pub sum_over : (x y : ℕ) → 2 ^ 63 + 2 ^ 64 ≤ x + y → raised_sum x y ≡ None
unfolding raised_sum
sum_over x y h = rw (le-leb (2 ^ 63) (x + y) (omega arith), le-ltb (x + y) (2 ^ 63 + 2 ^ 64) h)

-- The sum that both make, raised once.
pub sum_of : (x y z : ℕ) → x + y ≡ 2 ^ 63 + z → z < 2 ^ 64 → raised_sum x y ≡ Some z
unfolding raised_sum
sum_of x y z e h =
    let once : x + y - 2 ^ 63 ≡ z = omega arith in
    rw (le-leb (2 ^ 63) (x + y) (omega arith), lt-ltb (x + y) (2 ^ 63 + 2 ^ 64) (omega arith), once)

-- ---- The numbers that they stand for.

-- Of numbers of two signs the sum is never too large or too small.
mixed_sum : (a b x y : ℕ) → a < 2 ^ 63 → b < 2 ^ 63 → x + y ≡ 2 ^ 63 + a + (2 ^ 63 - suc b) →
    raised_sum x y ≡ cond (is_signed64 (sub_ℕ a (suc b))) (Some (raised_of (sub_ℕ a (suc b)))) None
unfolding is_signed64 raised_of
mixed_sum a b x y fa fb e = by (ltb a (suc b)) refl
  where
    by : (t : Bool) → ltb a (suc b) ≡ t →
        raised_sum x y ≡
        cond
        (is_signed64 (cond t (negsuc (suc b - suc a)) (pos (a - suc b))))
        (Some (raised_of (cond t (negsuc (suc b - suc a)) (pos (a - suc b)))))
        None
    by true l =
        let less = ltb-true a (suc b) l in
        rw (lt-ltb (suc b - suc a) (2 ^ 63) (omega arith))
        (sum_of x y (2 ^ 63 - suc (suc b - suc a)) (omega arith) (omega arith))
    by false l =
        let more = ltb-false a (suc b) l in
        rw (lt-ltb (a - suc b) (2 ^ 63) (omega arith)) (sum_of x y (2 ^ 63 + (a - suc b)) (omega arith) (omega arith))

-- The sum of two raised numbers is the sum of the numbers, raised, where that is a signed number of 64 bits.
pub raised_sum_law : (a b : ℤ) → is_signed64 a ≡ true → is_signed64 b ≡ true →
    raised_sum (raised_of a) (raised_of b) ≡ cond (is_signed64 (a +ℤ b)) (Some (raised_of (a +ℤ b))) None
unfolding is_signed64 raised_of
raised_sum_law (pos a) (pos b) fa fb = by (ltb (a + b) (2 ^ 63)) refl
  where
    by : (t : Bool) → ltb (a + b) (2 ^ 63) ≡ t → raised_sum (2 ^ 63 + a) (2 ^ 63 + b) ≡ cond t (Some (2 ^ 63 + (a + b))) None
    by true e =
        let low = ltb-true (a + b) (2 ^ 63) e in
        sum_of (2 ^ 63 + a) (2 ^ 63 + b) (2 ^ 63 + (a + b)) (omega arith) (omega arith)
    by false e = let high = ltb-false (a + b) (2 ^ 63) e in sum_over (2 ^ 63 + a) (2 ^ 63 + b) (omega arith)
raised_sum_law (pos a) (negsuc b) fa fb =
    mixed_sum a b (2 ^ 63 + a) (2 ^ 63 - suc b) (ltb-true a (2 ^ 63) fa) (ltb-true b (2 ^ 63) fb) (omega arith)
raised_sum_law (negsuc a) (pos b) fa fb =
    mixed_sum b a (2 ^ 63 - suc a) (2 ^ 63 + b) (ltb-true b (2 ^ 63) fb) (ltb-true a (2 ^ 63) fa) (omega arith)
raised_sum_law (negsuc a) (negsuc b) fa fb = by (ltb (suc (a + b)) (2 ^ 63)) refl
  where
    below_a : a < 2 ^ 63
    below_a = ltb-true a (2 ^ 63) fa

    below_b : b < 2 ^ 63
    below_b = ltb-true b (2 ^ 63) fb

    by : (t : Bool) → ltb (suc (a + b)) (2 ^ 63) ≡ t →
        raised_sum (2 ^ 63 - suc a) (2 ^ 63 - suc b) ≡ cond t (Some (2 ^ 63 - suc (suc (a + b)))) None
    by true e =
        let low = ltb-true (suc (a + b)) (2 ^ 63) e in
        sum_of (2 ^ 63 - suc a) (2 ^ 63 - suc b) (2 ^ 63 - suc (suc (a + b))) (omega arith) (omega arith)
    by false e =
        let high = ltb-false (suc (a + b)) (2 ^ 63) e in
        sum_under (2 ^ 63 - suc a) (2 ^ 63 - suc b) (omega (arith, below_a, below_b))

-- The larger of two numbers, raised, is the larger of the raised ones.
pub raised_larger : (a b : ℤ) → raised_of (cond (lt_z a b) b a) ≡ max (raised_of a) (raised_of b)
unfolding raised_of
raised_larger (pos a) (pos b) = by (ltb a b) refl
  where
    by : (t : Bool) → ltb a b ≡ t → raised_of (cond t (pos b) (pos a)) ≡ max (2 ^ 63 + a) (2 ^ 63 + b)
    by true e = omega (arith, ltb-true a b e)
    by false e = omega (arith, ltb-false a b e)
raised_larger (pos a) (negsuc b) = omega arith
raised_larger (negsuc a) (pos b) = omega arith
raised_larger (negsuc a) (negsuc b) = by (ltb b a) refl
  where
    by : (t : Bool) → ltb b a ≡ t → raised_of (cond t (negsuc b) (negsuc a)) ≡ max (2 ^ 63 - suc a) (2 ^ 63 - suc b)
    by true e = omega (arith, ltb-true b a e)
    by false e = omega (arith, ltb-false b a e)
