-- Exact numbers: the two comparisons that tell them, which others are exact with them, and that their sums and
-- differences fit 64 bits.
-- Assumes nothing.
use Rattle.std.proofs.Common.{◌≡◌, ℕ, zero, suc, ◌+◌, ◌-◌, ◌^◌, ◌<◌, ◌≤◌, Bool, true, false, cond, not, ◌&&◌, ltb, leb, ℤ, pos, negsuc, ◌+ℤ◌, ◌-ℤ◌, neg_ℤ, nat_abs, ◌≤ℤ◌, sym, refl, ◌∙◌, arith, leb→le, w64, SFits, ltb-false, ltb-true, le-leb, leb-true}
use mathlib.Core.Bool.{and-true, false≢true}
use borrow.Author.Tests.{lt-leb}
use lib.Dec.{leb-suc-suc}
use lib.IntN.{sub_ℕ, +ℤ_comm, neg_ℤ-+ℤ, neg_ℤ-neg_ℤ}
use lib.Signed.{lt_z, le_z}
use Rattle.times.specs.Time.{is_exact}

at_most : (a b : ℕ) → leb a b ≡ not (ltb b a)
at_most a b = by (ltb b a) refl
  where
    by : (t : Bool) → ltb b a ≡ t → leb a b ≡ not t
    by true e = lt-leb a b (ltb-true b a e)
    by false e = le-leb a b (ltb-false b a e)

-- Exact is neither below -2^53 nor above 2^53.
pub two_sided : (z : ℤ) → is_exact z ≡ (not (lt_z z (negsuc 9007199254740991)) && not (lt_z (pos 9007199254740992) z))
unfolding is_exact
two_sided (pos n) = at_most n 9007199254740992
two_sided (negsuc n) = leb-suc-suc n 9007199254740991 ∙ at_most n 9007199254740991 ∙ sym (and-true _)

-- The same by what is at most what: exact is at least -2^53 and at most 2^53.
pub between : (z : ℤ) → is_exact z ≡ (le_z (negsuc 9007199254740991) z && le_z z (pos 9007199254740992))
unfolding is_exact
between (pos n) = refl
between (negsuc n) = leb-suc-suc n 9007199254740991 ∙ sym (and-true _)

size_subℕ : (a b : ℕ) → nat_abs (sub_ℕ a b) ≤ a + b
size_subℕ a b = by (ltb a b) refl
  where
    by : (t : Bool) → ltb a b ≡ t → nat_abs (cond t (negsuc (b - suc a)) (pos (a - b))) ≤ a + b
    by true e = omega (arith, ltb-true a b e)
    by false e = omega arith

size_sum : (a b : ℤ) → nat_abs (a +ℤ b) ≤ nat_abs a + nat_abs b
size_sum (pos a) (pos b) = omega arith
size_sum (pos a) (negsuc b) = size_subℕ a (suc b)
size_sum (negsuc a) (pos b) = omega (arith, size_subℕ b (suc a))
size_sum (negsuc a) (negsuc b) = omega arith

pub size_neg : (b : ℤ) → nat_abs (neg_ℤ b) ≡ nat_abs b
size_neg (pos zero) = refl
size_neg (pos (suc n)) = refl
size_neg (negsuc n) = refl

-- From b to a is as far as from a to b.
pub size_turned : (a b : ℤ) → nat_abs (a -ℤ b) ≡ nat_abs (b -ℤ a)
size_turned a b = rw (← size_neg (a -ℤ b), neg_ℤ-+ℤ a (neg_ℤ b), neg_ℤ-neg_ℤ b, +ℤ_comm (neg_ℤ a) b)

fits : (z : ℤ) → nat_abs z < 2 ^ 63 → SFits w64 z
fits (pos n) h = record { sfits = h }
fits (negsuc n) h = record { sfits = omega arith }

size : (z : ℤ) → is_exact z ≡ true → nat_abs z ≤ 2 ^ 53
unfolding is_exact
size z = leb-true (nat_abs z) (2 ^ 53)

pub smaller_exact : (x y : ℤ) → pos 0 ≤ℤ x → x ≤ℤ y → is_exact y ≡ true → is_exact x ≡ true
unfolding is_exact
smaller_exact (pos m) (pos n) low h r = le-leb m (2 ^ 53) (omega (arith, leb→le m n h.le, leb-true n (2 ^ 53) r))
smaller_exact (pos m) (negsuc n) low h r = absurd h.le
smaller_exact (negsuc m) y low h r = absurd low.le

-- Half of the reach on either side.
pub difference_exact : (a b : ℤ) → nat_abs a ≤ 2 ^ 52 → nat_abs b ≤ 2 ^ 52 → is_exact (a -ℤ b) ≡ true
unfolding is_exact
difference_exact a b h k = le-leb (nat_abs (a -ℤ b)) (2 ^ 53) (omega (arith, size_sum a (neg_ℤ b), size_neg b))

pub both : (a b : Bool) → (a && b) ≡ true → (a ≡ true) × (b ≡ true)
both true b e = (refl, e)
both false b e = absurd (false≢true e)

pub sum_fits : (a b : ℤ) → (is_exact a && is_exact b) ≡ true → SFits w64 (a +ℤ b)
sum_fits a b h =
    let held = both (is_exact a) (is_exact b) h in
    fits (a +ℤ b) (omega (arith, size a held.0, size b held.1, size_sum a b))

pub difference_fits : (a b : ℤ) → (is_exact a && is_exact b) ≡ true → SFits w64 (a -ℤ b)
difference_fits a b h =
    let held = both (is_exact a) (is_exact b) h in
    fits (a -ℤ b) (omega (arith, size a held.0, size b held.1, size_sum a (neg_ℤ b), size_neg b))
