-- A total is its mean times the rounds and the remainder, and by no other two numbers where the remainder is below the rounds.
-- Assumes nothing.
use Prim.Native.Nat.{ℕ, zero, suc, ◌+◌, ◌-◌, ◌*◌, ◌/◌, ◌%◌, ◌<◌}
use mathlib.Core.Path.{◌≡◌, sym, ap, ◌∙◌}
use native.Mathlib.Nat.{suc-mul, mod-lt, mod-eq_of_lt, div-add-mod', div-eq_of_lt, mul-add-div_right, mul-add-mod_self_right}
use native.Mathlib.Omega.{arith}
use borrow.Author.Tests.{lt-ltb}
use lib.IntN.{ℤ, pos, negsuc, neg_ℤ, ◌+ℤ◌, ◌*ℤ◌}
use Rattle.hold_figures.specs.Crews.{mean_of, remainder_of}

-- What is above a product and below the next is divided back.
quotient_back : (q k r : ℕ) → k < r → (q * r + k) / r ≡ q
quotient_back q k r h =
    mul-add-div_right (omega arith) q k ∙ ap (λ n. q + n) (div-eq_of_lt h) ∙ omega arith

rest_back : (q k r : ℕ) → k < r → (q * r + k) % r ≡ k
rest_back q k r h = mul-add-mod_self_right q r k ∙ mod-eq_of_lt h

-- Below zero the rest is counted from the other end.
from_below : (q k r : ℕ) → k < r → negsuc q *ℤ pos r +ℤ pos k ≡ negsuc (q * r + (r - 1 - k))
from_below q k r h = by (suc q * r) (suc-mul q r)
  where
    by : (p : ℕ) → p ≡ q * r + r → neg_ℤ (pos p) +ℤ pos k ≡ negsuc (q * r + (r - 1 - k))
    by zero e = absurd (omega arith)
    by (suc p) e = rw (lt-ltb k (suc p) (omega arith)) (ap negsuc (omega arith))

pub mean_times : (total : ℤ) (rounds : ℕ) → 0 < rounds →
    total ≡ mean_of total rounds *ℤ pos rounds +ℤ pos (remainder_of total rounds)
unfolding mean_of remainder_of
mean_times (pos n) rounds h = ap pos (sym (div-add-mod' n rounds))
mean_times (negsuc n) rounds h =
    let rest : ℕ = rounds - 1 - n % rounds in
    let back : n ≡ n / rounds * rounds + (rounds - 1 - rest) = omega (arith, mod-lt n h, div-add-mod' n rounds) in
    ap negsuc back ∙ sym (from_below (n / rounds) rest rounds (omega arith))

pub remainder_below : (total : ℤ) (rounds : ℕ) → 0 < rounds → remainder_of total rounds < rounds
unfolding remainder_of
remainder_below (pos n) rounds h = mod-lt n h
remainder_below (negsuc n) rounds h = omega arith

-- The mean and the remainder of what was put together from two numbers are those two.
pub mean_back : (mean : ℤ) (remainder rounds : ℕ) → remainder < rounds →
    mean_of (mean *ℤ pos rounds +ℤ pos remainder) rounds ≡ mean
unfolding mean_of
mean_back (pos q) k r h = ap pos (quotient_back q k r h)
mean_back (negsuc q) k r h =
    ap (λ z. mean_of z r) (from_below q k r h) ∙ ap negsuc (quotient_back q (r - 1 - k) r (omega arith))

pub remainder_back : (mean : ℤ) (remainder rounds : ℕ) → remainder < rounds →
    remainder_of (mean *ℤ pos rounds +ℤ pos remainder) rounds ≡ remainder
unfolding remainder_of
remainder_back (pos q) k r h = rest_back q k r h
remainder_back (negsuc q) k r h =
    ap (λ z. remainder_of z r) (from_below q k r h) ∙ omega (arith, rest_back q (r - 1 - k) r (omega arith))
