-- What the functions on a digit have found, as tests of the byte.
-- Assumes nothing.
use Prim.Native.Nat.{ℕ, ◌+◌, ◌-◌, ◌*◌, ◌≤◌, ◌<◌}
use mathlib.Core.Path.{◌≡◌, refl, sym, ap, ◌∙◌}
use mathlib.Core.Bool.{Bool, true, false, cond, ◌&&◌, true≢false}
use Rattle.std.proofs.Common.{Option, Some, None}
use native.Mathlib.Omega.{arith}
use borrow.Author.Tests.{leb-true, ne_eqb}
use lib.Dec.{leb}
use Rattle.texts.specs.Reading.{is_digit}
use Rattle.hold_lines.specs.Place.{first_digit, next_digit}

abbrev is_number : Option ℕ → Bool
is_number (Some n) = true
is_number None = false

abbrev number_in : Option ℕ → ℕ
number_in (Some n) = n
number_in None = 0

number_where : (t : Bool) (n : ℕ) → is_number (cond t (Some n) None) ≡ t
number_where true n = refl
number_where false n = refl

digit_there : (b d : ℕ) → first_digit b ≡ Some d → is_digit b ≡ true
unfolding first_digit
digit_there b d e = sym (number_where (is_digit b) (b - 48)) ∙ ap is_number e

digit_counts : (b d : ℕ) → first_digit b ≡ Some d → b - 48 ≡ d
unfolding first_digit
digit_counts b d e = ap number_in (rw (digit_there b d e) at e)

-- A byte that makes no number is no digit.
pub no_digit : (b : ℕ) → first_digit b ≡ None → is_digit b ≡ false
unfolding first_digit
no_digit b e = sym (number_where (is_digit b) (b - 48)) ∙ ap is_number e

-- The digits are the bytes 48 to 57.
pub digit_bounds : (b : ℕ) → is_digit b ≡ true → (48 ≤ b) × (b ≤ 57)
unfolding is_digit
digit_bounds b e = by (leb 48 b) refl (leb b 57) refl e
  where
    by : (low : Bool) → leb 48 b ≡ low → (high : Bool) → leb b 57 ≡ high → low && high ≡ true → (48 ≤ b) × (b ≤ 57)
    by true f true g h = (leb-true 48 b f, leb-true b 57 g)
    by true f false g h = absurd (true≢false (sym h))
    by false f high g h = absurd (true≢false (sym h))

-- A digit counts at most 9.
pub digit_small : (b d : ℕ) → first_digit b ≡ Some d → d < 10
digit_small b d e = omega (arith, (digit_bounds b (digit_there b d e)).1, digit_counts b d e)

-- Behind a number that is not zero a digit is held to the limit alone.
pub next_of_digit : (most n b d : ℕ) → first_digit b ≡ Some d → (n ≡ 0 → ⊥) →
    next_digit most n b ≡ cond (leb (n * 10 + d) most) (Some (n * 10 + d)) None
unfolding next_digit
next_of_digit most n b d e some = rw (ne_eqb n 0 some, digit_there b d e, digit_counts b d e)
