-- A decimal read digit by digit: digits only make a number larger, so its limit may be tested at each of them.
-- Assumes nothing.
use Prim.Native.Nat.{ℕ, ◌+◌, ◌-◌, ◌*◌, ◌≤◌, ◌<◌}
use mathlib.Core.Path.{◌≡◌, refl, sym, ap}
use mathlib.Core.Bool.{Bool, true, false, cond, ◌&&◌, and-false}
use mathlib.Core.List.{List, [], ◌∷◌}
use Rattle.std.proofs.Common.{Option, None, Some}
use Rattle.std.specs.Option.{option_and_then}
use native.Mathlib.Omega.{arith}
use borrow.Author.Tests.{lt-ltb, le-leb, lt-leb, leb-true, leb-false, eqb-true, eqb-false, ne_eqb}
use lib.Dec.{leb, eqb}
use Rattle.lent.specs.Listed.{every}
use Rattle.texts.specs.Reading.{is_digit, count_of, read_from, numeral_read}
use Rattle.hold_lines.specs.Text.{is_decimal, number_up_to}
use Rattle.hold_lines.specs.Place.{first_digit, next_digit}
use Rattle.hold_lines.proofs.Digits.{digit_bounds}

-- Goes on with what the digits make.
abbrev pub after_digits : Option ℕ → (ℕ → Option ℕ) → Option ℕ
after_digits digits go = option_and_then go digits

-- The number that bytes make behind digits that made n, where each of them may stand.
unfoldable pub number_on : ℕ → ℕ → List ℕ → Option ℕ
number_on most n [] = Some n
number_on most n (b ∷ bs) = after_digits (next_digit most n b) (λ m. number_on most m bs)

digit_count : (b : ℕ) → is_digit b ≡ true → count_of b ≡ b - 48
unfolding count_of
digit_count b e = rw (lt-ltb b 97 (omega (arith, (digit_bounds b e).1)))

-- Digits make a number no smaller.
pub reads_up : (n : ℕ) (ds : List ℕ) → n ≤ read_from 10 n ds
unfolding read_from
reads_up n [] = omega arith
reads_up n (d ∷ ds) = omega (arith, reads_up (n * 10 + count_of d) ds)

-- The number of digits behind those that made n, tested at the end.
abbrev pub tested_last : ℕ → ℕ → List ℕ → Option ℕ
tested_last most n ds = cond (every is_digit ds && leb (read_from 10 n ds) most) (Some (read_from 10 n ds)) None

pub tested_each : (most n : ℕ) (ds : List ℕ) → 0 < n → n ≤ most → number_on most n ds ≡ tested_last most n ds
unfolding number_on next_digit every read_from
tested_each most n [] some-n h = rw (le-leb n most h)
tested_each most n (b ∷ bs) some-n h =
    by (is_digit b) refl (leb m most) refl (λ up. tested_each most m bs (omega (arith, some-n)) up)
  where
    m : ℕ
    m = n * 10 + (b - 48)

    by : (t : Bool) → is_digit b ≡ t → (u : Bool) → leb m most ≡ u → (m ≤ most → number_on most m bs ≡ tested_last most m bs) →
        number_on most n (b ∷ bs) ≡ tested_last most n (b ∷ bs)
    by false e u f rest = rw (ne_eqb n 0 (λ z. omega (arith, some-n, z)), e)
    by true e true f rest =
        rw (ne_eqb n 0 (λ z. omega (arith, some-n, z)), e, digit_count b e, f) (rest (leb-true m most f))
    by true e false f rest =
        let above : most < read_from 10 m bs = omega (arith, reads_up m bs, leb-false m most f) in
        rw (ne_eqb n 0 (λ z. omega (arith, some-n, z)), e, digit_count b e, f, lt-leb (read_from 10 m bs) most above)
        (sym (ap (λ (t : Bool). cond t (Some (read_from 10 m bs)) None) (and-false (every is_digit bs))))

-- A single digit makes what it counts.
first_count : (b : ℕ) → is_digit b ≡ true → 0 * 10 + count_of b ≡ b - 48
first_count b e = omega (arith, digit_count b e)

-- A number begins with a digit and goes on with each that may follow.
pub number_begins : (most b : ℕ) (ds : List ℕ) → 9 ≤ most →
    number_up_to most (b ∷ ds) ≡ after_digits (first_digit b) (λ n. number_on most n ds)
unfolding number_up_to is_decimal numeral_read read_from first_digit next_digit number_on every
number_begins most b [] large = by (is_digit b) refl
  where
    by : (t : Bool) → is_digit b ≡ t → number_up_to most (b ∷ []) ≡ after_digits (first_digit b) (λ n. number_on most n [])
    by false e = rw e
    by true e =
        let small : b - 48 ≤ most = omega (arith, (digit_bounds b e).1) in
        rw (e, first_count b e, le-leb (b - 48) most small)
number_begins most b (c ∷ cs) large = by (is_digit b) refl (eqb b 48) refl
  where
    ds : List ℕ
    ds = c ∷ cs

    by : (t : Bool) → is_digit b ≡ t → (u : Bool) → eqb b 48 ≡ u →
        number_up_to most (b ∷ ds) ≡ after_digits (first_digit b) (λ n. number_on most n ds)
    by false e true f = rw (e, f)
    by false e false f = rw (e, f)
    by true e true f = let none_left : b - 48 ≡ 0 = omega (arith, eqb-true b 48 f) in rw (e, f, none_left)
    by true e false f =
        let low : 48 ≤ b = (digit_bounds b e).0 in
        let high : b ≤ 57 = (digit_bounds b e).1 in
        let some-n : 0 < b - 48 = omega (arith, eqb-false b 48 f) in
        let back : numeral_read 10 (b ∷ ds) ≡ read_from 10 (b - 48) ds = ap (λ (n : ℕ). read_from 10 n ds) (first_count b e) in
        rw (e, f, back) (sym (tested_each most (b - 48) ds some-n (omega arith)))
