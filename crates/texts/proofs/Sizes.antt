-- How long the field of a word can be: 21 bytes, and 17 for the bits of a double.
-- Assumes nothing.
use Prim.Native.Nat.{ℕ, zero, suc, ◌+◌, ◌-◌, ◌*◌, ◌/◌, ◌%◌, ◌^◌, ◌≤◌, ◌<◌}
use mathlib.Core.Path.{◌≡◌, refl, sym, ap}
use mathlib.Core.Bool.{Bool, true, false}
use mathlib.Core.List.{[], ◌∷◌}
use borrow.Author.Tests.{ltb-true, ltb-false}
use native.Mathlib.Nat.{pow-suc}
use native.Mathlib.Omega.{arith}
use lib.Dec.{ltb}
use lib.ListN.{length, length-append}
use Rattle.texts.specs.Numerals.{glyph, decimal_of, hex_by, hex_of, count_field, time_field, bits_field}
use Rattle.texts.proofs.Digits.{decimal_one, decimal_more, signed_low, signed_high}

-- A number below 10 ^ (k + 1) has at most k + 1 digits.
digits_short : (k n : ℕ) → n < 10 ^ suc k → length (decimal_of n) ≤ suc k
digits_short zero n h = rw (decimal_one n (omega arith)) (omega arith)
digits_short (suc k) n h = by (ltb n 10) refl (λ l. digits_short k (n / 10) l)
  where
    by : (t : Bool) → ltb n 10 ≡ t → (n / 10 < 10 ^ suc k → length (decimal_of (n / 10)) ≤ suc k) →
        length (decimal_of n) ≤ suc (suc k)
    by true e tenth = rw (decimal_one n (ltb-true n 10 e)) (omega arith)
    by false e tenth =
        let less : n < 10 ^ suc k * 10 = rw (sym (pow-suc 10 (suc k))) h in
        let front : length (decimal_of (n / 10)) ≤ suc k = tenth (omega arith) in
        rw (decimal_more n (ltb-false n 10 e), length-append (decimal_of (n / 10)) (glyph (n % 10) ∷ [])) (omega arith)

pub word_digits : (n : ℕ) → n < 2 ^ 64 → length (decimal_of n) ≤ 20
word_digits n h = digits_short 19 n (omega arith)

-- The same of a count, with the space in front of it.
pub count_digits : (k n : ℕ) → n < 10 ^ suc k → length (count_field n) ≤ suc (suc k)
unfolding count_field
count_digits k n h = omega (arith, digits_short k n h)

pub count_short : (n : ℕ) → n < 2 ^ 64 → length (count_field n) ≤ 21
unfolding count_field
count_short n h = omega (arith, word_digits n h)

pub time_short : (w : ℕ) → w < 2 ^ 64 → length (time_field w) ≤ 21
unfolding time_field
time_short w h = by (ltb w (2 ^ 63)) refl
  where
    by : (t : Bool) → ltb w (2 ^ 63) ≡ t → length (time_field w) ≤ 21
    by true e = let low = ltb-true w (2 ^ 63) e in rw (signed_low w low) (omega (arith, digits_short 18 w (omega arith)))
    by false e =
        let high = ltb-false w (2 ^ 63) e in
        rw (signed_high w high h) (omega (arith, digits_short 18 (18446744073709551615 - w + 1) (omega arith)))

length_hex : (k w : ℕ) → length (hex_by k w) ≡ k
unfolding hex_by
length_hex zero w = refl
length_hex (suc k) w = ap suc (length_hex k w)

pub bits_length : (w : ℕ) → length (bits_field w) ≡ 17
unfolding bits_field hex_of
bits_length w = ap suc (length_hex 16 w)
