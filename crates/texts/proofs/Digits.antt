-- How digits are put: a number's are those of its tenth and the last, a negative one's stand behind a minus sign, and a word's
-- hexadecimal ones come from the highest down.
-- Assumes nothing.
use Prim.Native.Nat.{ℕ, zero, suc, ◌+◌, ◌-◌, ◌*◌, ◌/◌, ◌%◌, ◌^◌, ◌≤◌, ◌<◌}
use mathlib.Core.Path.{◌≡◌, refl, sym, ap, ◌∙◌}
use mathlib.Core.Bool.{Bool, true, false}
use mathlib.Core.List.{List, [], ◌∷◌, ◌++◌}
use borrow.Author.Tests.{lt-ltb, le-ltb, ltb-false}
use native.Mathlib.Nat.{pow-suc}
use native.Mathlib.Omega.{arith}
use lib.Dec.{ltb}
use lib.Pow.{pow-add}
use Rattle.number_words.specs.Word.{signed_of}
use Rattle.texts.specs.Numerals.{glyph, decimal_by, decimal_of, signed_text, hex_by}

pub glyph_digit : (d : ℕ) → d < 10 → glyph d ≡ 48 + d
unfolding glyph
glyph_digit d h = rw (lt-ltb d 10 h)

pub glyph_letter : (d : ℕ) → 10 ≤ d → glyph d ≡ 87 + d
unfolding glyph
glyph_letter d h = rw (le-ltb d 10 h)

-- ---- Decimal digits.

-- Room for more digits than a number has changes nothing.
decimal_enough : (k j n : ℕ) → n < k → n < j → decimal_by k n ≡ decimal_by j n
unfolding decimal_by
decimal_enough zero j n h h' = absurd (omega arith)
decimal_enough (suc k) zero n h h' = absurd (omega arith)
decimal_enough (suc k) (suc j) n h h' = by (ltb n 10) refl (λ l l'. decimal_enough k j (n / 10) l l')
  where
    by : (t : Bool) → ltb n 10 ≡ t → (n / 10 < k → n / 10 < j → decimal_by k (n / 10) ≡ decimal_by j (n / 10)) →
        decimal_by (suc k) n ≡ decimal_by (suc j) n
    by true e tenth = rw e
    by false e tenth =
        let many : 10 ≤ n = ltb-false n 10 e in
        rw e (ap (λ (ds : List ℕ). ds ++ (glyph (n % 10) ∷ [])) (tenth (omega arith) (omega arith)))

pub decimal_one : (n : ℕ) → n < 10 → decimal_of n ≡ glyph n ∷ []
unfolding decimal_of decimal_by
decimal_one n h = rw (lt-ltb n 10 h)

pub decimal_more : (n : ℕ) → 10 ≤ n → decimal_of n ≡ decimal_of (n / 10) ++ (glyph (n % 10) ∷ [])
unfolding decimal_of decimal_by
decimal_more n h =
    rw (le-ltb n 10 h)
    (ap (λ (ds : List ℕ). ds ++ (glyph (n % 10) ∷ [])) (decimal_enough n (suc (n / 10)) (n / 10) (omega arith) (omega arith)))

-- ---- A word's signed number.

pub signed_low : (w : ℕ) → w < 2 ^ 63 → signed_text (signed_of w) ≡ decimal_of w
unfolding signed_text signed_of
signed_low w h = rw (lt-ltb w (2 ^ 63) h)

pub signed_high : (w : ℕ) → 2 ^ 63 ≤ w → w < 2 ^ 64 → signed_text (signed_of w) ≡ 45 ∷ decimal_of (18446744073709551615 - w + 1)
unfolding signed_text signed_of
signed_high w h k =
    let below : suc (2 ^ 64 - suc w) ≡ 18446744073709551615 - w + 1 = omega arith in
    rw (le-ltb w (2 ^ 63) h) (ap (λ (n : ℕ). 45 ∷ decimal_of n) below)

-- ---- Hexadecimal digits.

pub sixteens : (k : ℕ) → 16 ^ k ≡ 2 ^ (4 * k)
sixteens zero = refl
sixteens (suc k) =
    let on : 4 * k + 4 ≡ 4 * suc k = omega arith in
    pow-suc 16 k ∙ ap (λ (n : ℕ). n * 16) (sixteens k) ∙ sym (pow-add 2 (4 * k) 4) ∙ ap (λ (n : ℕ). 2 ^ n) on

pub hex_next : (k w : ℕ) → 0 < k → hex_by k w ≡ glyph (w / 2 ^ (4 * (k - 1)) % 16) ∷ hex_by (k - 1) w
unfolding hex_by
hex_next zero w h = absurd (omega arith)
hex_next (suc k) w h =
    let back : suc k - 1 ≡ k = omega arith in
    rw (back) (ap (λ (n : ℕ). glyph (w / n % 16) ∷ hex_by k w) (sixteens k))
