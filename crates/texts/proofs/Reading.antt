-- Digits say which number they are of: read back they make it, so no two numbers have the same digits.
-- Assumes nothing.
use Prim.Native.Nat.{ℕ, zero, suc, ◌+◌, ◌-◌, ◌*◌, ◌/◌, ◌%◌, ◌^◌, ◌≤◌, ◌<◌}
use mathlib.Core.Path.{◌≡◌, refl, sym, ap, subst, ◌∙◌}
use mathlib.Core.Bool.{Bool, true, false, ◌&&◌}
use mathlib.Core.List.{List, [], ◌∷◌, ◌++◌}
use borrow.Author.Tests.{lt-ltb, le-ltb, ltb-true, ltb-false, le-leb}
use native.Mathlib.Nat.{add-mul, add_assoc, mul_assoc, pow-succ', one-le-pow}
use native.Mathlib.Omega.{arith}
use lib.Arith.{mod-mul}
use lib.Dec.{T, ltb}
use lib.IntN.{ℤ, pos, negsuc}
use lib.ListN.{length, get_or, drop, length-append, get_or-append}
use Rattle.lent.specs.Listed.{every}
use Rattle.texts.specs.Numerals.{glyph, decimal_of, signed_text, hex_by, hex_of}
use Rattle.texts.specs.Reading.{is_digit, count_of, read_from, numeral_read}
use Rattle.texts.proofs.Digits.{glyph_digit, glyph_letter, decimal_one, decimal_more}

-- A claim on the digits of a number: that of one digit, and from its tenth's to a number's.
pub by_tenths : (P : ℕ → Type 0) → ((n : ℕ) → n < 10 → P n) → ((n : ℕ) → 10 ≤ n → P (n / 10) → P n) → (n : ℕ) → P n
by_tenths P one more n = below (suc n) n (omega arith)
  where
    step : (n : ℕ) → (n / 10 < n → P (n / 10)) → (t : Bool) → ltb n 10 ≡ t → P n
    step n tenth true e = one n (ltb-true n 10 e)
    step n tenth false e = let many : 10 ≤ n = ltb-false n 10 e in more n many (tenth (omega arith))

    below : (k n : ℕ) → n < k → P n
    below zero n h = absurd (omega arith)
    below (suc k) n h = step n (λ l. below k (n / 10) (omega arith)) (ltb n 10) refl

-- ---- One digit.

pub digit_back : (d : ℕ) → d < 10 → count_of (glyph d) ≡ d
unfolding count_of
digit_back d h =
    let less : 48 + d < 97 = omega arith in
    let back : 48 + d - 48 ≡ d = omega arith in
    rw (glyph_digit d h, lt-ltb (48 + d) 97 less, back)

pub letter_back : (d : ℕ) → 10 ≤ d → count_of (glyph d) ≡ d
unfolding count_of
letter_back d h =
    let more : 97 ≤ 87 + d = omega arith in
    let back : 87 + d - 87 ≡ d = omega arith in
    rw (glyph_letter d h, le-ltb (87 + d) 97 more, back)

glyph_back : (d : ℕ) → count_of (glyph d) ≡ d
glyph_back d = by (ltb d 10) refl
  where
    by : (t : Bool) → ltb d 10 ≡ t → count_of (glyph d) ≡ d
    by true e = digit_back d (ltb-true d 10 e)
    by false e = letter_back d (ltb-false d 10 e)

read_append : (base n : ℕ) (xs ys : List ℕ) → read_from base n (xs ++ ys) ≡ read_from base (read_from base n xs) ys
unfolding read_from
read_append base n [] ys = refl
read_append base n (x ∷ xs) ys = read_append base (n * base + count_of x) xs ys

-- ---- Decimal digits.

pub decimal_reads : (n : ℕ) → numeral_read 10 (decimal_of n) ≡ n
unfolding numeral_read read_from
decimal_reads = by_tenths (λ n. numeral_read 10 (decimal_of n) ≡ n) one more
  where
    one : (n : ℕ) → n < 10 → numeral_read 10 (decimal_of n) ≡ n
    one n h = rw (decimal_one n h, glyph_back n) (omega arith)

    more : (n : ℕ) → 10 ≤ n → numeral_read 10 (decimal_of (n / 10)) ≡ n / 10 → numeral_read 10 (decimal_of n) ≡ n
    more n h tenth =
        rw (decimal_more n h, read_append 10 0 (decimal_of (n / 10)) (glyph (n % 10) ∷ []), tenth, glyph_back (n % 10))
        (omega arith)

-- No two numbers have the same digits.
pub decimal_same : (n m : ℕ) → decimal_of n ≡ decimal_of m → n ≡ m
decimal_same n m e = sym (decimal_reads n) ∙ ap (numeral_read 10) e ∙ decimal_reads m

every_append : (test : ℕ → Bool) (xs ys : List ℕ) → every test xs ≡ true → every test ys ≡ true → every test (xs ++ ys) ≡ true
unfolding every
every_append test [] ys p q = q
every_append test (x ∷ xs) ys p q = by (test x) p (λ e. every_append test xs ys e q)
  where
    by : (t : Bool) → t && every test xs ≡ true → (every test xs ≡ true → every test (xs ++ ys) ≡ true) →
        t && every test (xs ++ ys) ≡ true
    by true e rest = rest e
    by false e rest = e

digit_is : (d : ℕ) → d < 10 → every is_digit (glyph d ∷ []) ≡ true
unfolding every is_digit
digit_is d h = rw (glyph_digit d h, le-leb 48 (48 + d) (omega arith), le-leb (48 + d) 57 (omega arith))

-- Each of its bytes is a decimal digit.
pub decimal_digits : (n : ℕ) → every is_digit (decimal_of n) ≡ true
decimal_digits = by_tenths (λ n. every is_digit (decimal_of n) ≡ true) one more
  where
    one : (n : ℕ) → n < 10 → every is_digit (decimal_of n) ≡ true
    one n h = rw (decimal_one n h) (digit_is n h)

    more : (n : ℕ) → 10 ≤ n → every is_digit (decimal_of (n / 10)) ≡ true → every is_digit (decimal_of n) ≡ true
    more n h tenth =
        rw (decimal_more n h)
        (every_append is_digit (decimal_of (n / 10)) (glyph (n % 10) ∷ []) tenth (digit_is (n % 10) (omega arith)))

-- A number has a first digit, and that is '0' for 0 alone.
pub decimal_some : (n : ℕ) → 0 < length (decimal_of n)
decimal_some = by_tenths (λ n. 0 < length (decimal_of n)) one more
  where
    one : (n : ℕ) → n < 10 → 0 < length (decimal_of n)
    one n h = rw (decimal_one n h) (omega arith)

    more : (n : ℕ) → 10 ≤ n → 0 < length (decimal_of (n / 10)) → 0 < length (decimal_of n)
    more n h tenth = rw (decimal_more n h, length-append (decimal_of (n / 10)) (glyph (n % 10) ∷ [])) (omega arith)

pub zero_alone : (n : ℕ) → get_or (decimal_of n) 0 0 ≡ 48 → n ≡ 0
zero_alone = by_tenths (λ n. get_or (decimal_of n) 0 0 ≡ 48 → n ≡ 0) one more
  where
    one : (n : ℕ) → n < 10 → get_or (decimal_of n) 0 0 ≡ 48 → n ≡ 0
    one n h e = omega (arith, glyph_digit n h, rw (decimal_one n h) at e)

    more : (n : ℕ) → 10 ≤ n → (get_or (decimal_of (n / 10)) 0 0 ≡ 48 → n / 10 ≡ 0) → get_or (decimal_of n) 0 0 ≡ 48 → n ≡ 0
    more n h tenth e =
        let front = get_or-append (decimal_of (n / 10)) (glyph (n % 10) ∷ []) 0 0 (decimal_some (n / 10)) in
        omega (arith, tenth (sym front ∙ (rw (decimal_more n h) at e)))

-- ---- Signed numbers.

-- No digit is a minus sign.
not_minus : (n : ℕ) (ds : List ℕ) → decimal_of n ≡ 45 ∷ ds → ⊥
unfolding every is_digit
not_minus n ds e = subst (λ (t : Bool). T t) (sym (decimal_digits n) ∙ ap (every is_digit) e) tt

pub signed_same : (a b : ℤ) → signed_text a ≡ signed_text b → a ≡ b
unfolding signed_text
signed_same (pos n) (pos m) e = ap pos (decimal_same n m e)
signed_same (pos n) (negsuc m) e = absurd (not_minus n (decimal_of (suc m)) e)
signed_same (negsuc n) (pos m) e = absurd (not_minus m (decimal_of (suc n)) (sym e))
signed_same (negsuc n) (negsuc m) e =
    let same : suc n ≡ suc m = decimal_same (suc n) (suc m) (ap (drop 1) e) in
    let less : n ≡ m = omega arith in ap negsuc less

-- ---- Hexadecimal digits.

-- The last k digits behind those that made n.
hex_from : (k n w : ℕ) → read_from 16 n (hex_by k w) ≡ n * 16 ^ k + w % 16 ^ k
unfolding read_from hex_by
hex_from zero n w = omega arith
hex_from (suc k) n w =
    let c : ℕ = 16 ^ k in
    let d : ℕ = w / c % 16 in
    let power : 16 ^ suc k ≡ 16 * c = pow-succ' 16 k in
    ap (λ (m : ℕ). read_from 16 (n * 16 + m) (hex_by k w)) (glyph_back d) ∙
    hex_from k (n * 16 + d) w ∙
    ap (λ (m : ℕ). m + w % c) (add-mul (n * 16) d c) ∙
    add_assoc (n * 16 * c) (d * c) (w % c) ∙
    ap (λ (m : ℕ). m + (d * c + w % c)) (mul_assoc n 16 c) ∙
    ap (λ (m : ℕ). n * (16 * c) + m) (sym (mod-mul w {m = 16} {c = c} (omega arith) (one-le-pow k 16 (omega arith)))) ∙
    sym (ap (λ (m : ℕ). n * m + w % m) power)

pub hex_reads : (w : ℕ) → w < 2 ^ 64 → numeral_read 16 (hex_of w) ≡ w
unfolding numeral_read hex_of
hex_reads w h = hex_from 16 0 w ∙ omega arith

pub hex_same : (w v : ℕ) → w < 2 ^ 64 → v < 2 ^ 64 → hex_of w ≡ hex_of v → w ≡ v
hex_same w v h k e = sym (hex_reads w h) ∙ ap (numeral_read 16) e ∙ hex_reads v k
