-- The lines of `plan` are plain text, so no byte of them is zero (RULES 15.7, 15.8).
-- Assumes nothing.
use Prim.Native.Nat.{ℕ, zero, suc, ◌+◌, ◌/◌, ◌%◌, ◌^◌, ◌≤◌, ◌<◌}
use Prim.Native.String.{String}
use mathlib.Core.Path.{◌≡◌, refl}
use mathlib.Core.Bool.{Bool, true, false, ◌&&◌}
use mathlib.Core.List.{List, [], ◌∷◌, ◌++◌}
use borrow.Author.Tests.{le-leb, ltb-true, ltb-false}
use native.Mathlib.Omega.{arith}
use lib.Dec.{ltb}
use lib.IntN.{ℤ, pos, negsuc}
use Rattle.lent.specs.Listed.{every}
use Rattle.number_words.specs.Word.{signed_of}
use Rattle.texts.specs.Letters.{bytes_of}
use Rattle.texts.specs.Numerals.{glyph, decimal_of, signed_text, hex_by, hex_of, count_field, time_field, bits_field}
use Rattle.texts.proofs.Digits.{glyph_digit, glyph_letter, decimal_one, decimal_more}
use Rattle.texts.proofs.Reading.{by_tenths}
use Rattle.reply_lines.specs.Lines.{line, ok_line, path_line, move_line, wait_line, refused_line}
use Rattle.reply_lines.specs.Shown.{is_shown}

abbrev pub Shown : List ℕ → Type 0
Shown text = every is_shown text ≡ true

pub both : (xs ys : List ℕ) → Shown xs → Shown ys → Shown (xs ++ ys)
unfolding every
both [] ys p q = q
both (x ∷ xs) ys p q = by (is_shown x) (λ rest. both xs ys rest q) p
  where
    by : (t : Bool) → (Shown xs → Shown (xs ++ ys)) → t && every is_shown xs ≡ true → t && every is_shown (xs ++ ys) ≡ true
    by true more e = more e
    by false more e = e

behind : (x : ℕ) (xs : List ℕ) → is_shown x ≡ true → Shown xs → Shown (x ∷ xs)
unfolding every
behind x xs p q = rw p q

-- ---- Digits and signs.

in_range : (b : ℕ) → 32 ≤ b → b ≤ 126 → is_shown b ≡ true
unfolding is_shown
in_range b h k = rw (le-leb 32 b h, le-leb b 126 k)

glyph_shown : (d : ℕ) → d < 16 → is_shown (glyph d) ≡ true
glyph_shown d h = by (ltb d 10) refl
  where
    by : (t : Bool) → ltb d 10 ≡ t → is_shown (glyph d) ≡ true
    by true e = rw (glyph_digit d (ltb-true d 10 e)) (in_range (48 + d) (omega arith) (omega arith))
    by false e = rw (glyph_letter d (ltb-false d 10 e)) (in_range (87 + d) (omega arith) (omega arith))

one_shown : (d : ℕ) → d < 16 → Shown (glyph d ∷ [])
unfolding every
one_shown d h = behind (glyph d) [] (glyph_shown d h) refl

decimal_shown : (n : ℕ) → Shown (decimal_of n)
decimal_shown = by_tenths (λ n. Shown (decimal_of n)) one more
  where
    one : (n : ℕ) → n < 10 → Shown (decimal_of n)
    one n h = rw (decimal_one n h) (one_shown n (omega arith))

    more : (n : ℕ) → 10 ≤ n → Shown (decimal_of (n / 10)) → Shown (decimal_of n)
    more n h p = rw (decimal_more n h) (both (decimal_of (n / 10)) (glyph (n % 10) ∷ []) p (one_shown (n % 10) (omega arith)))

signed_shown : (z : ℤ) → Shown (signed_text z)
unfolding signed_text
signed_shown (pos n) = decimal_shown n
signed_shown (negsuc n) = behind 45 (decimal_of (suc n)) (in_range 45 (omega arith) (omega arith)) (decimal_shown (suc n))

hex_shown : (k w : ℕ) → Shown (hex_by k w)
unfolding hex_by every
hex_shown zero w = refl
hex_shown (suc k) w = behind (glyph (w / 16 ^ k % 16)) (hex_by k w) (glyph_shown (w / 16 ^ k % 16) (omega arith)) (hex_shown k w)

-- ---- Fields and lines.

space : (xs : List ℕ) → Shown xs → Shown (32 ∷ xs)
space xs p = behind 32 xs (in_range 32 (omega arith) (omega arith)) p

count_shown : (n : ℕ) → Shown (count_field n)
unfolding count_field
count_shown n = space (decimal_of n) (decimal_shown n)

time_shown : (w : ℕ) → Shown (time_field w)
unfolding time_field
time_shown w = space (signed_text (signed_of w)) (signed_shown (signed_of w))

bits_shown : (w : ℕ) → Shown (bits_field w)
unfolding bits_field hex_of
bits_shown w = space (hex_by 16 w) (hex_shown 16 w)

line_shown : (word : String) (fields : List ℕ) → Shown (bytes_of word) → Shown fields → Shown (line word fields)
unfolding line every is_shown
line_shown word fields p q = both (bytes_of word) (fields ++ (10 ∷ [])) p (both fields (10 ∷ []) q refl)

pub ok_shown : (hints times sweeps paths : ℕ) → Shown (ok_line hints times sweeps paths)
unfolding ok_line bytes_of every is_shown
ok_shown hints times sweeps paths =
    line_shown "ok" _ refl
    (both (count_field hints) _ (count_shown hints)
    (both (count_field times) _ (count_shown times) (both (count_field sweeps) _ (count_shown sweeps) (count_shown paths))))

pub path_shown : (arrival pops hold : ℕ) → Shown (path_line arrival pops hold)
unfolding path_line bytes_of every is_shown
path_shown arrival pops hold =
    line_shown "path" _ refl
    (both (time_field arrival) _ (time_shown arrival) (both (count_field pops) _ (count_shown pops) (time_shown hold)))

pub move_shown : (time x y : ℕ) → Shown (move_line time x y)
unfolding move_line bytes_of every is_shown
move_shown time x y =
    line_shown "move" _ refl (both (time_field time) _ (time_shown time) (both (bits_field x) _ (bits_shown x) (bits_shown y)))

pub wait_shown : (obstacle end : ℕ) → Shown (wait_line obstacle end)
unfolding wait_line bytes_of every is_shown
wait_shown obstacle end = line_shown "wait" _ refl (both (count_field obstacle) _ (count_shown obstacle) (time_shown end))

pub refused_shown : (number : ℕ) → Shown (refused_line number)
unfolding refused_line bytes_of every is_shown
refused_shown number = line_shown "refused" _ refl (count_shown number)
