-- Numbers in digits (RULES 15.3, 15.7).
-- Assumes nothing.
use Rattle.std.specs.Prelude.{ℕ, zero, suc, ◌+◌, ◌/◌, ◌%◌, ◌^◌, Bool, true, false, cond, List, [], ◌∷◌, ◌++◌, ltb, ℤ, pos, negsuc}
use Rattle.number_words.specs.Word.{signed_of}

-- The byte of a digit below 16: '0' to '9' are the bytes from 48 on, 'a' to 'f' those from 97 on.
unfoldable pub glyph : ℕ → ℕ
glyph d = cond (ltb d 10) (48 + d) (87 + d)

-- A number below 10 is one digit; else the last one follows those of a tenth of it.
abbrev pub shortened : Bool → ℕ → (ℕ → List ℕ) → List ℕ
shortened true n go = glyph n ∷ []
shortened false n go = go (n / 10) ++ (glyph (n % 10) ∷ [])

-- The last k decimal digits of n, without zeros in front.
unfoldable pub decimal_by : ℕ → ℕ → List ℕ
decimal_by zero n = []
decimal_by (suc k) n = shortened (ltb n 10) n (decimal_by k)

-- All of them: a number has fewer digits than one more than itself.
unfoldable pub decimal_of : ℕ → List ℕ
decimal_of n = decimal_by (suc n) n

-- A number below zero has a minus sign in front, the byte 45.
unfoldable pub signed_text : ℤ → List ℕ
signed_text (pos n) = decimal_of n
signed_text (negsuc n) = 45 ∷ decimal_of (suc n)

-- The last k hexadecimal digits of w.
unfoldable pub hex_by : ℕ → ℕ → List ℕ
hex_by zero w = []
hex_by (suc k) w = glyph (w / 16 ^ k % 16) ∷ hex_by k w

-- The 16 of a word.
unfoldable pub hex_of : ℕ → List ℕ
hex_of w = hex_by 16 w

-- ---- Fields: one space stands in front of each.

-- A count.
unfoldable pub count_field : ℕ → List ℕ
count_field n = 32 ∷ decimal_of n

-- A time or a span, in nanoseconds, of the word that carries it.
unfoldable pub time_field : ℕ → List ℕ
time_field w = 32 ∷ signed_text (signed_of w)

-- The bits of a double.
unfoldable pub bits_field : ℕ → List ℕ
bits_field w = 32 ∷ hex_of w
