-- An answer as it is printed: a plan of one path.
-- Assumes nothing.
use Prim.Native.Nat.{ℕ}
use mathlib.Core.Path.{◌≡◌, refl}
use mathlib.Core.List.{List, [], ◌∷◌}
use Rattle.lent.specs.Listed.{listed}
use Rattle.number_words.specs.Word.{signed_of}
use Rattle.texts.specs.Letters.{bytes_of}
use Rattle.texts.specs.Numerals.{glyph, decimal_by, decimal_of, signed_text, hex_by, hex_of, count_field, time_field, bits_field}
use Rattle.reply_lines.specs.Lines.{line, ok_line, path_line, move_line, wait_line}
use Rattle.reply_text.specs.Answer.{row_at, rows_of, action_line, action_lines, path_lines, plan_lines}

-- The row of counts, and that of the one path, which has two actions.
abbrev pub paths : List ℕ
paths = 2 ∷ (1 ∷ (0 ∷ (1 ∷ (17 ∷ (3 ∷ (0 ∷ (2 ∷ [])))))))

-- A wait that ends one nanosecond before zero, and a move.
abbrev pub actions : List ℕ
actions = 0 ∷ (4 ∷ (18446744073709551615 ∷ (0 ∷ (1 ∷ (17 ∷ (10 ∷ (4607182418800017408 ∷ [])))))))

-- (RULES 15.1 to 15.4)
pub a_plan : plan_lines paths actions ≡
    bytes_of "ok 2 1 0 1\npath 17 3 0\nwait 4 -1\nmove 17 000000000000000a 3ff0000000000000\n"
unfolding plan_lines path_lines action_lines action_line rows_of row_at listed ok_line path_line move_line wait_line line
    count_field time_field bits_field signed_text signed_of decimal_of decimal_by hex_of hex_by glyph bytes_of
a_plan = refl
