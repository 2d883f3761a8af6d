-- Hints as words: their count, then six words each (RULES 11.8).
-- Assumes nothing.
use Rattle.std.specs.Prelude.{ℕ, suc, ◌+◌, ◌*◌, min, cond, List, [], ◌∷◌, ◌++◌, ltb, pos, get_or, set}
use Rattle.std.specs.Float.Ieee
use Rattle.std.specs.Float.{binary64}
use Rattle.std.specs.Float.Ieee.{to_bits}
use Rattle.lent.specs.Listed.{listed}
use Rattle.floats.specs.Constants.{nought}
use Rattle.number_words.specs.Word.{word_of, signed_of}
use Rattle.hint_list.specs.declared.hint.WaitHint.{WaitHint}
use Rattle.hint_list.specs.declared.hint.RankedHint.{RankedHint}

-- What stands where there is no hint.
abbrev pub blank_hint : WaitHint
blank_hint = record { place = record { x = nought; y = nought }; until = record { 0 = pos 0 }; obstacle = 0 }

-- A hint before it is ranked.
abbrev pub unranked : WaitHint → RankedHint
unranked h = record { contour = record { 0 = pos 0 }; reach = nought; hint = h }

abbrev pub blank_ranked : RankedHint
blank_ranked = unranked blank_hint

-- ---- Reading.

-- How many hints there are; 64 is the most that a list has room for (RULES 10.43).
unfoldable pub count_in : List ℕ → ℕ
count_in words = min 64 (get_or words 0 0)

-- The hint in the six words of place i: contour, reach, x, y, until, obstacle.
unfoldable pub hint_in : List ℕ → ℕ → RankedHint
hint_in words i =
    record {
      contour = record { 0 = signed_of (get_or words (6 * i + 1) 0) };
      reach = Ieee.of_bits binary64 (get_or words (6 * i + 2) 0);
      hint = record {
        place = record { x = Ieee.of_bits binary64 (get_or words (6 * i + 3) 0); y = Ieee.of_bits binary64 (get_or words (6 * i + 4) 0) };
        until = record { 0 = signed_of (get_or words (6 * i + 5) 0) };
        obstacle = get_or words (6 * i + 6) 0;
      };
    }

-- The hints of a list, in order.
unfoldable pub hints_in : List ℕ → List RankedHint
hints_in words = listed (hint_in words) (count_in words) 0

-- ---- Writing.

-- The six words of a hint.
unfoldable pub hint_words : RankedHint → List ℕ
hint_words h =
    word_of h.contour.0 ∷ (to_bits binary64 h.reach ∷
    (to_bits binary64 h.hint.place.x ∷ (to_bits binary64 h.hint.place.y ∷
    (word_of h.hint.until.0 ∷ (h.hint.obstacle ∷ [])))))

unfoldable pub all_words : List RankedHint → List ℕ
all_words [] = []
all_words (h ∷ l) = hint_words h ++ all_words l

-- The list with a hint in the six words of place i.
unfoldable pub set_in : List ℕ → ℕ → RankedHint → List ℕ
set_in words i h =
    set
    (set
    (set
    (set
    (set (set words (6 * i + 1) (word_of h.contour.0)) (6 * i + 2) (to_bits binary64 h.reach))
    (6 * i + 3)
    (to_bits binary64 h.hint.place.x))
    (6 * i + 4)
    (to_bits binary64 h.hint.place.y))
    (6 * i + 5)
    (word_of h.hint.until.0))
    (6 * i + 6)
    h.hint.obstacle

-- The same where it has such a place, and as it was where it has none.
unfoldable pub put_in : List ℕ → ℕ → RankedHint → List ℕ
put_in words i h = cond (ltb i 64) (set_in words i h) words

-- The list with hints from place i on.
unfoldable pub laid : List ℕ → ℕ → List RankedHint → List ℕ
laid words i [] = words
laid words i (h ∷ hs) = laid (put_in words i h) (suc i) hs
