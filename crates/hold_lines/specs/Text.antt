-- The text of a year's holds: its lines, and what each of them says (RULES 21.1 to 21.4).
-- Assumes nothing.
use Rattle.std.specs.Prelude.{ℕ, zero, suc, ◌+◌, ◌-◌, ◌^◌, Bool, false, cond, not, ◌&&◌, List, [], ◌∷◌, eqb, leb, ℤ, pos, negsuc}
use Rattle.std.specs.Prelude.{Option, None, Some}
use Rattle.lent.specs.Listed.{every}
use Rattle.texts.specs.Reading.{is_digit, numeral_read}

-- ---- A text in pieces.

-- A byte more in front of the first piece.
abbrev pub longer_first : ℕ → List (List ℕ) → List (List ℕ)
longer_first b [] = (b ∷ []) ∷ []
longer_first b (piece ∷ pieces) = (b ∷ piece) ∷ pieces

-- The pieces of a text between the bytes s: one more than there are such bytes.
unfoldable pub pieces_at : ℕ → List ℕ → List (List ℕ)
pieces_at s [] = [] ∷ []
pieces_at s (b ∷ bs) = cond (eqb b s) ([] ∷ pieces_at s bs) (longer_first b (pieces_at s bs))

-- Pieces without the last, where that is empty.
unfoldable pub without_empty_end : List (List ℕ) → List (List ℕ)
without_empty_end [] = []
without_empty_end ([] ∷ []) = []
without_empty_end ((b ∷ bs) ∷ []) = (b ∷ bs) ∷ []
without_empty_end (piece ∷ next ∷ pieces) = piece ∷ without_empty_end (next ∷ pieces)

-- Each line ends in a newline, the byte 10, which the last may lack; an empty text has no line (RULES 21.1).
unfoldable pub lines_in : List ℕ → List (List ℕ)
lines_in text = without_empty_end (pieces_at 10 text)

-- ---- A line.

-- A decimal is a digit, or several of which the first is not 0, the byte 48 (RULES 21.2).
unfoldable pub is_decimal : List ℕ → Bool
is_decimal [] = false
is_decimal (b ∷ []) = is_digit b
is_decimal (b ∷ c ∷ bs) = not (eqb b 48) && every is_digit (b ∷ c ∷ bs)

-- The number of a decimal that is at most so large.
unfoldable pub number_up_to : ℕ → List ℕ → Option ℕ
number_up_to most ds = cond (is_decimal ds && leb (numeral_read 10 ds) most) (Some (numeral_read 10 ds)) None

-- A size above zero, taken below zero.
abbrev pub below_zero : Option ℕ → Option ℤ
below_zero None = None
below_zero (Some zero) = None
below_zero (Some (suc n)) = Some (negsuc n)

abbrev pub from_zero : Option ℕ → Option ℤ
from_zero None = None
from_zero (Some n) = Some (pos n)

-- A hold is a decimal to 2^63 - 1, or a minus sign, the byte 45, and a decimal from 1 to 2^63 (RULES 21.3).
unfoldable pub hold_in : List ℕ → Option ℤ
hold_in [] = None
hold_in (b ∷ ds) = cond (eqb b 45) (below_zero (number_up_to (2 ^ 63) ds)) (from_zero (number_up_to (2 ^ 63 - 1) (b ∷ ds)))

-- What counts of a line: the round's number is read, and no report speaks of it.
pub record Held : Type 0 where
  pub crew : ℕ
  pub hold : ℤ

abbrev pub all_three : Option ℕ → Option ℕ → Option ℤ → Option Held
all_three (Some crew) (Some round) (Some hold) = Some (record { crew = crew; hold = hold })
all_three (Some crew) (Some round) None = None
all_three (Some crew) None hold = None
all_three None round hold = None

-- A crew's number to 63, a round's to 2^32 - 1, and a hold (RULES 21.3).
abbrev pub read_fields : List (List ℕ) → Option Held
read_fields [] = None
read_fields (crew ∷ []) = None
read_fields (crew ∷ round ∷ []) = None
read_fields (crew ∷ round ∷ hold ∷ []) = all_three (number_up_to 63 crew) (number_up_to (2 ^ 32 - 1) round) (hold_in hold)
read_fields (crew ∷ round ∷ hold ∷ next ∷ more) = None

-- A line is three decimals, one space, the byte 32, apart; any other is malformed (RULES 21.1, 21.4).
unfoldable pub line_in : List ℕ → Option Held
line_in line = read_fields (pieces_at 32 line)

-- ---- A hold as a number without a sign.

-- Raised by 2^63: the signed numbers of 64 bits become those without a sign, in the same order.
unfoldable pub raised_of : ℤ → ℕ
raised_of (pos n) = 2 ^ 63 + n
raised_of (negsuc n) = 2 ^ 63 - suc n
