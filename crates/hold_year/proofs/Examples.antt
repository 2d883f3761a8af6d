-- Texts that are refused: the first line that cannot be taken decides, whatever follows.
-- Assumes nothing.
use mathlib.Core.Path.{◌≡◌, refl}
use mathlib.Core.List.{[], ◌∷◌}
use lib.ListN.{replicate}
use Rattle.lent.specs.Listed.{every}
use Rattle.lent.specs.Outcome.{Refuses}
use Rattle.texts.specs.Letters.{bytes_of}
use Rattle.texts.specs.Reading.{is_digit, count_of, read_from, numeral_read}
use Rattle.hold_lines.specs.Text.{pieces_at, without_empty_end, lines_in, is_decimal, number_up_to, hold_in, line_in}
use Rattle.hold_lines.specs.Place.{first_digit, next_digit, stepped, closed}
use Rattle.hold_figures.specs.Crews.{holds_of, total_of, is_signed64}
use Rattle.hold_figures.specs.Words.{raised_sum, with_crew, tallied}
use Rattle.hold_year.specs.Year.{year_from, year_in, year_answer, year_reply}
use Rattle.hold_year.specs.Parts.{begun, line_ended, byte_fed, fed_by, fed_parts, answer_after}

-- A total that leaves 64 bits comes before a malformed line behind it (RULES 21.5, 21.6).
pub overflow_first : year_reply (bytes_of "7 0 9223372036854775807\n7 1 1\n\n") ≡ Refuses 15
unfolding year_reply year_in year_answer year_from lines_in without_empty_end pieces_at line_in number_up_to is_decimal hold_in numeral_read
    read_from is_digit count_of every holds_of total_of is_signed64 bytes_of
overflow_first = refl

-- And so when it is fed in two parts, cut within a number.
pub overflow_in_parts :
    answer_after
    (fed_parts begun (replicate 192 0) (bytes_of "7 0 92233720" ∷ (bytes_of "36854775807\n7 1 1\n\n" ∷ []))) ≡ Refuses 15
unfolding fed_parts fed_by byte_fed line_ended begun stepped closed first_digit next_digit is_digit tallied raised_sum with_crew bytes_of
overflow_in_parts = refl

-- An empty line is malformed (RULES 21.4).
pub empty_line : year_reply (bytes_of "7 0 1\n\n") ≡ Refuses 14
unfolding year_reply year_in year_answer year_from lines_in without_empty_end pieces_at line_in number_up_to is_decimal hold_in numeral_read
    read_from is_digit count_of every holds_of total_of is_signed64 bytes_of
empty_line = refl
