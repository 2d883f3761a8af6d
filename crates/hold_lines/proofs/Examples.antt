-- Lines as they are read: one with the largest hold, and one with a zero below zero.
-- Assumes nothing.
use Prim.Native.Nat.{ℕ}
use mathlib.Core.Path.{◌≡◌, refl}
use mathlib.Core.List.{List}
use Rattle.std.proofs.Common.{None, Some}
use lib.IntN.{pos}
use Rattle.lent.specs.Listed.{every}
use Rattle.texts.specs.Letters.{bytes_of}
use Rattle.texts.specs.Reading.{is_digit, count_of, read_from, numeral_read}
use Rattle.hold_lines.specs.Text.{pieces_at, is_decimal, number_up_to, hold_in, line_in}
use Rattle.hold_lines.specs.Place.{first_digit, next_digit, stepped, stepped_by, closed}
use Rattle.hold_lines.specs.declared.place.Place.TheVariants as P

-- The last crew, the last round, and the largest hold.
abbrev pub largest : List ℕ
largest = bytes_of "63 4294967295 9223372036854775807"

-- (RULES 21.3)
pub largest_said : line_in largest ≡ Some (record { crew = 63; hold = pos 9223372036854775807 })
unfolding line_in pieces_at number_up_to is_decimal hold_in every is_digit numeral_read read_from count_of bytes_of
largest_said = refl

pub largest_read : closed (stepped_by P.Start largest) ≡ Some (record { crew = 63; raised = 18446744073709551615 })
unfolding stepped_by stepped closed first_digit next_digit is_digit bytes_of
largest_read = refl

-- (RULES 21.3, 21.4)
pub minus_zero_said : line_in (bytes_of "0 0 -0") ≡ None
unfolding line_in pieces_at number_up_to is_decimal hold_in every is_digit numeral_read read_from count_of bytes_of
minus_zero_said = refl

pub minus_zero_read : stepped_by P.Start (bytes_of "0 0 -0") ≡ P.Broken
unfolding stepped_by stepped first_digit next_digit is_digit bytes_of
minus_zero_read = refl
