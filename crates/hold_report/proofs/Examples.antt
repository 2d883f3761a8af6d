-- Lines of a report as they are printed.
-- Assumes nothing.
use Rattle.std.proofs.Common.{◌≡◌, [], ◌∷◌, pos, negsuc, refl}
use Rattle.number_words.specs.Word.{signed_of}
use Rattle.texts.specs.Letters.{bytes_of}
use Rattle.texts.specs.Numerals.{glyph, decimal_by, decimal_of, signed_text, count_field, time_field}
use Rattle.reply_lines.specs.Lines.{line}
use Rattle.hold_figures.specs.Crews.{total_of, largest_of, mean_of, remainder_of}
use Rattle.hold_report.specs.Report.{idle_line, figures_line, crew_line}

-- Two rounds of -5 and 2 ns: the total is -3, and its mean is rounded down, to -2, with 1 left above it (RULES 21.8, 21.10).
pub below_zero_law : crew_line 5 (negsuc 4 ∷ (pos 2 ∷ [])) ≡ bytes_of "crew 5 2 -3 2 -2 1\n"
unfolding crew_line figures_line line count_field time_field signed_text signed_of decimal_of decimal_by glyph bytes_of
    total_of largest_of mean_of remainder_of
below_zero_law = refl

-- A crew without rounds has no largest and no mean (RULES 21.10).
pub idle : crew_line 63 [] ≡ bytes_of "crew 63 0 0\n"
unfolding crew_line idle_line line count_field decimal_of decimal_by glyph bytes_of
idle = refl
