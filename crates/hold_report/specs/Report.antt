-- The report of a year: what is printed of the lines that were read (RULES 21.9, 21.10).
-- Assumes nothing.
use Rattle.std.specs.Prelude.{ℕ, List, [], ◌∷◌, ◌++◌, length, ℤ}
use Rattle.lent.specs.Listed.{listed}
use Rattle.lent.specs.Rows.{words_in}
use Rattle.number_words.specs.Word.{word_of}
use Rattle.texts.specs.Numerals.{count_field, time_field}
use Rattle.reply_lines.specs.Lines.{line}
use Rattle.hold_lines.specs.Text.{Held}
use Rattle.hold_figures.specs.Crews.{holds_of, total_of, largest_of, mean_of, remainder_of}

-- A crew without rounds has no largest and no mean.
unfoldable pub idle_line : ℕ → List ℕ
idle_line crew = line "crew" (count_field crew ++ (count_field 0 ++ count_field 0))

-- Crew, rounds, total, largest, mean and remainder.
unfoldable pub figures_line : ℕ → ℕ → ℤ → ℤ → List ℕ
figures_line crew rounds total largest =
    line "crew"
    (count_field crew ++
    (count_field rounds ++
    (time_field (word_of total) ++
    (time_field (word_of largest) ++
    (time_field (word_of (mean_of total rounds)) ++ count_field (remainder_of total rounds))))))

-- The line of a crew with these holds.
unfoldable pub crew_line : ℕ → List ℤ → List ℕ
crew_line crew [] = idle_line crew
crew_line crew (z ∷ zs) = figures_line crew (length (z ∷ zs)) (total_of (z ∷ zs)) (largest_of z zs)

-- How many lines there are, then the crews 0 to 63 (RULES 21.9).
unfoldable pub report_of : List Held → List ℕ
report_of hs = line "ok" (count_field (length hs)) ++ words_in (listed (λ crew. crew_line crew (holds_of crew hs)) 64 0)
