-- The report as it is told from the crews' words; `told_report` of proofs/Told says that both are one.
-- Assumes nothing.
use Rattle.std.specs.Prelude.{ℕ, ◌+◌, ◌-◌, ◌*◌, ◌^◌, cond, List, ◌++◌, ℤ, pos, negsuc, ◌==◌, nat_lt, slice_index, slice_index_or}
use Rattle.lent.specs.Listed.{listed}
use Rattle.lent.specs.Rows.{words_in}
use Rattle.texts.specs.Numerals.{count_field}
use Rattle.reply_lines.specs.Lines.{line}
use Rattle.hold_report.specs.Report.{idle_line, figures_line}

-- The signed number that a raised one stands for.
unfoldable pub lowered_of : ℕ → ℤ
lowered_of w = cond (nat_lt w (2 ^ 63)) (negsuc (2 ^ 63 - 1 - w)) (pos (w - 2 ^ 63))

-- The line of a crew, by its three words.
unfoldable pub crew_told : List ℕ → ℕ → List ℕ
crew_told words crew =
    let rounds = slice_index_or words (3 * crew) 0 in
    cond (rounds == 0)
    (idle_line crew)
    (figures_line crew rounds (lowered_of (slice_index words (3 * crew + 1))) (lowered_of (slice_index words (3 * crew + 2))))

-- The lines of n crews from one on.
unfoldable pub crews_told : List ℕ → ℕ → ℕ → List ℕ
crews_told words n crew = words_in (listed (crew_told words) n crew)

unfoldable pub words_report : ℕ → List ℕ → List ℕ
words_report lines words = line "ok" (count_field lines) ++ crews_told words 64 0
