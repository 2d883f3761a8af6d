-- How long a report can be: ten bytes for the first line, and at most 84 for each of the 64 crews.
-- Assumes nothing.
use Rattle.std.proofs.Common.{◌≡◌, ℕ, zero, suc, ◌+◌, ◌*◌, ◌/◌, ◌^◌, ◌<◌, ◌≤◌, true, List, [], ◌∷◌, ◌++◌, length, ℤ, pos, negsuc, mod-lt, div-le_self, arith, length-append, ltb-true, lt-ltb}
use Rattle.lent.specs.Listed.{listed}
use Rattle.lent.specs.Rows.{words_in}
use Rattle.number_words.specs.Word.{word_of}
use Rattle.texts.specs.Letters.{bytes_of}
use Rattle.texts.specs.Numerals.{count_field, time_field}
use Rattle.texts.proofs.Sizes.{count_digits, time_short}
use Rattle.reply_lines.specs.Lines.{line}
use Rattle.reply_lines.proofs.Sizes.{length_line}
use Rattle.hold_lines.specs.Text.{Held}
use Rattle.hold_figures.specs.Crews.{holds_of, total_of, largest_of, mean_of, remainder_of, is_signed64}
use Rattle.hold_figures.proofs.Holds.{AllSigned, Sound, holds_few, largest_signed}
use Rattle.hold_report.specs.Report.{idle_line, figures_line, crew_line, report_of}

-- ---- Fields.

word_fits : (z : ℤ) → is_signed64 z ≡ true → word_of z < 2 ^ 64
unfolding is_signed64
word_fits (pos n) e = omega (arith, ltb-true n (2 ^ 63) e)
word_fits (negsuc n) e = omega arith

mean_signed : (z : ℤ) (rounds : ℕ) → is_signed64 z ≡ true → is_signed64 (mean_of z rounds) ≡ true
unfolding is_signed64 mean_of
mean_signed (pos n) rounds e = lt-ltb (n / rounds) (2 ^ 63) (omega (arith, div-le_self n rounds, ltb-true n (2 ^ 63) e))
mean_signed (negsuc n) rounds e = lt-ltb (n / rounds) (2 ^ 63) (omega (arith, div-le_self n rounds, ltb-true n (2 ^ 63) e))

-- The remainder is below the rounds (RULES 21.8).
pub remainder_below_rounds : (z : ℤ) (rounds : ℕ) → 0 < rounds → remainder_of z rounds < rounds
unfolding remainder_of
remainder_below_rounds (pos n) rounds h = mod-lt n h
remainder_below_rounds (negsuc n) rounds h = omega arith

-- ---- Lines.

figures_short : (crew rounds : ℕ) (total largest : ℤ) → crew < 100 → 0 < rounds → rounds ≤ 100_000 →
    is_signed64 total ≡ true → is_signed64 largest ≡ true → length (figures_line crew rounds total largest) ≤ 84
unfolding figures_line line bytes_of
figures_short crew rounds total largest low some few et el =
    let c : List ℕ = count_field crew in
    let r : List ℕ = count_field rounds in
    let t : List ℕ = time_field (word_of total) in
    let l : List ℕ = time_field (word_of largest) in
    let m : List ℕ = time_field (word_of (mean_of total rounds)) in
    let left : List ℕ = count_field (remainder_of total rounds) in
    omega (
      arith,
      length_line (99 ∷ (114 ∷ (101 ∷ (119 ∷ [])))) (c ++ (r ++ (t ++ (l ++ (m ++ left))))),
      length-append c (r ++ (t ++ (l ++ (m ++ left)))),
      length-append r (t ++ (l ++ (m ++ left))),
      length-append t (l ++ (m ++ left)),
      length-append l (m ++ left),
      length-append m left,
      count_digits 1 crew (omega arith),
      count_digits 5 rounds (omega arith),
      time_short (word_of total) (word_fits total et),
      time_short (word_of largest) (word_fits largest el),
      time_short (word_of (mean_of total rounds)) (word_fits (mean_of total rounds) (mean_signed total rounds et)),
      count_digits 4 (remainder_of total rounds) (omega (arith, remainder_below_rounds total rounds some)),
    )

crew_short : (crew : ℕ) (zs : List ℤ) → crew < 100 → length zs ≤ 100_000 → is_signed64 (total_of zs) ≡ true → AllSigned zs →
    length (crew_line crew zs) ≤ 84
unfolding crew_line idle_line line bytes_of
crew_short crew [] low few total all =
    let c : List ℕ = count_field crew in
    let zero : List ℕ = count_field 0 in
    omega (
      arith,
      length_line (99 ∷ (114 ∷ (101 ∷ (119 ∷ [])))) (c ++ (zero ++ zero)),
      length-append c (zero ++ zero),
      length-append zero zero,
      count_digits 1 crew (omega arith),
      count_digits 1 0 (omega arith),
    )
crew_short crew (z ∷ zs) low few total (first, all) =
    figures_short crew (length (z ∷ zs)) (total_of (z ∷ zs)) (largest_of z zs) low (omega arith) few total
    (largest_signed z zs first all)

-- ---- The whole report.

lines_short : (f : ℕ → List ℕ) (n i : ℕ) → ((j : ℕ) → j < i + n → length (f j) ≤ 84) → length (words_in (listed f n i)) ≤ 84 * n
unfolding words_in listed
lines_short f zero i each = omega arith
lines_short f (suc n) i each =
    omega (
      arith,
      length-append (f i) (words_in (listed f n (suc i))),
      each i (omega arith),
      lines_short f n (suc i) (λ j h. each j (omega arith)),
    )

-- A room of 5,386 bytes is enough for every year.
pub report_short : (hs : List Held) → Sound hs → length hs ≤ 100_000 → length (report_of hs) ≤ 5386
unfolding report_of line bytes_of
report_short hs sound few =
    let own : ℕ → List ℕ = λ crew. crew_line crew (holds_of crew hs) in
    omega (
      arith,
      length-append (line "ok" (count_field (length hs))) (words_in (listed own 64 0)),
      length_line (111 ∷ (107 ∷ [])) (count_field (length hs)),
      count_digits 5 (length hs) (omega arith),
      lines_short own 64 0
          (λ crew h. crew_short crew (holds_of crew hs) (omega arith) (omega (arith, holds_few crew hs)) (sound.totals crew)
          (sound.holds crew)),
    )
