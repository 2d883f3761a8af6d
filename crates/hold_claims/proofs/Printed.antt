-- What is printed of a crew are its numbers: none is cut to its last 64 bits.
-- Assumes nothing.
use Prim.Native.Nat.{ℕ, ◌/◌, ◌^◌}
use mathlib.Core.Path.{◌≡◌, ap}
use mathlib.Core.Bool.{true}
use mathlib.Core.List.{List, ◌∷◌, ◌++◌}
use native.Mathlib.Nat.{div-le_self}
use native.Mathlib.Omega.{arith}
use borrow.Author.Tests.{lt-ltb, ltb-true}
use lib.IntN.{ℤ, pos, negsuc}
use lib.ListN.{length}
use mir.Syntax.{w64}
use mir.Val.{SFits}
use Rattle.number_words.specs.Word.{word_of}
use Rattle.number_words.proofs.Words.{signed_back}
use Rattle.texts.specs.Numerals.{decimal_of, signed_text, count_field, time_field}
use Rattle.reply_lines.specs.Lines.{line}
use Rattle.hold_figures.specs.Crews.{total_of, largest_of, mean_of, remainder_of, is_signed64}
use Rattle.hold_report.specs.Report.{figures_line, crew_line}

signed_fits : (z : ℤ) → is_signed64 z ≡ true → SFits w64 z
unfolding is_signed64
signed_fits (pos n) h = record { sfits = ltb-true n (2 ^ 63) h }
signed_fits (negsuc n) h = record { sfits = ltb-true n (2 ^ 63) h }

-- A signed number of 64 bits is printed as it is.
whole_field : (z : ℤ) → is_signed64 z ≡ true → time_field (word_of z) ≡ 32 ∷ signed_text z
unfolding time_field
whole_field z h = ap (λ y. 32 ∷ signed_text y) (signed_back z (signed_fits z h))

-- A mean is no larger in size than its total.
mean_fits : (total : ℤ) (rounds : ℕ) → is_signed64 total ≡ true → is_signed64 (mean_of total rounds) ≡ true
unfolding is_signed64 mean_of
mean_fits (pos n) rounds h = lt-ltb (n / rounds) (2 ^ 63) (omega (arith, div-le_self n rounds, ltb-true n (2 ^ 63) h))
mean_fits (negsuc n) rounds h = lt-ltb (n / rounds) (2 ^ 63) (omega (arith, div-le_self n rounds, ltb-true n (2 ^ 63) h))

pub printed_whole : (crew : ℕ) (z : ℤ) (zs : List ℤ) →
    is_signed64 (total_of (z ∷ zs)) ≡ true → is_signed64 (largest_of z zs) ≡ true →
    let total = total_of (z ∷ zs) in
    let rounds = length (z ∷ zs) in
    crew_line crew (z ∷ zs) ≡
    line "crew"
    ((32 ∷ decimal_of crew) ++
    ((32 ∷ decimal_of rounds) ++
    ((32 ∷ signed_text total) ++
    ((32 ∷ signed_text (largest_of z zs)) ++
    ((32 ∷ signed_text (mean_of total rounds)) ++ (32 ∷ decimal_of (remainder_of total rounds)))))))
unfolding crew_line figures_line count_field
printed_whole crew z zs total-fits largest_fits =
    rw (
      whole_field (total_of (z ∷ zs)) total-fits,
      whole_field (largest_of z zs) largest_fits,
      whole_field (mean_of (total_of (z ∷ zs)) (length (z ∷ zs))) (mean_fits (total_of (z ∷ zs)) (length (z ∷ zs)) total-fits),
    )
