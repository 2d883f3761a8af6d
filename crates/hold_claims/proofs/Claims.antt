-- All that is claimed of a year's report, for every text.
-- Assumes nothing.
use Prim.Native.Nat.{ℕ, ◌<◌}
use mathlib.Core.Path.{◌≡◌, refl, sym, ap, ◌∙◌}
use mathlib.Core.List.{List, ◌∷◌}
use native.Mathlib.Omega.{arith}
use lib.IntN.{ℤ}
use lib.ListN.{length}
use Rattle.times.proofs.Integers.{at-most→not-below}
use Rattle.lent.specs.Listed.{every}
use Rattle.texts.specs.Letters.{bytes_of}
use Rattle.texts.specs.Reading.{is_digit, numeral_read, read_from, count_of}
use Rattle.hold_lines.specs.Text.{Held, lines_in, without_empty_end, pieces_at, line_in, number_up_to, is_decimal, hold_in}
use Rattle.hold_figures.specs.Crews.{holds_of, total_of, largest_of, mean_of, remainder_of, is_signed64}
use Rattle.hold_report.specs.Report.{crew_line}
use Rattle.hold_year.specs.Year.{Taken, year_from, year_in, year_answer, year_reply}
use Rattle.hold_claims.specs.Claims.{RowClaims, YearClaims, Examples, Claims}
use Rattle.hold_claims.proofs.Changed.{others_same}
use Rattle.hold_claims.proofs.Decided.{decided}
use Rattle.hold_claims.proofs.Exactly.{refused_14, told_14, refused_15, told_15}
use Rattle.hold_claims.proofs.Fits.{taken_fits, largest_fits}
use Rattle.hold_claims.proofs.Largest.{largest_among, all_under}
use Rattle.hold_claims.proofs.Means.{mean_times, remainder_below, mean_back, remainder_back}
use Rattle.hold_claims.proofs.Printed.{printed_whole}
use Rattle.hold_claims.proofs.Sums.{totals_together}

of_a_crew : (z : ℤ) (zs : List ℤ) → RowClaims z zs
of_a_crew z zs =
    record {
      largest_among = largest_among z zs;
      none_above = λ y among. at-most→not-below y (largest_of z zs) (all_under z zs y among);
      mean_times = mean_times total rounds some_rounds;
      remainder_below = remainder_below total rounds some_rounds;
      no_other = λ mean remainder together below. (
        sym (mean_back mean remainder rounds below) ∙ ap (λ t. mean_of t rounds) (sym together),
        sym (remainder_back mean remainder rounds below) ∙ ap (λ t. remainder_of t rounds) (sym together),
      );
    }
  where
    total : ℤ
    total = total_of (z ∷ zs)

    rounds : ℕ
    rounds = length (z ∷ zs)

    some_rounds : 0 < rounds
    some_rounds = omega arith

of_a_year : (text : List ℕ) (hs : List Held) → year_in text ≡ Taken hs → YearClaims hs
of_a_year text hs taken =
    let fits = taken_fits text hs taken in
    record {
      totals_together = totals_together 64 hs fits.crews;
      totals_fit = fits.sound.totals;
      own_crew_alone = λ crew changed others other same. ap (crew_line crew) (others_same crew changed other hs others same);
      printed_whole = λ crew z zs own.
          printed_whole crew z zs
          (ap (λ holds. is_signed64 (total_of holds)) (sym own) ∙ fits.sound.totals crew)
          (largest_fits crew hs z zs fits.sound own);
    }

examples : Examples
unfolding year_reply year_answer year_in year_from lines_in without_empty_end pieces_at bytes_of line_in number_up_to is_decimal hold_in
    is_digit numeral_read read_from count_of every holds_of total_of is_signed64
examples =
    record {
      a_year = refl;
      a_bad_line = refl;
      a_bad_line_number = refl;
      a_total_too_low = refl;
      a_total_too_low_number = refl;
    }

pub claims : Claims
claims =
    record {
      decided = decided;
      refused_14 = refused_14;
      told_14 = told_14;
      refused_15 = refused_15;
      told_15 = told_15;
      of_a_year = of_a_year;
      of_a_crew = of_a_crew;
      examples = examples;
    }
