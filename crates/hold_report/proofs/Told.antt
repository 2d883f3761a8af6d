-- The report that is told from the crews' words is the report of the lines that made them.
-- Assumes nothing.
use Rattle.std.proofs.Common.{◌≡◌, ℕ, suc, ◌+◌, ◌-◌, ◌*◌, ◌^◌, ◌<◌, ◌≤◌, true, List, [], ◌∷◌, ◌++◌, length, get_or, ℤ, pos, negsuc, refl, ap, ◌∙◌, subst, arith, ltb-true, eq-eqb, ne_eqb}
use Rattle.lent.specs.Rows.{words_in}
use Rattle.lent.proofs.Listed.{listed_same}
use Rattle.texts.specs.Numerals.{count_field}
use Rattle.reply_lines.specs.Lines.{line}
use Rattle.hold_lines.specs.Text.{Held, raised_of}
use Rattle.hold_figures.specs.Crews.{holds_of, total_of, largest_of, is_signed64}
use Rattle.hold_figures.specs.Words.{crew_words, figures_of}
use Rattle.hold_figures.proofs.Holds.{AllSigned, Sound, largest_signed}
use Rattle.hold_figures.proofs.Counting.{figures_read, figures_rounds}
use Rattle.hold_report.specs.Report.{figures_line, crew_line, report_of}
use Rattle.hold_report.specs.Told.{lowered_of, crew_told, crews_told, words_report}
use Rattle.hold_report.proofs.Lowered.{lowered_below, lowered_above}

-- A number of 64 bits comes back from the raised one.
pub lowered_raised : (z : ℤ) → is_signed64 z ≡ true → lowered_of (raised_of z) ≡ z
unfolding is_signed64 raised_of
lowered_raised (pos n) e =
    let back : 2 ^ 63 + n - 2 ^ 63 ≡ n = omega arith in
    lowered_above (2 ^ 63 + n) (omega arith) ∙ ap pos back
lowered_raised (negsuc n) e =
    let less : n < 2 ^ 63 = ltb-true n (2 ^ 63) e in
    let back : 2 ^ 63 - 1 - (2 ^ 63 - suc n) ≡ n = omega arith in
    lowered_below (2 ^ 63 - suc n) (omega arith) ∙ ap negsuc back

-- The line of a crew.
crew_told_law : (hs : List Held) (crew : ℕ) → Sound hs → crew ≤ 63 → crew_told (figures_of hs) crew ≡ crew_line crew (holds_of crew hs)
unfolding crew_told crew_line crew_words
crew_told_law hs crew sound low = by (holds_of crew hs) refl (sound.totals crew) (sound.holds crew)
  where
    words : List ℕ
    words = figures_of hs

    by : (zs : List ℤ) → holds_of crew hs ≡ zs → is_signed64 (total_of (holds_of crew hs)) ≡ true → AllSigned (holds_of crew hs) →
        crew_told words crew ≡ crew_line crew zs
    by [] e total all = rw (eq-eqb (get_or words (3 * crew) 0) 0 (figures_rounds hs crew [] e low))
    by (y ∷ ys) e total all =
        let count : get_or words (3 * crew) 0 ≡ length (y ∷ ys) = figures_rounds hs crew (y ∷ ys) e low in
        let signed : AllSigned (y ∷ ys) = subst AllSigned e all in
        let known : is_signed64 (total_of (y ∷ ys)) ≡ true = subst (λ (zs : List ℤ). is_signed64 (total_of zs) ≡ true) e total in
        let sum : lowered_of (get_or words (3 * crew + 1) 0) ≡ total_of (y ∷ ys) =
        ap lowered_of (figures_read hs crew 1 (y ∷ ys) e low (omega arith)) ∙ lowered_raised (total_of (y ∷ ys)) known
        in
        let largest : lowered_of (get_or words (3 * crew + 2) 0) ≡ largest_of y ys =
        ap lowered_of (figures_read hs crew 2 (y ∷ ys) e low (omega arith)) ∙
        lowered_raised (largest_of y ys) (largest_signed y ys signed.0 signed.1)
        in
        rw (ne_eqb (get_or words (3 * crew) 0) 0 (λ none. omega arith))
        (λ i. figures_line crew (count i) (sum i) (largest i))

-- The whole report (RULES 21.9).
pub told_report : (hs : List Held) → Sound hs → words_report (length hs) (figures_of hs) ≡ report_of hs
unfolding words_report crews_told report_of
told_report hs sound =
    let told : ℕ → List ℕ = crew_told (figures_of hs) in
    let own : ℕ → List ℕ = λ crew. crew_line crew (holds_of crew hs) in
    ap (λ (rows : List (List ℕ)). line "ok" (count_field (length hs)) ++ words_in rows)
    (listed_same told own 64 0 (λ crew low high. crew_told_law hs crew sound (omega arith)))
