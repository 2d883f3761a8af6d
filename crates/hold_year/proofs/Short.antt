-- A report of a year has at most 5,386 bytes (RULES 21.9).
-- Assumes nothing.
use Prim.Native.Nat.{ℕ, ◌≤◌}
use mathlib.Core.Path.{◌≡◌, refl, subst}
use mathlib.Core.Bool.{Bool, true, false, cond}
use mathlib.Core.List.{List, [], ◌∷◌, ◌++◌}
use Rattle.refusals.specs.declared.Refusal.TheVariants as Refusals
use Rattle.std.proofs.Common.{Option, None, Some}
use borrow.Author.Tests.{ltb-true}
use native.Mathlib.Omega.{arith}
use lib.Dec.{ltb}
use lib.ListN.{length, length-append}
use Rattle.lent.specs.Outcome.{Outcome, Gives, Refuses}
use Rattle.hold_lines.specs.Text.{Held, lines_in, line_in}
use Rattle.hold_figures.specs.Crews.{holds_of, total_of, is_signed64}
use Rattle.hold_figures.proofs.Holds.{Sound, sound_none, sound_more}
use Rattle.hold_figures.proofs.Limits.{line_limited}
use Rattle.hold_report.proofs.Sizes.{report_short}
use Rattle.hold_year.specs.Year.{Refused, from_line, with_total, year_from, year_in, year_answer, year_reply}

-- Nothing is claimed of a refusal.
abbrev Short : Outcome → Type 0
Short (Gives text) = length text ≤ 5386
Short (Refuses n) = Unit {0}

answer_short : (before : List Held) (lines : List (List ℕ)) → Sound before → length before ≤ 100_000 →
    Short (year_answer (year_from before lines))
unfolding year_from year_answer
answer_short before [] sound most = report_short before sound most
answer_short before (line ∷ lines) sound most =
    by (ltb (length before) 100_000) refl (line_in line) refl (λ now kept few. answer_short now lines kept few)
  where
    by : (few : Bool) → ltb (length before) 100_000 ≡ few → (read : Option Held) → line_in line ≡ read →
        ((now : List Held) → Sound now → length now ≤ 100_000 → Short (year_answer (year_from now lines))) →
        Short
        (year_answer
        (cond few (from_line read (λ h. with_total before h (λ now. year_from now lines))) (Refused Refusals.Line)))
    by false e read r rest = tt
    by true e None r rest = tt
    by true e (Some h) r rest = total (is_signed64 (total_of (holds_of h.crew (before ++ (h ∷ []))))) refl
      where
        total : (fits : Bool) → is_signed64 (total_of (holds_of h.crew (before ++ (h ∷ [])))) ≡ fits →
            Short (year_answer (cond fits (year_from (before ++ (h ∷ [])) lines) (Refused Refusals.Overflow)))
        total true k =
            rest (before ++ (h ∷ [])) (sound_more before h sound (line_limited line h r).hold k)
            (omega (arith, length-append before (h ∷ []), ltb-true (length before) 100_000 e))
        total false k = tt

pub reply_short : (text report : List ℕ) → year_reply text ≡ Gives report → length report ≤ 5386
unfolding year_reply year_in
reply_short text report e = subst Short e (answer_short [] (lines_in text) sound_none (omega arith))
