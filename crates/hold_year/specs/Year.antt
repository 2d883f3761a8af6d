-- A year's text as a whole: its lines are taken one after another, and the first that cannot be decides (RULES 21.5, 21.6).
-- Assumes nothing.
use Rattle.std.specs.Prelude.{ℕ, cond, List, [], ◌∷◌, ◌++◌, ltb, length}
use Rattle.std.specs.Prelude.{Option, None, Some}
use Rattle.refusals.specs.Names.{refusal_number}
use Rattle.refusals.specs.declared.Refusal.{Refusal}
use Rattle.refusals.specs.declared.Refusal.TheVariants as Refusals
use Rattle.lent.specs.Outcome.{Outcome, Gives, Refuses}
use Rattle.hold_lines.specs.Text.{Held, lines_in, line_in}
use Rattle.hold_figures.specs.Crews.{holds_of, total_of, is_signed64}
use Rattle.hold_report.specs.Report.{report_of}

-- The lines that were taken, or a refusal.
pub data Year : Type 0 where
  Taken : List Held → Year
  Refused : Refusal → Year

-- Goes on with what a line says; one that says nothing is malformed.
abbrev pub from_line : Option Held → (Held → Year) → Year
from_line None go = Refused Refusals.Line
from_line (Some h) go = go h

-- Goes on where the crew's total with this line is a signed number of 64 bits.
abbrev pub with_total : List Held → Held → (List Held → Year) → Year
with_total before h go =
    let now = before ++ (h ∷ []) in
    cond (is_signed64 (total_of (holds_of h.crew now))) (go now) (Refused Refusals.Overflow)

-- The lines behind those that were taken before: the 100,001st is one too many, before it is looked at (RULES 21.5).
unfoldable pub year_from : List Held → List (List ℕ) → Year
year_from before [] = Taken before
year_from before (line ∷ lines) =
    cond (ltb (length before) 100_000)
    (from_line (line_in line) (λ h. with_total before h (λ now. year_from now lines)))
    (Refused Refusals.Line)

unfoldable pub year_in : List ℕ → Year
year_in text = year_from [] (lines_in text)

-- The report of a year, or of a refusal its number alone (RULES 4.14, 21.9).
unfoldable pub year_answer : Year → Outcome
year_answer (Taken hs) = Gives (report_of hs)
year_answer (Refused why) = Refuses (refusal_number why)

-- What is answered for a text.
unfoldable pub year_reply : List ℕ → Outcome
year_reply text = year_answer (year_in text)
