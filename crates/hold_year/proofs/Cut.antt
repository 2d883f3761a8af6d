-- A year's text is answered as the whole that it is, however it is cut into parts (RULES 21.11).
-- Assumes nothing.
use Prim.Native.Nat.{ℕ, ◌+◌}
use mathlib.Core.Path.{◌≡◌, refl, sym, ap, ◌∙◌}
use mathlib.Core.Bool.{Bool, true, false, cond, true≢false}
use mathlib.Core.List.{List, [], ◌∷◌, ◌++◌, append-nil}
use Rattle.refusals.specs.Names.{LINE, refusal_number}
use Rattle.refusals.specs.declared.Refusal.{Refusal}
use Rattle.refusals.specs.declared.Refusal.TheVariants as Refusals
use Rattle.std.proofs.Common.{Option, None, Some}
use borrow.Author.Tests.{ltb-true}
use native.Mathlib.Omega.{arith}
use lib.Dec.{eqb, ltb}
use lib.ListN.{length, replicate, length-append}
use Rattle.lent.specs.Outcome.{Outcome, Gives, Refuses}
use Rattle.lent.specs.Rows.{words_in}
use Rattle.hold_lines.specs.Text.{Held, pieces_at, without_empty_end, lines_in, line_in}
use Rattle.hold_lines.specs.Place.{stepped, stepped_by, closed, line_held}
use Rattle.hold_lines.specs.declared.place.Place.TheVariants as P
use Rattle.hold_lines.proofs.Line.{line_read, broken_stays}
use Rattle.hold_figures.specs.Crews.{holds_of, total_of, is_signed64}
use Rattle.hold_figures.specs.Words.{Grown, Stopped, figures_of}
use Rattle.hold_figures.proofs.Holds.{Sound, sound_none, sound_more}
use Rattle.hold_figures.proofs.Counting.{figures_none, counted_round}
use Rattle.hold_figures.proofs.Limits.{Limited, line_limited}
use Rattle.hold_report.proofs.Told.{told_report}
use Rattle.hold_year.specs.Year as Y
use Rattle.hold_year.specs.Year.{from_line, with_total, year_from, year_in, year_answer, year_reply}
use Rattle.hold_year.specs.Parts.{
  Going,
  On,
  Over,
  begun,
  counting,
  line_taken,
  line_ended,
  is_broken,
  byte_fed,
  going_on,
  fed_by,
  fed_parts,
  text_ended,
  reported,
  finished,
  answer_after,
}
use Rattle.hold_year.specs.declared.year.Reading.{Reading}
use Rattle.hold_year.proofs.Pieces.{lines_behind, behind_nothing, behind_newline, behind_byte, behind_some}
use Rattle.hold_year.proofs.Places.{stepped_both, is_begun, is_broken_law}

-- ---- Parts.

-- A part behind another is as one part of both.
pub fed_both : (s : Reading) (words p q : List ℕ) →
    fed_by s words (p ++ q) ≡ going_on (fed_by s words p) (λ t left. fed_by t left q)
unfolding fed_by
fed_both s words [] q = refl
fed_both s words (b ∷ p) q = by (byte_fed s words b) (λ t left. fed_both t left p q)
  where
    by : (g : Going) →
        ((t : Reading) (left : List ℕ) → fed_by t left (p ++ q) ≡ going_on (fed_by t left p) (λ u rest. fed_by u rest q)) →
        going_on g (λ t left. fed_by t left (p ++ q)) ≡
        going_on (going_on g (λ t left. fed_by t left p)) (λ t left. fed_by t left q)
    by (On t left) both = both t left
    by (Over why) both = refl

-- Parts one behind another are as the text that they make.
pub fed_joined : (s : Reading) (words : List ℕ) (parts : List (List ℕ)) →
    fed_parts s words parts ≡ fed_by s words (words_in parts)
unfolding fed_parts words_in fed_by
fed_joined s words [] = refl
fed_joined s words (part ∷ parts) =
    by (fed_by s words part) (λ t left. fed_joined t left parts) ∙ sym (fed_both s words part (words_in parts))
  where
    by : (g : Going) → ((t : Reading) (left : List ℕ) → fed_parts t left parts ≡ fed_by t left (words_in parts)) →
        going_on g (λ t left. fed_parts t left parts) ≡ going_on g (λ t left. fed_by t left (words_in parts))
    by (On t left) same = same t left
    by (Over why) same = refl

-- ---- The whole text.

-- Behind these lines, with the bytes of the next so far.
abbrev pub read_to : List Held → List ℕ → Reading
read_to before begin = record { lines = length before; place = stepped_by P.Start begin }

-- Where a line ends, whatever is made of the reading then: it is refused as the line is, or goes on with one line more.
line_ended_law : (before : List Held) (line : List ℕ) (lines : List (List ℕ)) (made : Going → Outcome) → Sound before →
    ((why : Refusal) → made (Over why) ≡ Refuses (refusal_number why)) →
    ((now : List Held) → Sound now → made (On (read_to now []) (figures_of now)) ≡ year_answer (year_from now lines)) →
    made (line_ended (read_to before line) (figures_of before)) ≡ year_answer (year_from before (line ∷ lines))
unfolding line_ended year_from year_answer stepped_by
line_ended_law before line lines made sound stops goes =
    rw (line_read line) (by (ltb (length before) 100_000) refl (line_in line) refl)
  where
    now : Held → List Held
    now h = before ++ (h ∷ [])

    more : (h : Held) → length (now h) ≡ length before + 1
    more h = length-append before (h ∷ [])

    total : (h : Held) → Limited h → (fits : Bool) → is_signed64 (total_of (holds_of h.crew (now h))) ≡ fits →
        made (counting (cond fits (Grown (figures_of (now h))) (Stopped Refusals.Overflow)) (length before)) ≡
        year_answer (cond fits (year_from (now h) lines) (Y.Refused Refusals.Overflow))
    total h f true e = rw (sym (more h)) (goes (now h) (sound_more before h sound f.hold e))
    total h f false e = stops Refusals.Overflow

    by : (few : Bool) → ltb (length before) 100_000 ≡ few → (read : Option Held) → line_in line ≡ read →
        made (cond few (line_taken (line_held read) (length before) (figures_of before)) (Over Refusals.Line)) ≡
        year_answer (cond few (from_line read (λ h. with_total before h (λ now. year_from now lines))) (Y.Refused Refusals.Line))
    by false e read r = stops Refusals.Line
    by true e None r = stops Refusals.Line
    by true e (Some h) r =
        let f : Limited h = line_limited line h r in
        rw (counted_round before h sound (ltb-true _ _ e) f.crew f.hold)
        (total h f (is_signed64 (total_of (holds_of h.crew (now h)))) refl)

-- A line whose beginning is broken is malformed.
line_broken : (before : List Held) (begin text : List ℕ) → stepped_by P.Start begin ≡ P.Broken →
    Refuses LINE ≡ year_answer (year_from before (lines_behind begin text))
unfolding year_from year_answer stepped_by closed
line_broken before [] text broken = absurd (true≢false (sym (ap is_broken broken)))
line_broken before (b ∷ begin) text broken =
    behind_some b begin text (λ lines. Refuses LINE ≡ year_answer (year_from before lines))
    (λ more lines. by lines (ltb (length before) 100_000) (line_in ((b ∷ begin) ++ more)) (says more))
  where
    says : (more : List ℕ) → line_held (line_in ((b ∷ begin) ++ more)) ≡ None
    says more =
        sym (line_read ((b ∷ begin) ++ more)) ∙
        ap closed
        (stepped_both P.Start (b ∷ begin) more ∙ ap (λ place. stepped_by place more) broken ∙ broken_stays more)

    by : (lines : List (List ℕ)) (few : Bool) (read : Option Held) → line_held read ≡ None →
        Refuses LINE ≡
        year_answer (cond few (from_line read (λ h. with_total before h (λ now. year_from now lines))) (Y.Refused Refusals.Line))
    by lines true None e = refl
    by lines true (Some h) e = absurd (let z : ◌≡◌ {A = ℕ} 0 1 = cc in omega arith)
    by lines false read e = refl

-- A text behind these lines, and behind the bytes of the next so far.
fed_answer_law : (text begin : List ℕ) (before : List Held) → Sound before →
    answer_after (fed_by (read_to before begin) (figures_of before) text) ≡
    year_answer (year_from before (lines_behind begin text))
unfolding fed_by byte_fed finished text_ended stepped_by pieces_at without_empty_end year_from year_answer
fed_answer_law [] [] before sound = ap Gives (told_report before sound)
fed_answer_law [] (b ∷ begin) before sound =
    rw (is_begun b begin, append-nil begin)
    (line_ended_law before (b ∷ begin) [] reported sound (λ why. refl) (λ now kept. ap Gives (told_report now kept)))
fed_answer_law (b ∷ text) begin before sound =
    by (eqb b 10) refl (is_broken (stepped (stepped_by P.Start begin) b)) refl (λ next now kept. fed_answer_law text next now kept)
  where
    next : stepped (stepped_by P.Start begin) b ≡ stepped_by P.Start (begin ++ (b ∷ []))
    next = sym (stepped_both P.Start begin (b ∷ []))

    by : (newline : Bool) → eqb b 10 ≡ newline → (broken : Bool) → is_broken (stepped (stepped_by P.Start begin) b) ≡ broken →
        ((begin : List ℕ) (before : List Held) → Sound before →
        answer_after (fed_by (read_to before begin) (figures_of before) text) ≡
        year_answer (year_from before (lines_behind begin text))) →
        answer_after (fed_by (read_to before begin) (figures_of before) (b ∷ text)) ≡
        year_answer (year_from before (lines_behind begin (b ∷ text)))
    by true e broken k rest =
        rw (behind_newline begin b text e, e)
        (line_ended_law before begin (without_empty_end (pieces_at 10 text))
        (λ g. answer_after (going_on g (λ t left. fed_by t left text)))
        sound
        (λ why. refl)
        (λ now kept. rest [] now kept ∙ ap (λ lines. year_answer (year_from now lines)) (behind_nothing text)))
    by false e true k rest =
        rw (behind_byte begin b text e, e, k) (line_broken before (begin ++ (b ∷ [])) text (sym next ∙ is_broken_law _ k))
    by false e false k rest = rw (behind_byte begin b text e, e, k, next) (rest (begin ++ (b ∷ [])) before sound)

-- The answer does not depend on how the text is cut (RULES 21.11).
pub cut_anyhow : (parts : List (List ℕ)) → answer_after (fed_parts begun (replicate 192 0) parts) ≡ year_reply (words_in parts)
unfolding year_reply year_in lines_in begun stepped_by
cut_anyhow parts =
    ap answer_after (fed_joined begun (replicate 192 0) parts) ∙
    ap (λ words. answer_after (fed_by begun words (words_in parts))) (sym figures_none) ∙
    fed_answer_law (words_in parts) [] [] sound_none ∙
    ap (λ lines. year_answer (year_from [] lines)) (behind_nothing (words_in parts))
