-- What is printed of a year: in a room of 5,386 bytes an answer is told as its text or its line, and no report of a year is longer.
-- So what is printed behind parts that were fed is what is printed for the text that they make.
-- Assumes nothing.
use Prim.Native.Nat.{ℕ, ◌^◌, ◌≤◌, ◌<◌}
use mathlib.Core.Path.{◌≡◌, refl, sym, ap, ◌∙◌}
use mathlib.Core.Bool.{Bool, true, false, cond}
use mathlib.Core.List.{List}
use borrow.Author.Tests.{le-ltb, ltb-false}
use native.Mathlib.Omega.{arith}
use lib.Dec.{ltb}
use lib.ListN.{length, replicate}
use Rattle.refusals.specs.Names.{NO_ROOM, refusal_number}
use Rattle.refusals.specs.declared.Refusal.{Refusal}
use Rattle.lent.specs.Outcome.{Outcome, Gives, Refuses, room_of}
use Rattle.lent.specs.Rows.{words_in}
use Rattle.texts.specs.Room.{told_of, told_number}
use Rattle.texts.specs.declared.room.Told.TheVariants.{Refused}
use Rattle.reply_lines.specs.Lines.{refused_line, printed}
use Rattle.reply_lines.proofs.Sizes.{refused_short}
use Rattle.hold_year.specs.Year.{year_reply}
use Rattle.hold_year.specs.Parts.{On, Over, begun, fed_parts, answer_after, finished}
use Rattle.hold_year.specs.Printed.{fitted, finish_text, year_text}
use Rattle.hold_year.specs.declared.year.Reading.{Reading}
use Rattle.hold_year.proofs.Cut.{cut_anyhow}
use Rattle.hold_year.proofs.Short.{reply_short}

-- ---- A room.

-- An answer that does not fit is told as its refusal.
pub told_fitted : (answer : Outcome) (room : ℕ) → told_of answer room ≡ told_of (fitted room answer) room
unfolding told_of fitted
told_fitted (Gives text) room = by (ltb room (length text)) refl
  where
    by : (short : Bool) → ltb room (length text) ≡ short →
        told_of (Gives text) room ≡ told_of (cond short (Refuses NO_ROOM) (Gives text)) room
    by true e = rw e
    by false e = refl
told_fitted (Refuses n) room = refl

pub room_fitted : (answer : Outcome) (room : ℕ) → room_of answer room ≡ room_of (fitted room answer) room
unfolding room_of fitted
room_fitted (Gives text) room = by (ltb room (length text)) refl
  where
    by : (short : Bool) → ltb room (length text) ≡ short →
        room_of (Gives text) room ≡ room_of (cond short (Refuses NO_ROOM) (Gives text)) room
    by true e = rw e
    by false e = refl
room_fitted (Refuses n) room = refl

-- The line of a refusal always fits.
pub refused_fits : (answer : Outcome) (n : ℕ) → n < 2 ^ 64 → told_of answer 5386 ≡ Refused n →
    length (printed (fitted 5386 answer)) ≤ 5386
unfolding told_of told_number printed fitted
refused_fits (Gives text) n word e = by (ltb 5386 (length text)) refl
  where
    by : (short : Bool) → ltb 5386 (length text) ≡ short →
        length (printed (cond short (Refuses NO_ROOM) (Gives text))) ≤ 5386
    by true k = omega (arith, refused_short NO_ROOM (omega arith))
    by false k = ltb-false 5386 (length text) k
refused_fits (Refuses m) n word e =
    let same : m ≡ n = ap told_number e in omega (arith, refused_short m (rw same word))

-- ---- A year.

answer_fits : (answer : Outcome) → ((report : List ℕ) → answer ≡ Gives report → length report ≤ 5386) →
    fitted 5386 answer ≡ answer
unfolding fitted
answer_fits (Gives text) short = rw (le-ltb 5386 (length text) (short text refl))
answer_fits (Refuses n) short = refl

-- A reading that goes on behind all parts prints what the text does; a refusal on the way is the line that the text prints.
pub report_fits : (parts : List (List ℕ)) (s : Reading) (words : List ℕ) → fed_parts begun (replicate 192 0) parts ≡ On s words →
    finish_text s words ≡ year_text (words_in parts)
unfolding finish_text year_text
report_fits parts s words e =
    let answer : finished s words ≡ year_reply (words_in parts) = sym (ap answer_after e) ∙ cut_anyhow parts in
    rw answer (ap printed (answer_fits (year_reply (words_in parts)) (reply_short (words_in parts))))

pub refusal_printed : (parts : List (List ℕ)) (why : Refusal) → fed_parts begun (replicate 192 0) parts ≡ Over why →
    refused_line (refusal_number why) ≡ year_text (words_in parts)
unfolding year_text printed
refusal_printed parts why e = ap printed (sym (ap answer_after e) ∙ cut_anyhow parts)
