-- What is told in a room that is long enough says what is printed: a text stands there already, and a refusal leaves zeros, into
-- which its line is put (RULES 15.5).
-- Assumes nothing.
use Prim.Native.Nat.{ℕ, ◌-◌, ◌≤◌}
use mathlib.Core.Path.{◌≡◌, refl, sym, ap, ◌∙◌}
use mathlib.Core.List.{List, ◌++◌}
use native.Mathlib.Omega.{arith}
use lib.ListN.{length, take, replicate, length-append}
use lib.Seq.{take-append_seam}
use Rattle.lent.specs.Outcome.{Outcome, Gives, Refuses, room_of}
use Rattle.lent.proofs.Answer.{room_fits}
use Rattle.lent.proofs.Fours.{either}
use Rattle.texts.specs.Letters.{bytes_of}
use Rattle.texts.specs.Numerals.{glyph, decimal_by, decimal_of, count_field}
use Rattle.texts.specs.Room.{PutText, told_of, told_number}
use Rattle.texts.specs.declared.room.Told.{Told}
use Rattle.texts.specs.declared.room.Told.TheVariants.{Text, Refused}
use Rattle.texts.proofs.Telling.{told_fits, told_short, put_in_zeros}
use Rattle.reply_lines.specs.Lines.{line, refused_line, printed}

-- (RULES 15.5)
pub a_refusal : printed (Refuses 12) ≡ bytes_of "refused 12\n"
unfolding printed refused_line line count_field decimal_of decimal_by glyph bytes_of
a_refusal = refl

-- A room with a text and zeros behind it.
abbrev pub filled_with : List ℕ → ℕ → List ℕ
filled_with text room = text ++ replicate (room - length text) 0

-- The front of such a room, as many bytes as the text has.
pub within : (text : List ℕ) (size n : ℕ) (room : List ℕ) → n ≡ length text → room ≡ filled_with text size → n ≤ length room
within text size n room e f = rw (e, f) (omega (arith, length-append text (replicate (size - length text) 0)))

pub counted : (text : List ℕ) (size n : ℕ) (room : List ℕ) → n ≡ length text → room ≡ filled_with text size → n ≡ length (take n room)
counted text size n room e f = rw (e, f) (ap length (sym (take-append_seam text (replicate (size - length text) 0))))

abbrev length_in : Told → ℕ
length_in (Text n) = n
length_in (Refused n) = 0

not_refused : (n m : ℕ) → Text n ≡ Refused m → ⊥
not_refused n m e = let one : ◌≡◌ {A = ℕ} 1 0 = ap is_text e in omega arith
  where
    is_text : Told → ℕ
    is_text (Text n) = 1
    is_text (Refused n) = 0

pub text_printed : (answer : Outcome) (room n : ℕ) → told_of answer room ≡ Text n →
    (n ≡ length (printed answer)) × (room_of answer room ≡ filled_with (printed answer) room)
unfolding printed told_of
text_printed (Refuses m) room n e = absurd (not_refused n m (sym e))
text_printed (Gives text) room n e =
    either (length text) room ((n ≡ length text) × (room_of (Gives text) room ≡ filled_with text room))
    (λ h. (sym (ap length_in (sym (told_fits text room h) ∙ e)), room_fits text room h))
    (λ h. absurd (not_refused n 12 (sym e ∙ told_short text room h)))

-- The room that a refusal leaves, with its line put into it.
pub line_printed : (answer : Outcome) (room n : ℕ) {left : List ℕ} {end : ℕ} → length (printed answer) ≤ room →
    told_of answer room ≡ Refused n → PutText (refused_line n) (room_of answer room) 0 left end →
    (end ≡ length (printed answer)) × (left ≡ filled_with (printed answer) room)
unfolding printed told_of told_number room_of
line_printed (Gives text) room n h e p = absurd (not_refused (length text) n (sym (told_fits text room h) ∙ e))
line_printed (Refuses m) room n h e p =
    let same : m ≡ n = ap told_number e in
    put_in_zeros h (rw (← same) at p)
