-- A text that was put from the room's front on and then settled is told: it stands in the room with zero behind it, or it had no
-- room and nothing stands there. In a room of zeros it need not be settled.
-- Assumes nothing.
use Prim.Native.Nat.{ℕ, zero, suc, ◌+◌, ◌-◌, ◌≤◌, ◌<◌}
use mathlib.Core.Path.{◌≡◌, refl, sym, ap, ◌∙◌}
use mathlib.Core.Bool.{Bool, true, false, cond}
use mathlib.Core.List.{List, [], ◌∷◌, ◌++◌}
use borrow.Author.Tests.{lt-ltb, le-ltb}
use native.Mathlib.Numerals.{add-one}
use native.Mathlib.Omega.{arith}
use lib.Dec.{ltb}
use lib.ListN.{length, set, drop, replicate, length-replicate}
use lib.Seq.{sets, sets-eq}
use Rattle.lent.specs.Outcome.{Outcome, Gives, Refuses, Handed, number_of, wiped}
use Rattle.lent.proofs.Answer.{room_fits, room_short}
use Rattle.lent.proofs.Filling.{wiped_after}
use Rattle.texts.specs.Room.{with_bytes, PutText, Tells, SettledText, told_of, told_number}
use Rattle.texts.specs.declared.room.Told.{Told}
use Rattle.texts.specs.declared.room.Told.TheVariants.{Text, Refused}
use Rattle.lent.proofs.Fours.{either}
use Rattle.texts.proofs.Putting.{reached_fits, reached_short, put_kept}

pub told_fits : (text : List ℕ) (room : ℕ) → length text ≤ room → told_of (Gives text) room ≡ Text (length text)
unfolding told_of
told_fits text room h = rw (le-ltb room (length text) h)

pub told_short : (text : List ℕ) (room : ℕ) → room < length text → told_of (Gives text) room ≡ Refused 12
unfolding told_of
told_short text room h = rw (lt-ltb room (length text) h)

bytes_sets : (room : List ℕ) (at : ℕ) (xs : List ℕ) → with_bytes room at xs ≡ sets room at xs
unfolding with_bytes
bytes_sets room at [] = refl
bytes_sets room at (x ∷ xs) = rw add-one (bytes_sets (set room at x) (suc at) xs)

-- A text that fits stands in front of what the room had behind it.
bytes_front : (room text : List ℕ) → length text ≤ length room → with_bytes room 0 text ≡ text ++ drop (0 + length text) room
bytes_front room text h = bytes_sets room 0 text ∙ sets-eq text room 0 (omega arith)

pub telling : {text lent put left : List ℕ} {end : ℕ} {r : Told} →
    PutText text lent 0 put end → SettledText end put left r → Tells (Gives text) lent left r
telling {text} {lent} {put} {left} {end} {r} p s = either (length text) (length lent) (Tells (Gives text) lent left r) fits short
  where
    fits : length text ≤ length lent → Tells (Gives text) lent left r
    fits h =
        let ends : end ≡ length text = p.place ∙ reached_fits (length lent) 0 (length text) (omega arith) ∙ omega arith in
        let within = le-ltb (length lent) (length text) h in
        let front : put ≡ text ++ drop (0 + length text) lent = p.room ∙ bytes_front lent text h in
        record {
          told = rw (put_kept p, ends, within) at s.told ∙ sym (told_fits text (length lent) h);
          room =
              rw (put_kept p, ends, within) at s.room
              ∙ ap (λ (l : List ℕ). wiped l (length text)) front
              ∙ wiped_after text (drop (0 + length text) lent) (length lent) (ap length (sym front) ∙ put_kept p)
              ∙ sym (room_fits text (length lent) h);
        }

    short : length lent < length text → Tells (Gives text) lent left r
    short h =
        let ends : end ≡ length lent + 1 = p.place ∙ reached_short (length lent) 0 (length text) (omega arith) in
        let beyond = lt-ltb (length lent) (length lent + 1) (omega arith) in
        record {
          told = rw (put_kept p, ends, beyond) at s.told ∙ sym (told_short text (length lent) h);
          room = rw (put_kept p, ends, beyond) at s.room ∙ sym (room_short text (length lent) h);
        }

-- ---- A room of zeros.

abbrev zeros : ℕ → List ℕ
zeros n = replicate n 0

drop_zeros : (n m : ℕ) → drop n (zeros m) ≡ zeros (m - n)
drop_zeros zero m = let all : m - 0 ≡ m = omega arith in rw all
drop_zeros (suc n) zero = let none : 0 - suc n ≡ 0 = omega arith in rw none
drop_zeros (suc n) (suc m) = let less : suc m - suc n ≡ m - n = omega arith in rw less (drop_zeros n m)

-- A text that fits, put into a room of zeros, has zeros behind it.
pub put_in_zeros : {text left : List ℕ} {room end : ℕ} → length text ≤ room → PutText text (zeros room) 0 left end →
    (end ≡ length text) × (left ≡ text ++ zeros (room - length text))
put_in_zeros {text} {left} {room} {end} h p =
    let long : length (zeros room) ≡ room = length-replicate room 0 in
    let front : 0 + length text ≡ length text = omega arith in (
      p.place ∙ rw long (reached_fits room 0 (length text) (omega arith) ∙ front),
      p.room ∙ bytes_front (zeros room) text (rw long h) ∙ rw (front, drop_zeros (length text) room),
    )

-- ---- The same by number.

told_number_law : (answer : Outcome) (room : ℕ) → told_number (told_of answer room) ≡ number_of answer room
unfolding told_number told_of number_of
told_number_law (Gives text) room = by (ltb room (length text))
  where
    by : (b : Bool) → told_number (cond b (Refused 12) (Text (length text))) ≡ cond b 12 0
    by true = refl
    by false = refl
told_number_law (Refuses n) room = refl

-- An answer that is told is handed over with its number.
pub tells_handed : {answer : Outcome} {lent left : List ℕ} {r : Told} → Tells answer lent left r → Handed answer lent left (told_number r)
tells_handed {answer} {lent} t =
    record { number = ap told_number t.told ∙ told_number_law answer (length lent); room = t.room }
