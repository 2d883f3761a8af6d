-- Parts that are fed in turn to a memory are answered as the text that they make: between two calls nothing is lost.
-- Assumes nothing.
use Prim.Native.Nat.{ℕ, ◌-◌, ◌≤◌}
use mathlib.Core.Path.{◌≡◌, refl, sym, ap, ◌∙◌}
use mathlib.Core.Bool.{false}
use mathlib.Core.List.{List, [], ◌∷◌, ◌++◌}
use borrow.Author.Tests.{le-leb}
use native.Mathlib.Omega.{arith}
use Rattle.std.proofs.Common.{Some}
use lib.ListN.{length, take, replicate, length-append, length-replicate}
use lib.Seq.{take-append_seam}
use Rattle.lent.specs.Outcome.{Gives, room_of}
use Rattle.lent.proofs.Answer.{room_fits}
use Rattle.hold_year.specs.Parts.{Going, On, Over, begun, is_broken, going_on, fed_by, fed_parts, answer_after}
use Rattle.hold_year.specs.declared.year.Reading.{Reading}
use Rattle.hold_year.proofs.Cut.{cut_anyhow}
use Rattle.hold_year.proofs.Steady.{Holds, fed_long, fed_whole}
use Rattle.hold_exports.specs.Memory.{
  memory_words,
  reading_in,
  figures_in,
  begun_memory,
  kept_going,
  fed_memory,
  finished_memory,
}
use Rattle.hold_exports.specs.Turns.{behind_call, answered_in_turn, YearInMemory}
use Rattle.hold_exports.proofs.Places.{place_kept}

-- ---- What is kept is found again.

memory_long : (s : Reading) (words : List ℕ) → length words ≡ 192 → length (memory_words s words) ≡ 197
unfolding memory_words
memory_long s words long = omega arith

pub memory_kept : (s : Reading) (words rest : List ℕ) → is_broken s.place ≡ false → length words ≡ 192 →
    reading_in (memory_words s words ++ rest) ≡ Some s
unfolding reading_in memory_words
memory_kept s words rest whole long =
    rw (
      le-leb 197 (length (memory_words s words ++ rest)) (omega (arith, length-append words rest)),
      place_kept s.place whole,
    )

pub figures_kept : (s : Reading) (words rest : List ℕ) → length words ≡ 192 → figures_in (memory_words s words ++ rest) ≡ words
unfolding figures_in memory_words
figures_kept s words rest long = ap (λ (n : ℕ). take n (words ++ rest)) (sym long) ∙ take-append_seam words rest

-- ---- Call behind call.

-- A memory of so many words with a reading in it.
abbrev rest : ℕ → List ℕ
rest room = replicate (room - 197) 0

abbrev kept : ℕ → Reading → List ℕ → List ℕ
kept room s words = memory_words s words ++ rest room

module _ (room : ℕ) (enough : 197 ≤ room) where
  left_kept : (s : Reading) (words : List ℕ) → length words ≡ 192 → room_of (Gives (memory_words s words)) room ≡ kept room s words
  left_kept s words long =
      let fits : length (memory_words s words) ≡ 197 = memory_long s words long in
      room_fits (memory_words s words) room (omega arith) ∙ ap (λ (n : ℕ). memory_words s words ++ replicate (room - n) 0) fits

  room_kept : (s : Reading) (words : List ℕ) → length words ≡ 192 → length (kept room s words) ≡ room
  room_kept s words long =
      length-append (memory_words s words) (rest room)
      ∙ rw (length-replicate, memory_long s words long) (omega arith)

  in_turn : (parts : List (List ℕ)) (s : Reading) (words : List ℕ) → is_broken s.place ≡ false → length words ≡ 192 →
      answered_in_turn (kept room s words) parts ≡ answer_after (fed_parts s words parts)
  unfolding answered_in_turn fed_parts finished_memory fed_memory
  in_turn [] s words whole long = rw (memory_kept s words (rest room) whole long, figures_kept s words (rest room) long)
  in_turn (part ∷ parts) s words whole long =
      rw (memory_kept s words (rest room) whole long, figures_kept s words (rest room) long, room_kept s words long)
      (by (fed_by s words part) (fed_whole s words part whole) (fed_long 192 s words part long) (λ t left. in_turn parts t left))
    where
      by : (g : Going) → Holds (λ t left. is_broken t.place ≡ false) g → Holds (λ t left. length left ≡ 192) g →
          ((t : Reading) (left : List ℕ) → is_broken t.place ≡ false → length left ≡ 192 →
          answered_in_turn (kept room t left) parts ≡ answer_after (fed_parts t left parts)) →
          behind_call (kept_going g) room (λ left. answered_in_turn left parts) ≡
          answer_after (going_on g (λ t left. fed_parts t left parts))
      by (On t left) w l rest = ap (λ memory. answered_in_turn memory parts) (left_kept t left l) ∙ rest t left w l
      by (Over why) w l rest = refl

pub year_in_memory : YearInMemory
unfolding begun_memory begun
year_in_memory =
    record {
      answered = λ room parts enough.
          ap (λ memory. answered_in_turn memory parts) (left_kept room enough begun (replicate 192 0) refl)
          ∙ in_turn room enough parts begun (replicate 192 0) refl refl
          ∙ cut_anyhow parts;
    }
