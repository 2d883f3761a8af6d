-- A text in a lent room: put piece by piece as far as the room reaches, then handed over.
-- Assumes nothing.
use Rattle.std.specs.Prelude.{ℕ, ◌+◌, ◌≡◌, cond, List, [], ◌∷◌, leb, ltb, length, set, replicate}
use Rattle.refusals.specs.Names.{NO_ROOM}
use Rattle.lent.specs.Outcome.{Outcome, Gives, Refuses, room_of, wiped}
use Rattle.texts.specs.declared.room.Told.{Told}
use Rattle.texts.specs.declared.room.Told.TheVariants.{Text, Refused}

-- The room with bytes from a place on, as far as it reaches: setting a byte past its end changes nothing.
unfoldable pub with_bytes : List ℕ → ℕ → List ℕ → List ℕ
with_bytes room at [] = room
with_bytes room at (b ∷ bs) = with_bytes (set room at b) (at + 1) bs

-- The place behind n bytes from `at` on; where the room ends before them, the one past its end.
unfoldable pub reached : ℕ → ℕ → ℕ → ℕ
reached room at n = cond (leb (at + n) room) (at + n) (room + 1)

-- The promise of a piece: it stands in the room as far as that reaches, and r is the place behind it.
pub record PutText (text lent : List ℕ) (at : ℕ) (left : List ℕ) (r : ℕ) : Type 0 where
  pub room : left ≡ with_bytes lent at text
  pub place : r ≡ reached (length lent) at (length text)

-- What is told of an answer: how long its text is, 12 where the room is too small for it, or the refusal's own number (RULES 4.12).
unfoldable pub told_of : Outcome → ℕ → Told
told_of (Gives text) room = cond (ltb room (length text)) (Refused NO_ROOM) (Text (length text))
told_of (Refuses n) room = Refused n

-- The number that is handed back for it: 0 for a text (RULES 4.12).
unfoldable pub told_number : Told → ℕ
told_number (Text n) = 0
told_number (Refused n) = n

-- The promise of a whole answer: `lent` is the room as it came, `left` as it is left. Behind a text the room is zero, and on a
-- refusal throughout (RULES 4.14, 4.15).
pub record Tells (answer : Outcome) (lent left : List ℕ) (r : Told) : Type 0 where
  pub told : r ≡ told_of answer (length lent)
  pub room : left ≡ room_of answer (length lent)

-- What handing over a text that was put, and ends before `end`, leaves.
pub record SettledText (end : ℕ) (lent left : List ℕ) (r : Told) : Type 0 where
  pub told : r ≡ cond (ltb (length lent) end) (Refused NO_ROOM) (Text end)
  pub room : left ≡ cond (ltb (length lent) end) (replicate (length lent) 0) (wiped lent end)
