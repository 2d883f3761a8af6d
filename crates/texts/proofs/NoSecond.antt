-- No second answer: what is told or reached and what is left in the room are settled by the answer or the text and the room that
-- was lent.
-- Assumes nothing.
use mathlib.Core.Path.{◌≡◌, sym, ◌∙◌}
use mathlib.Core.List.{List}
use Prim.Native.Nat.{ℕ}
use Rattle.lent.specs.Outcome.{Outcome}
use Rattle.texts.specs.Room.{PutText, Tells, SettledText}
use Rattle.texts.specs.declared.room.Told.{Told}

-- What is told (RULES 18.2).
pub one_told : {answer : Outcome} {lent left left' : List ℕ} {r r' : Told} →
    Tells answer lent left r → Tells answer lent left' r' → r ≡ r'
one_told p q = p.told ∙ sym q.told

-- And the room that is left.
pub one_left : {answer : Outcome} {lent left left' : List ℕ} {r r' : Told} →
    Tells answer lent left r → Tells answer lent left' r' → left ≡ left'
one_left p q = p.room ∙ sym q.room

-- The same of a piece: the place behind it, and the room.
pub one_put : {text lent left left' : List ℕ} {at r r' : ℕ} →
    PutText text lent at left r → PutText text lent at left' r' → (r ≡ r') × (left ≡ left')
one_put p q = (p.place ∙ sym q.place, p.room ∙ sym q.room)

-- And of handing over.
pub one_settled : {lent left left' : List ℕ} {end : ℕ} {r r' : Told} →
    SettledText end lent left r → SettledText end lent left' r' → (r ≡ r') × (left ≡ left')
one_settled p q = (p.told ∙ sym q.told, p.room ∙ sym q.room)
