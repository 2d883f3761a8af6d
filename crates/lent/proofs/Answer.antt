-- What a call that lends words hands back and leaves: no second number and no second room meet its promise, and in the cases that callers meet, a room that is large enough and one that is not, these are they.
-- Assumes nothing.
use mathlib.Core.Path.{◌≡◌, sym, ◌∙◌}
use mathlib.Core.List.{List, ◌++◌}
use Prim.Native.Nat.{ℕ, ◌-◌, ◌<◌, ◌≤◌}
use borrow.Author.Tests.{lt-ltb, le-ltb}
use lib.ListN.{length, replicate}
use Rattle.lent.specs.Outcome.{Outcome, Gives, Handed, number_of, room_of}

-- The promise settles the number (RULES 18.2).
pub one_number : {answer : Outcome} {lent left left' : List ℕ} {r r' : ℕ} →
    Handed answer lent left r → Handed answer lent left' r' → r ≡ r'
one_number p q = p.number ∙ sym q.number

-- And the room that is left.
pub one_room : {answer : Outcome} {lent left left' : List ℕ} {r r' : ℕ} →
    Handed answer lent left r → Handed answer lent left' r' → left ≡ left'
one_room p q = p.room ∙ sym q.room

pub number_fits : (words : List ℕ) (room : ℕ) → length words ≤ room → number_of (Gives words) room ≡ 0
unfolding number_of
number_fits words room h = rw (le-ltb room (length words) h)

pub number_short : (words : List ℕ) (room : ℕ) → room < length words → number_of (Gives words) room ≡ 12
unfolding number_of
number_short words room h = rw (lt-ltb room (length words) h)

pub room_fits : (words : List ℕ) (room : ℕ) →
    length words ≤ room → room_of (Gives words) room ≡ words ++ replicate (room - length words) 0
unfolding room_of
room_fits words room h = rw (le-ltb room (length words) h)

pub room_short : (words : List ℕ) (room : ℕ) → room < length words → room_of (Gives words) room ≡ replicate room 0
unfolding room_of
room_short words room h = rw (lt-ltb room (length words) h)
