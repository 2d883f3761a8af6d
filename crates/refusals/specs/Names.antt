-- The numbers of refusals, by the names that the rules give them (RULES 4.1 to 4.12).
-- Assumes nothing.
use Rattle.std.specs.Prelude.{ℕ}
use Rattle.refusals.specs.declared.Refusal.{Refusal}
use Rattle.refusals.specs.declared.Refusal.TheVariants.{Number, Shape, Backward, NoLine, Creep, Apart, Strayed}
use Rattle.refusals.specs.declared.Refusal.TheVariants.{Stuck, Late, Full, Spent, NoRoom, Line, Overflow}

abbrev pub NUMBER : ℕ
NUMBER = 1

abbrev pub SHAPE : ℕ
SHAPE = 2

abbrev pub BACKWARD : ℕ
BACKWARD = 3

abbrev pub NO_LINE : ℕ
NO_LINE = 4

abbrev pub CREEP : ℕ
CREEP = 5

abbrev pub APART : ℕ
APART = 6

abbrev pub STRAYED : ℕ
STRAYED = 7

abbrev pub STUCK : ℕ
STUCK = 8

abbrev pub LATE : ℕ
LATE = 9

abbrev pub FULL : ℕ
FULL = 10

abbrev pub SPENT : ℕ
SPENT = 11

abbrev pub NO_ROOM : ℕ
NO_ROOM = 12

abbrev pub LINE : ℕ
LINE = 14

abbrev pub OVERFLOW : ℕ
OVERFLOW = 15

-- The number of each (RULES, section 4).
abbrev pub refusal_number : Refusal → ℕ
refusal_number Number = NUMBER
refusal_number Shape = SHAPE
refusal_number Backward = BACKWARD
refusal_number NoLine = NO_LINE
refusal_number Creep = CREEP
refusal_number Apart = APART
refusal_number Strayed = STRAYED
refusal_number Stuck = STUCK
refusal_number Late = LATE
refusal_number Full = FULL
refusal_number Spent = SPENT
refusal_number NoRoom = NO_ROOM
refusal_number Line = LINE
refusal_number Overflow = OVERFLOW
