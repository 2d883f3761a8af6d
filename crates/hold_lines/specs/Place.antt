-- How a line is read, one byte after another; `line_read` of proofs/Line says that this is what the line says.
-- Assumes nothing.
use Rattle.std.specs.Prelude.{ℕ, ◌+◌, ◌-◌, ◌*◌, ◌^◌, cond, not, ◌&&◌, List, [], ◌∷◌, Option, Some, None, eqb, leb}
use Rattle.texts.specs.Reading.{is_digit}
use Rattle.hold_lines.specs.Text.{Held, raised_of}
use Rattle.hold_lines.specs.declared.place.Place.{Place}
use Rattle.hold_lines.specs.declared.place.Place.TheVariants as P
use Rattle.hold_lines.specs.declared.place.Line.{Line}

-- The digits '0' to '9' are the bytes from 48 on.
unfoldable pub first_digit : ℕ → Option ℕ
first_digit b = cond (is_digit b) (Some (b - 48)) None

-- Behind a single zero stands no digit, and no number is above the most that is allowed (RULES 21.2, 21.3).
unfoldable pub next_digit : ℕ → ℕ → ℕ → Option ℕ
next_digit most n b =
    cond (not (eqb n 0) && (is_digit b && leb (n * 10 + (b - 48)) most)) (Some (n * 10 + (b - 48))) None

-- Goes on with what the digits make.
abbrev pub with_digits : Option ℕ → (ℕ → Place) → Place
with_digits (Some n) go = go n
with_digits None go = P.Broken

-- The size of a hold below zero begins with a digit above 0.
abbrev pub size_from : ℕ → ℕ → Place
size_from crew n = cond (eqb n 0) P.Broken (P.Below crew n)

-- One byte more (RULES 21.1 to 21.4).
unfoldable pub stepped : Place → ℕ → Place
stepped P.Start b = with_digits (first_digit b) P.Crew
stepped (P.Crew n) b = cond (eqb b 32) (P.BeforeRound n) (with_digits (next_digit 63 n b) P.Crew)
stepped (P.BeforeRound crew) b = with_digits (first_digit b) (P.Round crew)
stepped (P.Round crew n) b = cond (eqb b 32) (P.BeforeHold crew) (with_digits (next_digit (2 ^ 32 - 1) n b) (P.Round crew))
stepped (P.BeforeHold crew) b = cond (eqb b 45) (P.BeforeSize crew) (with_digits (first_digit b) (P.Hold crew))
stepped (P.BeforeSize crew) b = with_digits (first_digit b) (size_from crew)
stepped (P.Hold crew n) b = with_digits (next_digit (2 ^ 63 - 1) n b) (P.Hold crew)
stepped (P.Below crew n) b = with_digits (next_digit (2 ^ 63) n b) (P.Below crew)
stepped P.Broken b = P.Broken

-- Byte after byte.
unfoldable pub stepped_by : Place → List ℕ → Place
stepped_by place [] = place
stepped_by place (b ∷ bs) = stepped_by (stepped place b) bs

-- A line ends behind the digits of its hold.
unfoldable pub closed : Place → Option Line
closed P.Start = None
closed (P.Crew n) = None
closed (P.BeforeRound crew) = None
closed (P.Round crew n) = None
closed (P.BeforeHold crew) = None
closed (P.BeforeSize crew) = None
closed (P.Hold crew n) = cond (leb n (2 ^ 63 - 1)) (Some (record { crew = crew; raised = 2 ^ 63 + n })) None
closed (P.Below crew n) = cond (leb n (2 ^ 63)) (Some (record { crew = crew; raised = 2 ^ 63 - n })) None
closed P.Broken = None

-- What a line says, as the code has it.
abbrev pub line_held : Option Held → Option Line
line_held None = None
line_held (Some h) = Some (record { crew = h.crew; raised = raised_of h.hold })
