-- What is printed of a year (RULES 15.5, 21.9).
-- Assumes nothing.
use Rattle.std.specs.Prelude.{ℕ, ◌-◌, cond, List, ◌++◌, ltb, length, replicate}
use Rattle.refusals.specs.Names.{NO_ROOM}
use Rattle.lent.specs.Outcome.{Outcome, Gives, Refuses}
use Rattle.reply_lines.specs.Lines.{printed}
use Rattle.hold_year.specs.declared.year.Reading.{Reading}
use Rattle.hold_year.specs.Parts.{finished}
use Rattle.hold_year.specs.Year.{year_reply}

-- An answer for a room of so many bytes: a text that is longer is refused 12 (RULES 4.12).
unfoldable pub fitted : ℕ → Outcome → Outcome
fitted room (Gives text) = cond (ltb room (length text)) (Refuses NO_ROOM) (Gives text)
fitted room (Refuses n) = Refuses n

-- What is printed where the text ends here, in a room of 5,386 bytes; `report_fits` of proofs/Printed says that no report of a
-- year is longer.
unfoldable pub finish_text : Reading → List ℕ → List ℕ
finish_text s words = printed (fitted 5386 (finished s words))

-- A room of 5,386 bytes with a text in it, and zero behind that.
abbrev pub room_with : List ℕ → List ℕ
room_with text = text ++ replicate (5386 - length text) 0

-- What `holds` prints for a text.
unfoldable pub year_text : List ℕ → List ℕ
year_text text = printed (year_reply text)
