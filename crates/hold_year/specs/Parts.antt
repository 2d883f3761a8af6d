-- A year's text as it is fed, byte after byte; `cut_anyhow` of proofs/Cut says that the answer is the whole text's, however the
-- text is cut into parts.
-- Assumes nothing.
use Rattle.std.specs.Prelude.{ℕ, ◌+◌, ◌≡◌, Bool, true, false, cond, List, [], ◌∷◌, Option, Some, None, eqb, ltb, replicate}
use Rattle.refusals.specs.Names.{refusal_number}
use Rattle.lent.specs.Outcome.{Outcome, Gives, Refuses}
use Rattle.hold_lines.specs.Place.{stepped, closed}
use Rattle.hold_lines.specs.declared.place.Place.{Place}
use Rattle.hold_lines.specs.declared.place.Place.TheVariants as P
use Rattle.hold_lines.specs.declared.place.Line.{Line}
use Rattle.hold_figures.specs.Words.{Tally, Grown, Stopped, tallied}
use Rattle.hold_report.specs.Told.{words_report}
use Rattle.hold_year.specs.declared.year.Reading.{Reading}
use Rattle.std.specs.Prelude.{Result, Ok, Err}
use Rattle.refusals.specs.declared.Refusal.{Refusal}
use Rattle.refusals.specs.declared.Refusal.TheVariants as Refusals

-- The reading and the crews' words, or a refusal.
pub data Going : Type 0 where
  On : Reading → List ℕ → Going
  Over : Refusal → Going

-- No line yet, and no byte of the first.
unfoldable pub begun : Reading
begun = record { lines = 0; place = P.Start }

-- ---- The end of a line.

-- A line that was counted is one more.
abbrev pub counting : Tally → ℕ → Going
counting (Grown words) lines = On (record { lines = lines + 1; place = P.Start }) words
counting (Stopped why) lines = Over why

abbrev pub line_taken : Option Line → ℕ → List ℕ → Going
line_taken (Some line) lines words = counting (tallied words line.crew line.raised) lines
line_taken None lines words = Over Refusals.Line

-- The 100,001st is one too many (RULES 21.5).
unfoldable pub line_ended : Reading → List ℕ → Going
line_ended s words = cond (ltb s.lines 100_000) (line_taken (closed s.place) s.lines words) (Over Refusals.Line)

-- ---- A byte, and a part.

abbrev pub is_broken : Place → Bool
is_broken P.Start = false
is_broken (P.Crew n) = false
is_broken (P.BeforeRound crew) = false
is_broken (P.Round crew n) = false
is_broken (P.BeforeHold crew) = false
is_broken (P.BeforeSize crew) = false
is_broken (P.Hold crew n) = false
is_broken (P.Below crew n) = false
is_broken P.Broken = true

-- A newline, the byte 10, ends a line; at any other byte the line goes on, or is refused as soon as it can be none (RULES 21.5).
unfoldable pub byte_fed : Reading → List ℕ → ℕ → Going
byte_fed s words b =
    let next = stepped s.place b in
    cond (eqb b 10)
    (line_ended s words)
    (cond (is_broken next) (Over Refusals.Line) (On (record { lines = s.lines; place = next }) words))

abbrev pub going_on : Going → (Reading → List ℕ → Going) → Going
going_on (On s words) go = go s words
going_on (Over why) go = Over why

unfoldable pub fed_by : Reading → List ℕ → List ℕ → Going
fed_by s words [] = On s words
fed_by s words (b ∷ bs) = going_on (byte_fed s words b) (λ t left. fed_by t left bs)

-- One part after another.
unfoldable pub fed_parts : Reading → List ℕ → List (List ℕ) → Going
fed_parts s words [] = On s words
fed_parts s words (part ∷ parts) = going_on (fed_by s words part) (λ t left. fed_parts t left parts)

-- ---- The end of the text.

abbrev pub is_start : Place → Bool
is_start P.Start = true
is_start (P.Crew n) = false
is_start (P.BeforeRound crew) = false
is_start (P.Round crew n) = false
is_start (P.BeforeHold crew) = false
is_start (P.BeforeSize crew) = false
is_start (P.Hold crew n) = false
is_start (P.Below crew n) = false
is_start P.Broken = false

-- The last line may lack its newline (RULES 21.1).
unfoldable pub text_ended : Reading → List ℕ → Going
text_ended s words = cond (is_start s.place) (On s words) (line_ended s words)

abbrev pub reported : Going → Outcome
reported (On s words) = Gives (words_report s.lines words)
reported (Over why) = Refuses (refusal_number why)

-- What is answered where the text ends here.
unfoldable pub finished : Reading → List ℕ → Outcome
finished s words = reported (text_ended s words)

-- What is answered behind parts that were fed: a refusal on the way is the answer.
abbrev pub answer_after : Going → Outcome
answer_after (On s words) = finished s words
answer_after (Over why) = Refuses (refusal_number why)

-- ---- Promises.

abbrev pub fed_answer : Going → Result Reading Refusal
fed_answer (On s words) = Ok s
fed_answer (Over why) = Err why

-- The words that are left by what goes on; a refusal of a line leaves them as they were.
abbrev pub words_on : Going → List ℕ → List ℕ
words_on (On s words) lent = words
words_on (Over why) lent = lent

-- A refusal of a part leaves the words of all 64 crews zero (RULES 4.14).
abbrev pub words_or_zero : Going → List ℕ
words_or_zero (On s words) = words
words_or_zero (Over why) = replicate 192 0

-- The promise of a line's end and of the text's: `lent` are the words before it, `left` those behind it.
pub record Goes (g : Going) (lent left : List ℕ) (r : Result Reading Refusal) : Type 0 where
  pub answer : r ≡ fed_answer g
  pub words : left ≡ words_on g lent

-- The promise of a part.
pub record Feeds (s : Reading) (part lent left : List ℕ) (r : Result Reading Refusal) : Type 0 where
  pub answer : r ≡ fed_answer (fed_by s lent part)
  pub words : left ≡ words_or_zero (fed_by s lent part)
