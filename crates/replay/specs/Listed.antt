-- What a listed answer has to be, and what is found of a list of them.
-- Assumes nothing.
use Rattle.std.specs.Prelude.{ℕ, zero, suc, ◌+◌, ◌*◌, ◌/◌, Bool, true, false, ◌&&◌, List, [], ◌∷◌, Option, Some, None, eqb, length, get_or, take, drop}
use Rattle.std.specs.Float.Ieee
use Rattle.std.specs.Float.{binary64}
use Rattle.lent.specs.Outcome.{Outcome, Gives, number_of, room_of}
use Rattle.number_words.specs.Word.{signed_of}
use Rattle.times.specs.Time.{span_between, instant_after, seconds_of, span_of_seconds, instant_of_seconds, span_outcome, instant_outcome}
use Rattle.replay.specs.Line.{line_of}
use Rattle.replay.specs.declared.calls.Verdict.{Verdict}
use Rattle.replay.specs.declared.calls.Verdict.TheVariants.{AsListed, Differs, Malformed}
use Rattle.replay.specs.declared.list.Answer.{Answer}
use Rattle.replay.specs.declared.list.Call.{Call}
use Rattle.replay.specs.declared.list.Call.TheVariants as C

-- What each call gives for its two words.
unfoldable pub outcome_of : Call → ℕ → ℕ → Outcome
outcome_of C.SpanBetween first second =
    span_outcome (span_between (record { 0 = signed_of first }) (record { 0 = signed_of second }))
outcome_of C.InstantAfter first second =
    instant_outcome (instant_after (record { 0 = signed_of first }) (record { 0 = signed_of second }))
outcome_of C.SecondsOfInstant first second = Gives (Ieee.to_bits binary64 (seconds_of (signed_of first)) ∷ [])
outcome_of C.SecondsOfSpan first second = Gives (Ieee.to_bits binary64 (seconds_of (signed_of first)) ∷ [])
outcome_of C.InstantOfSeconds first second = instant_outcome (instant_of_seconds (Ieee.of_bits binary64 first))
outcome_of C.SpanOfSeconds first second = span_outcome (span_of_seconds (Ieee.of_bits binary64 first))

-- A room of three words with one of them in front, and zeros.
abbrev pub holds_at : List ℕ → ℕ → Bool
holds_at room word = eqb (get_or room 0 0) word && (eqb (get_or room 1 0) 0 && eqb (get_or room 2 0) 0)

-- The number handed back and the room of three words are as listed.
unfoldable pub as_listed : Answer → Bool
as_listed a =
    eqb (number_of (outcome_of a.call a.first a.second) 3) a.number
    && holds_at (room_of (outcome_of a.call a.first a.second) 3) a.word

-- Go on after a line that is as listed, and end at any other with its number.
abbrev pub compared : Bool → (ℕ → Verdict) → ℕ → Verdict
compared true go line = go line
compared false go line = Differs line

abbrev pub judged_line : Option Answer → (ℕ → Verdict) → ℕ → Verdict
judged_line (Some a) go line = compared (as_listed a) go line
judged_line None go line = Malformed line

-- n more lines of 85 bytes, after `lines` that are as listed.
unfoldable pub verdict_from : List ℕ → ℕ → ℕ → Verdict
verdict_from s zero lines = AsListed lines
verdict_from s (suc n) lines = judged_line (line_of (take 85 (drop (lines * 85) s))) (verdict_from s n) (lines + 1)

-- How many lines there are; the last may be short.
abbrev pub line_count : List ℕ → ℕ
line_count s = (length s + 84) / 85

-- The first line, counted from 1, that is malformed or not as listed, else how many lines there are.
unfoldable pub verdict_of : List ℕ → Verdict
verdict_of s = verdict_from s (line_count s) 0
