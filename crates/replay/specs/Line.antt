-- What a line of a list says.
-- Assumes nothing.
use Rattle.std.specs.Prelude.{ℕ, Bool, ◌&&◌, cond, List, Option, Some, None, option_and_then, eqb, length, get_or}
use Rattle.replay.specs.Hex.{word_at}
use Rattle.replay.specs.declared.list.Answer.{Answer}
use Rattle.replay.specs.declared.list.Call.{Call}
use Rattle.replay.specs.declared.list.Call.TheVariants as C

abbrev pub space_at : List ℕ → ℕ → Bool
space_at line at = eqb (get_or line at 0) 32

-- 85 bytes, with a space after each word but the last, and a newline after that.
unfoldable pub separated : List ℕ → Bool
separated line =
    eqb (length line) 85
    && (space_at line 16 && space_at line 33 && space_at line 50 && space_at line 67 && eqb (get_or line 84 0) 10)

-- The calls by their numbers in a list.
abbrev pub call_of : ℕ → Option Call
call_of number =
    cond (eqb number 1) (Some C.SpanBetween)
    (cond (eqb number 2) (Some C.InstantAfter)
    (cond (eqb number 3) (Some C.SecondsOfInstant)
    (cond (eqb number 4) (Some C.SecondsOfSpan)
    (cond (eqb number 5) (Some C.InstantOfSeconds)
    (cond (eqb number 6) (Some C.SpanOfSeconds) None)))))

infixl 10 ◌>>=◌
abbrev pub ◌>>=◌ : {A B : Type 0} → Option A → (A → Option B) → Option B
o >>= f = option_and_then f o

-- The answer that five words make, of which the first names one of the six calls.
unfoldable pub answer_of : ℕ → ℕ → ℕ → ℕ → ℕ → Option Answer
answer_of which first second number word = do
  call ← call_of which
  Some (record { call = call; first = first; second = second; number = number; word = word })

unfoldable pub line_of : List ℕ → Option Answer
line_of line = cond (separated line) words_of None
  where
    words_of : Option Answer
    words_of = do
      which ← word_at line 0
      first ← word_at line 17
      second ← word_at line 34
      number ← word_at line 51
      word ← word_at line 68
      answer_of which first second number word
