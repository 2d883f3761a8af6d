-- What the calls answer together: begun in a memory, fed in turn, and finished, a year is answered as the text that its parts make
-- (RULES 21.11, 21.12).
-- Assumes nothing.
use Rattle.std.specs.Prelude.{ℕ, ◌≤◌, ◌≡◌, List, [], ◌∷◌, length}
use Rattle.lent.specs.Outcome.{Outcome, Gives, Refuses, room_of}
use Rattle.lent.specs.Rows.{words_in}
use Rattle.hold_year.specs.Year.{year_reply}
use Rattle.hold_exports.specs.Memory.{begun_memory, fed_memory, finished_memory}

-- A call that is refused is the last; behind any other the memory is as the call left it.
abbrev pub behind_call : Outcome → ℕ → (List ℕ → Outcome) → Outcome
behind_call (Gives words) room go = go (room_of (Gives words) room)
behind_call (Refuses n) room go = Refuses n

-- Parts fed one after another to what a memory holds, and what is answered then.
unfoldable pub answered_in_turn : List ℕ → List (List ℕ) → Outcome
answered_in_turn memory [] = finished_memory memory
answered_in_turn memory (part ∷ parts) =
    behind_call (fed_memory memory part) (length memory) (λ left. answered_in_turn left parts)

-- A memory of 197 words is enough for every year, and how the text is cut makes no difference.
pub record YearInMemory : Type 0 where
  pub answered : (room : ℕ) (parts : List (List ℕ)) → 197 ≤ room →
      answered_in_turn (room_of begun_memory room) parts ≡ year_reply (words_in parts)
