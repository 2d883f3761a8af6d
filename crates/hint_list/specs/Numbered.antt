-- What adding hints hands back and leaves where a refusal is told by a number, whatever it is (RULES 4.14, 10.41 to 10.43).
-- Assumes nothing.
use Rattle.std.specs.Prelude.{ℕ, ◌+◌, ◌≤◌, ◌≡◌, List, map, length, replicate, Result, Ok, Err, Option}
use Rattle.hint_list.specs.Hints.{Hints, Of, Refused, one_wait}
use Rattle.hint_list.specs.Words.{unranked, laid}
use Rattle.hint_list.specs.Adding.{AllKept}
use Rattle.hint_list.specs.declared.hint.WaitHint.{WaitHint}
use Rattle.refusals.specs.Names.{refusal_number}
use Rattle.shapes.specs.declared.vector.Vector.{Vector}
use Rattle.times.specs.declared.time.TimePoint.{TimePoint}

-- The hints, or the refusal's number.
unfoldable pub numbered_hints : Hints → Result (List WaitHint) ℕ
numbered_hints (Of hs) = Ok hs
numbered_hints (Refused why) = Err (refusal_number why)

-- What was found for the obstacle of that number, behind n hints, or a number alone.
unfoldable pub one_numbered : ℕ → Result (Option (Vector × TimePoint)) ℕ → ℕ → Result (List WaitHint) ℕ
one_numbered n (Ok found) obstacle = numbered_hints (one_wait n (Ok found) obstacle)
one_numbered n (Err number) obstacle = Err number

-- How many there are behind n others, or the number.
abbrev pub filled_numbered : ℕ → Result (List WaitHint) ℕ → Result ℕ ℕ
filled_numbered n (Ok hs) = Ok (n + length hs)
filled_numbered n (Err number) = Err number

-- The list with the hints behind n others, and zero throughout on a refusal (RULES 4.14).
abbrev pub laid_numbered : List ℕ → ℕ → Result (List WaitHint) ℕ → List ℕ
laid_numbered words n (Ok hs) = laid words n (map unranked hs)
laid_numbered words n (Err _) = replicate 385 0

-- Hints behind n others are kept, and where those are at most 64, all of them are.
abbrev pub KeptNumbered : ℕ → Result (List WaitHint) ℕ → Type 0
KeptNumbered n (Ok hs) = AllKept hs × (n ≤ 64 → n + length hs ≤ 64)
KeptNumbered n (Err _) = Unit {0}

-- `lent` is the list as it came, with n hints in it, `left` as it is left, r what is handed back.
pub record AddedNumbered (answer : Result (List WaitHint) ℕ) (n : ℕ) (lent left : List ℕ) (r : Result ℕ ℕ) : Type 0 where
  pub filled : r ≡ filled_numbered n answer
  pub words : left ≡ laid_numbered lent n answer
  pub kept : KeptNumbered n answer
