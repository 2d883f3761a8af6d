-- Hints in the order of finding, 64 at most (RULES 10.41 to 10.43).
-- Assumes nothing.
use Rattle.std.specs.Prelude.{ℕ, ◌+◌, cond, List, [], ◌∷◌, ◌++◌, leb, length, Result, Ok, Err, Option, Some, None}
use Rattle.refusals.specs.declared.Refusal.TheVariants as Refusals
use Rattle.hint_list.specs.Hint.{is_placed}
use Rattle.hint_list.specs.declared.hint.WaitHint.{WaitHint}
use Rattle.refusals.specs.declared.Refusal.{Refusal}
use Rattle.shapes.specs.declared.vector.Vector.{Vector}
use Rattle.times.specs.declared.time.TimePoint.{TimePoint}

-- Hints, or a refusal alone (RULES 4.14).
pub data Hints : Type 0 where
  Of : List WaitHint → Hints
  Refused : Refusal → Hints

-- One hint behind n others: 7 for its place, then 10 for a 65th (RULES 10.42, 10.43).
unfoldable pub one_hint : ℕ → WaitHint → Hints
one_hint n h = cond (is_placed h.place) (cond (leb 64 n) (Refused Refusals.Full) (Of (h ∷ []))) (Refused Refusals.Strayed)

-- What a part of the search answered, for the obstacle of that number, behind n hints.
unfoldable pub one_wait : ℕ → Result (Option (Vector × TimePoint)) Refusal → ℕ → Hints
one_wait n (Ok (Some (p, until))) obstacle = one_hint n (record { place = p; until = until; obstacle = obstacle })
one_wait n (Ok None) obstacle = Of []
one_wait n (Err why) obstacle = Refused why

abbrev pub found_first : List WaitHint → Hints → Hints
found_first hs (Of more) = Of (hs ++ more)
found_first hs (Refused why) = Refused why

-- Hints behind n others, and behind them all those that are found next; a refusal ends the search.
unfoldable pub found_then : ℕ → Hints → (ℕ → Hints) → Hints
found_then n (Of hs) go = found_first hs (go (n + length hs))
found_then n (Refused why) go = Refused why
