-- The times that a search lists, in a list that it is lent (RULES 4.12, 4.14, 4.15, 12.18).
-- Assumes nothing.
use Rattle.std.specs.Prelude.{ℕ, ◌-◌, ◌≤◌, ◌≡◌, ◌≢◌, cond, List, [], ◌∷◌, ◌++◌, ltb, ℤ, pos, length, take, replicate}
use Rattle.times.specs.declared.time.TimePoint.{TimePoint}
use Rattle.arrival_search.specs.Search.{Searched, Answered, Refused, Unfinished}
use Rattle.std.specs.Prelude.{Result, Ok, Err}
use Rattle.refusals.specs.declared.Refusal.{Refusal}
use Rattle.arrival_times.specs.declared.listing.Arrivals.{Arrivals}
use Rattle.refusals.specs.declared.Refusal.TheVariants as Refusals

-- The nanoseconds of instants.
unfoldable pub nanoseconds_of : List TimePoint → List ℤ
nanoseconds_of [] = []
nanoseconds_of (t ∷ ts) = t.0 ∷ nanoseconds_of ts

-- How many times and sweeps, or the refusal. `Unfinished` is never the answer (`finished` of arrival_search, proofs/Theorems): what
-- is told of an answer says so beside, so any refusal may stand for it here.
unfoldable pub arrival_counts : Searched → Result Arrivals Refusal
arrival_counts (Answered l n) = Ok (record { listed = length l; sweeps = n })
arrival_counts (Refused why) = Err why
arrival_counts Unfinished = Err Refusals.Stuck

-- A list with zero from an index on.
unfoldable pub wiped_times : List ℤ → ℕ → List ℤ
wiped_times list from = take from list ++ replicate (length list - from) (pos 0)

-- What a search leaves before the rest is wiped: its counts, a list as long as before, and, where there is room for all, its times
-- at the front.
pub record Stored (answer : Searched) (lent left : List ℤ) (r : Result Arrivals Refusal) : Type 0 where
  pub counts : r ≡ arrival_counts answer
  pub long : length left ≡ length lent
  pub front : (l : List TimePoint) (n : ℕ) → answer ≡ Answered l n → length l ≤ length lent →
      take (length l) left ≡ nanoseconds_of l
  pub ended : answer ≢ Unfinished

-- What is handed back, with so many places: 12 where they are too few (RULES 4.12).
unfoldable pub counts_in : Searched → ℕ → Result Arrivals Refusal
counts_in (Answered l n) room = cond (ltb room (length l)) (Err Refusals.NoRoom) (Ok (record { listed = length l; sweeps = n }))
counts_in (Refused why) room = Err why
counts_in Unfinished room = Err Refusals.Stuck

-- The list in the end: the times with zero after them, and zero throughout on a refusal (RULES 4.14, 4.15).
unfoldable pub times_in : Searched → ℕ → List ℤ
times_in (Answered l n) room =
    cond (ltb room (length l)) (replicate room (pos 0)) (nanoseconds_of l ++ replicate (room - length l) (pos 0))
times_in (Refused why) room = replicate room (pos 0)
times_in Unfinished room = replicate room (pos 0)

pub record Told (answer : Searched) (lent left : List ℤ) (r : Result Arrivals Refusal) : Type 0 where
  pub counts : r ≡ counts_in answer (length lent)
  pub times : left ≡ times_in answer (length lent)
  pub ended : answer ≢ Unfinished
