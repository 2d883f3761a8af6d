-- Arrival times as words (RULES 12.18, 4.14).
-- Assumes nothing.
use Rattle.std.specs.Prelude.{ℕ, List, ◌∷◌, map, ℤ, length, take}
use Rattle.lent.specs.Outcome.{Outcome, Gives, Refuses}
use Rattle.number_words.specs.Word.{word_of}
use Rattle.arrival_search.specs.Search.{Searched, Answered, Refused, Unfinished}
use Rattle.arrival_times.specs.Listing.{nanoseconds_of}
use Rattle.std.specs.Prelude.{Result, Ok, Err}
use Rattle.refusals.specs.declared.Refusal.{Refusal}
use Rattle.arrival_times.specs.declared.listing.Arrivals.{Arrivals}
use Rattle.refusals.specs.Names.{refusal_number}

-- Nanoseconds, a word each.
unfoldable pub words_of : List ℤ → List ℕ
words_of times = map word_of times

-- The number and the words of an answer: how many times there are, by how many sweeps, and they (RULES 12.18). `Unfinished` is
-- never the answer (`finished` of arrivals), and 0 is no refusal's number.
unfoldable pub arrivals_outcome : Searched → Outcome
arrivals_outcome (Answered l n) = Gives (length l ∷ (n ∷ words_of (nanoseconds_of l)))
arrivals_outcome (Refused why) = Refuses (refusal_number why)
arrivals_outcome Unfinished = Refuses 0

-- The same of the counts and the list that a search leaves: its times stand at the front.
unfoldable pub listing_outcome : Result Arrivals Refusal → List ℤ → Outcome
listing_outcome (Ok found) list = Gives (found.listed ∷ (found.sweeps ∷ words_of (take found.listed list)))
listing_outcome (Err why) list = Refuses (refusal_number why)
