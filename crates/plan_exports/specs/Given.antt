-- What is handed over of the words of hints (RULES 4.12, 11.8), and of a search for arrival times (RULES 12.18, 4.14).
-- Assumes nothing.
use Rattle.std.specs.Prelude.{ℕ, ℤ, List}
use Rattle.lent.specs.Outcome.{Outcome, Gives, Refuses}
use Rattle.std.specs.Prelude.{Result, Ok, Err}
use Rattle.refusals.specs.declared.Refusal.{Refusal}
use Rattle.refusals.specs.Names.{refusal_number}
use Rattle.arrival_times.specs.declared.listing.Arrivals.{Arrivals}
use Rattle.arrival_times.specs.Words.{listing_outcome}

-- The words, or the refusal.
abbrev pub filled_outcome : Result ℕ Refusal → List ℕ → Outcome
filled_outcome (Ok n) words = Gives words
filled_outcome (Err why) words = Refuses (refusal_number why)

-- The counts and the times that a search leaves (RULES 12.18), or the refusal by that very number (RULES 4.14).
abbrev pub numbered_listing : Result Arrivals ℕ → List ℤ → Outcome
numbered_listing (Ok found) list = listing_outcome (Ok found) list
numbered_listing (Err n) list = Refuses n
