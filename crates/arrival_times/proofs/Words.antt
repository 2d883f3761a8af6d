-- The counts and the list that a search for arrival times hands back say the words of its answer (RULES 12.18).
-- Assumes nothing.
use Prim.Native.Nat.{ℕ, suc, ◌-◌, ◌≤◌}
use mathlib.Core.Path.{◌≡◌, refl, ap}
use mathlib.Core.Logic.{◌≢◌}
use mathlib.Core.Bool.{true≢false}
use mathlib.Core.List.{List, [], ◌∷◌}
use native.Mathlib.Omega.{arith}
use borrow.Author.Tests.{le-ltb}
use lib.IntN.{ℤ, pos}
use lib.ListN.{length, replicate}
use lib.Seq.{take_at}
use Rattle.times.specs.declared.time.TimePoint.{TimePoint}
use Rattle.shapes.specs.declared.profile.CircularProfile.{CircularProfile}
use Rattle.shapes.specs.declared.waypoint.Waypoint.{Waypoint}
use Rattle.table.specs.Lent.{Lent, obstacles_of}
use Rattle.table.specs.Examined.{agent_examined}
use Rattle.arrival_search.proofs.Theorems.{finished}
use Rattle.arrival_legs.specs.Watched.{view_at, watched_all, arrivals_at}
use Rattle.arrival_search.specs.Search.{Searched, Answered, Refused, Unfinished, arrivals}
use Rattle.arrival_times.specs.Asked.{asked_arrivals}
use Rattle.arrival_times.specs.Listing.{nanoseconds_of, counts_in, times_in, Told}
use Rattle.arrival_times.specs.Words.{arrivals_outcome, listing_outcome}
use Rattle.arrival_times.proofs.Few.{asked_few}
use Rattle.std.specs.Prelude.{Result, Ok, Err}
use Rattle.refusals.specs.declared.Refusal.{Refusal}
use Rattle.arrival_times.specs.declared.listing.Arrivals.{Arrivals}

pub length_numbers : (l : List TimePoint) → length (nanoseconds_of l) ≡ length l
unfolding nanoseconds_of
length_numbers [] = refl
length_numbers (t ∷ l) = ap suc (length_numbers l)

-- Where there is room for all times.
pub told_words : {answer : Searched} {lent left : List ℤ} {r : Result Arrivals Refusal} → Told answer lent left r →
    ((l : List TimePoint) (n : ℕ) → answer ≡ Answered l n → length l ≤ length lent) →
    listing_outcome r left ≡ arrivals_outcome answer
unfolding counts_in times_in listing_outcome arrivals_outcome
told_words {answer} {lent} told fits = rw (told.counts, told.times) (by answer told.ended fits)
  where
    room : ℕ
    room = length lent

    by : (a : Searched) → a ≢ Unfinished → ((l : List TimePoint) (n : ℕ) → a ≡ Answered l n → length l ≤ room) →
        listing_outcome (counts_in a room) (times_in a room) ≡ arrivals_outcome a
    by (Answered l n) ended fits =
        let rest : List ℤ = replicate (room - length l) (pos 0) in
        rw (le-ltb room (length l) (fits l n refl), take_at (nanoseconds_of l) rest (length l) (length_numbers l))
    by (Refused why) ended fits = refl
    by Unfinished ended fits = absurd (ended refl)

-- In 289 places there is.
pub asked_words : (p : CircularProfile) (g : Waypoint) (lent : Lent) {list left : List ℤ} {r : Result Arrivals Refusal} →
    Told (asked_arrivals p g lent) list left r → length list ≡ 289 →
    listing_outcome r left ≡ arrivals_outcome (asked_arrivals p g lent)
asked_words p g lent told long = told_words told (λ l n e. let few = asked_few p g lent l n e in omega arith)

-- A search that is asked for comes to its end (RULES D3a).
pub asked_ends : (p : CircularProfile) (g : Waypoint) (lent : Lent) → asked_arrivals p g lent ≢ Unfinished
unfolding asked_arrivals arrivals_at
asked_ends p g lent = by (agent_examined p (record { start = g; end = g }) lent)
  where
    searched : Result Unit Refusal → Searched
    searched (Ok tt) = arrivals (view_at g) (watched_all p (obstacles_of lent)) g.time
    searched (Err why) = Refused why

    by : (x : Result Unit Refusal) → searched x ≢ Unfinished
    by (Ok tt) e = finished (view_at g) (watched_all p (obstacles_of lent)) g.time e
    by (Err why) e = absurd (true≢false cc)

-- So its counts and its times are all that has to be known of what is told.
pub asked_told : (p : CircularProfile) (g : Waypoint) (lent : Lent) {list left : List ℤ} {r : Result Arrivals Refusal} →
    r ≡ counts_in (asked_arrivals p g lent) (length list) → left ≡ times_in (asked_arrivals p g lent) (length list) →
    Told (asked_arrivals p g lent) list left r
asked_told p g lent counts times = record { counts = counts; times = times; ended = asked_ends p g lent }
