-- The arrival times of a plan: what the search for them leaves in its list are all its times (RULES 12.18, 12.19).
-- Assumes nothing.
use Prim.Native.Nat.{ℕ, ◌-◌, ◌≤◌}
use mathlib.Core.Path.{◌≡◌, refl, sym, ap, ◌∙◌}
use mathlib.Core.Bool.{Bool, true, false, cond, true≢false}
use mathlib.Core.List.{List, [], ◌∷◌, ◌++◌}
use borrow.Author.Tests.{le-ltb, ltb-false}
use lib.Dec.{ltb}
use lib.IntN.{ℤ, pos}
use lib.ListN.{length, take, replicate}
use lib.Seq.{take_at}
use Rattle.times.specs.declared.time.TimePoint.{TimePoint}
use Rattle.arrival_search.specs.Search as A
use Rattle.arrival_search.specs.Search.{Searched, Answered, Unfinished}
use Rattle.arrival_times.specs.Listing.{nanoseconds_of, counts_in, times_in, Told}
use Rattle.arrival_times.proofs.Words.{length_numbers}
use Rattle.plan_model.specs.Plan.{Plan, Refused, timed, instants_of}
use Rattle.std.specs.Prelude.{Result, Ok, Err}
use Rattle.refusals.specs.declared.Refusal.{Refusal}
use Rattle.arrival_times.specs.declared.listing.Arrivals.{Arrivals}
use Rattle.refusals.specs.declared.Refusal.TheVariants as Refusals

instants_back : (l : List TimePoint) → instants_of (nanoseconds_of l) ≡ l
unfolding instants_of nanoseconds_of
instants_back [] = refl
instants_back (t ∷ l) = ap (λ ts. t ∷ ts) (instants_back l)

-- The answer of so many times by so many sweeps, and the two numbers of one.
abbrev listed_as : ℕ → ℕ → Result Arrivals Refusal
listed_as count sweeps = Ok (record { listed = count; sweeps = sweeps })

abbrev listed_in : Result Arrivals Refusal → ℕ
listed_in (Ok arrivals) = arrivals.listed
listed_in (Err _) = 0

abbrev sweeps_in : Result Arrivals Refusal → ℕ
sweeps_in (Ok arrivals) = arrivals.sweeps
sweeps_in (Err _) = 0

module _ {answer : Searched} {lent left : List ℤ} {r : Result Arrivals Refusal} (told : Told answer lent left r) where
  -- A refusal is the search's own, where there is room for all its times.
  pub told_refused : {n : Refusal} (go : List TimePoint → ℕ → Plan) → r ≡ Err n →
      ((l : List TimePoint) (m : ℕ) → answer ≡ Answered l m → length l ≤ length lent) → timed answer go ≡ Refused n
  unfolding counts_in
  told_refused {n} go e room = by answer refl (sym e ∙ told.counts)
    where
      by : (a : Searched) → answer ≡ a → Err n ≡ counts_in a (length lent) → timed a go ≡ Refused n
      by (Answered l m) is f = let fits = le-ltb (length lent) (length l) (room l m is) in cc (rw fits at f)
      by (A.Refused m) is f = cc
      by Unfinished is f = absurd (told.ended is)

  -- The times listed stand at the front.
  module _ {count sweeps : ℕ} (e : r ≡ listed_as count sweeps) where
    pub told_few : count ≤ length lent
    unfolding counts_in
    told_few = by answer (sym e ∙ told.counts)
      where
        fits : (l : List TimePoint) (m : ℕ) (t : Bool) → ltb (length lent) (length l) ≡ t →
            listed_as count sweeps ≡ cond t (Err Refusals.NoRoom) (listed_as (length l) m) → count ≤ length lent
        fits l m true b f = absurd (true≢false (cc f))
        fits l m false b f = let same : count ≡ length l = ap listed_in f in rw same (ltb-false (length lent) (length l) b)

        by : (a : Searched) → listed_as count sweeps ≡ counts_in a (length lent) → count ≤ length lent
        by (Answered l m) f = fits l m (ltb (length lent) (length l)) refl f
        by (A.Refused m) f = absurd (true≢false (cc f))
        by Unfinished f = absurd (true≢false (cc f))

    pub told_listed : (go : List TimePoint → ℕ → Plan) → timed answer go ≡ go (instants_of (take count left)) sweeps
    unfolding counts_in times_in
    told_listed go = by answer (sym e ∙ told.counts) told.times
      where
        fits : (l : List TimePoint) (m : ℕ) (t : Bool) →
            listed_as count sweeps ≡ cond t (Err Refusals.NoRoom) (listed_as (length l) m) →
            left ≡ cond t (replicate (length lent) (pos 0)) (nanoseconds_of l ++ replicate (length lent - length l) (pos 0)) →
            go l m ≡ go (instants_of (take count left)) sweeps
        fits l m true f g = cc
        fits l m false f g =
            let same : count ≡ length l = ap listed_in f in
            let as_many : sweeps ≡ m = ap sweeps_in f in
            let rest : List ℤ = replicate (length lent - length l) (pos 0) in
            rw (same, as_many, g, take_at (nanoseconds_of l) rest (length l) (length_numbers l), instants_back l)

        by : (a : Searched) → listed_as count sweeps ≡ counts_in a (length lent) → left ≡ times_in a (length lent) →
            timed a go ≡ go (instants_of (take count left)) sweeps
        by (Answered l m) f g = fits l m (ltb (length lent) (length l)) f g
        by (A.Refused m) f g = cc
        by Unfinished f g = cc
