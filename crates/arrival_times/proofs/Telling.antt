-- What is handed back once a search has left its times in a list: they and zero after them, or zero throughout.
-- Assumes nothing.
use Prim.Native.Nat.{ℕ, ◌-◌, ◌<◌, ◌≤◌}
use mathlib.Core.Path.{◌≡◌, refl, sym, ◌∙◌}
use mathlib.Core.Bool.{true≢false}
use mathlib.Core.Logic.{◌≢◌}
use mathlib.Core.List.{List}
use native.Mathlib.Omega.{arith}
use borrow.Author.Tests.{lt-ltb, le-ltb}
use lib.IntN.{ℤ, pos}
use lib.ListN.{length, replicate}
use Rattle.table_packing.proofs.Packed.{packed_examined, packed_fine}
use Rattle.arrival_search.specs.Search.{Searched, Answered, Refused, Unfinished}
use Rattle.arrival_times.specs.Listing.{arrival_counts, wiped_times, Stored, counts_in, times_in, Told}
use Rattle.std.specs.Prelude.{Result, Ok, Err}
use Rattle.refusals.specs.declared.Refusal.{Refusal}
use Rattle.arrival_times.specs.declared.listing.Arrivals.{Arrivals}
use Rattle.refusals.specs.declared.Refusal.TheVariants as Refusals

wiped_whole : (list : List ℤ) (n : ℕ) → length list ≡ n → wiped_times list 0 ≡ replicate n (pos 0)
unfolding wiped_times
wiped_whole list n e = let all : length list - 0 ≡ n = omega arith in rw all

-- A refusal before any search keeps nothing of the list (RULES 4.14).
pub told_refused : {list end : List ℤ} {why : Refusal} → end ≡ wiped_times list 0 → Told (Refused why) list end (Err why)
unfolding counts_in times_in
told_refused {list} w =
    record { counts = refl; times = w ∙ wiped_whole list (length list) refl; ended = λ e. absurd (true≢false (cc e)) }

module _ {answer : Searched} {lent left end : List ℤ} {r : Result Arrivals Refusal} (s : Stored answer lent left r) where
  -- Nor does one of the search.
  pub told_failed : {why : Refusal} → r ≡ Err why → end ≡ wiped_times left 0 → Told answer lent end (Err why)
  unfolding arrival_counts counts_in times_in
  told_failed {why} e w = by answer s.ended (sym e ∙ s.counts)
    where
      all : end ≡ replicate (length lent) (pos 0)
      all = w ∙ wiped_whole left (length lent) s.long

      by : (a : Searched) → a ≢ Unfinished → Err why ≡ arrival_counts a → Told a lent end (Err why)
      by (Answered l m) ended f = absurd (true≢false (cc f))
      by (Refused other) ended f = record { counts = f; times = all; ended = ended }
      by Unfinished ended f = absurd (ended refl)

  module _ {found : Arrivals} (e : r ≡ Ok found) where
    -- More times than places are refused 12 (RULES 4.12).
    pub told_short : length left < found.listed → end ≡ wiped_times left 0 → Told answer lent end (Err Refusals.NoRoom)
    unfolding arrival_counts counts_in times_in
    told_short h w = by answer s.ended (sym e ∙ s.counts)
      where
        by : (a : Searched) → a ≢ Unfinished → Ok found ≡ arrival_counts a → Told a lent end (Err Refusals.NoRoom)
        by (Answered l m) ended f =
            let same : found.listed ≡ length l = cc f in
            let short : length lent < length l = omega (arith, s.long) in
            record {
              counts = rw (lt-ltb (length lent) (length l) short);
              times = rw (lt-ltb (length lent) (length l) short) (w ∙ wiped_whole left (length lent) s.long);
              ended = ended;
            }
        by (Refused why) ended f = absurd (true≢false (cc f))
        by Unfinished ended f = absurd (true≢false (cc f))

    -- Otherwise the times stand at the front, with zero after them (RULES 4.15).
    pub told_all : found.listed ≤ length left → end ≡ wiped_times left found.listed → Told answer lent end (Ok found)
    unfolding arrival_counts counts_in times_in wiped_times
    told_all h w = by answer refl s.ended (sym e ∙ s.counts)
      where
        by : (a : Searched) → answer ≡ a → a ≢ Unfinished → Ok found ≡ arrival_counts a → Told a lent end (Ok found)
        by (Answered l m) is ended f =
            let same : found.listed ≡ length l = cc f in
            let room : length l ≤ length lent = omega (arith, s.long) in
            record {
              counts = rw (le-ltb (length lent) (length l) room) f;
              times = rw (le-ltb (length lent) (length l) room, w, same, s.long, s.front l m is room);
              ended = ended;
            }
        by (Refused why) is ended f = absurd (true≢false (cc f))
        by Unfinished is ended f = absurd (true≢false (cc f))

-- What a call needs of the lists that it packed.
pub ruleset packed = (packed_examined, packed_fine)
