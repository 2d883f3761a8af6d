-- Arrival times as words: behind their counts they are the answer (RULES 12.18).
-- Assumes nothing.
use Prim.Native.Nat.{ℕ, ◌+◌, ◌≤◌, ◌<◌, min}
use mathlib.Core.Path.{◌≡◌, refl, sym, ◌∙◌}
use mathlib.Core.List.{List, ◌∷◌, ◌++◌}
use native.Mathlib.Omega.{arith}
use lib.IntN.{ℤ}
use lib.ListN.{length, take, set, length-map, length-take, length-set}
use lib.Seq.{take-suc-set}
use Rattle.std.proofs.lemmas.List.{take_min}
use Rattle.std.specs.Result.{MatchResult, IsErrAnd}
use Rattle.lent.specs.Outcome.{Handed, Refuses, number_of, room_of, wiped}
use Rattle.lent.proofs.Answer.{number_fits, number_short, room_fits, room_short}
use Rattle.number_words.specs.Word.{word_of}
use Rattle.arrival_times.specs.Words.{words_of, listing_outcome}
use Rattle.std.specs.Prelude.{Result, Ok, Err}
use Rattle.refusals.specs.declared.Refusal.{Refusal}
use Rattle.refusals.specs.Names.{refusal_number}
use Rattle.arrival_times.specs.declared.listing.Arrivals.{Arrivals}
use Rattle.plan_exports.specs.Given.{numbered_listing}

module _ (found : Arrivals) (list : List ℤ) where
  abbrev words : List ℕ
  words = found.listed ∷ (found.sweeps ∷ words_of (take found.listed list))

  -- A room with the counts in its first two words.
  abbrev counted : List ℕ → List ℕ
  counted room = set (set room 0 found.listed) 1 found.sweeps

  words_count : length words ≡ 2 + min found.listed (length list)
  unfolding words_of
  words_count = omega (arith, length-map (take found.listed list) word_of, length-take found.listed list)

  -- Of the first places, one for each time, the list has n.
  module _ {n : ℕ} (held : n ≡ min found.listed (length list)) where
    -- The counts stand in front of the times.
    counts_first : (room : List ℕ) → 2 ≤ length room →
        take 2 (counted room) ++ words_of (take n list) ≡ words
    counts_first room h =
        let both : 1 < length (set room 0 found.listed) = omega (arith, length-set room 0 found.listed) in
        rw (
          take-suc-set (set room 0 found.listed) 1 found.sweeps both,
          take-suc-set room 0 found.listed (omega arith),
          held,
          take_min found.listed list,
        )

    -- A room that is too small (RULES 4.12).
    pub listed_short : {lent left : List ℕ} {r : ℕ} → length lent < 2 + n → Handed (Refuses 12) lent left r →
        Handed (listing_outcome (Ok found) list) lent left r
    unfolding listing_outcome number_of room_of
    listed_short {lent} h refused =
        let short : length lent < length words = omega (arith, words_count) in
        record {
          number = refused.number ∙ sym (number_short words (length lent) short);
          room = refused.room ∙ sym (room_short words (length lent) short);
        }

    -- The counts, the times behind them, and zero after the last (RULES 4.15).
    pub listed_fits : {lent left : List ℕ} (put : List ℕ) → 2 + n ≤ length lent → length put ≡ length lent →
        take (2 + n) put ≡ take 2 (counted lent) ++ words_of (take n list) → left ≡ wiped put (2 + n) →
        Handed (listing_outcome (Ok found) list) lent left 0
    unfolding listing_outcome wiped
    listed_fits {lent} put h long stand e =
        let all : length words ≡ 2 + n = omega (arith, words_count) in
        let fits : length words ≤ length lent = omega arith in
        record {
          number = sym (number_fits words (length lent) fits);
          room = e ∙ rw (stand, counts_first lent (omega arith), long, ← all) (sym (room_fits words (length lent) fits));
        }

-- A refusal is handed over by its number as it is by itself (RULES 4.14).
pub listing_numbered : (found : Result Arrivals Refusal) (numbered : Result Arrivals ℕ) (list : List ℤ) →
    MatchResult found (λ times. numbered ≡ Ok times) (λ why. IsErrAnd numbered (λ number. number ≡ refusal_number why)) →
    numbered_listing numbered list ≡ listing_outcome found list
unfolding listing_outcome
listing_numbered (Ok times) numbered list same = rw same refl
listing_numbered (Err why) (Ok times) list same = absurd same
listing_numbered (Err why) (Err number) list same = rw same refl
