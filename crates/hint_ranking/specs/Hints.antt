-- Ranked hints: an answer, its words, and one hint more at its place (RULES 11.6 to 11.9).
-- Assumes nothing.
use Rattle.std.specs.Prelude.{ℕ, ◌+◌, ◌-◌, ◌*◌, ◌≡◌, cond, List, [], ◌∷◌, ◌++◌, ltb, length, take, drop, replicate, Result, Ok, Err}
use Rattle.refusals.specs.declared.Refusal.{Refusal}
use Rattle.hint_list.specs.Words.{count_in, hints_in, all_words, laid}
use Rattle.hint_list.specs.declared.hint.RankedHint.{RankedHint}
use Rattle.hint_ranking.specs.Ranked.{goes_before}

-- Hints in order, or a refusal alone (RULES 4.14).
pub data Ranked : Type 0 where
  Of : List RankedHint → Ranked
  Refused : Refusal → Ranked

-- The hints of an answer; a refusal has none.
abbrev pub ranked_in : Ranked → List RankedHint
ranked_in (Of l) = l
ranked_in (Refused why) = []

-- How many there are, or the refusal.
unfoldable pub filled_by : Ranked → Result ℕ Refusal
filled_by (Of l) = Ok (length l)
filled_by (Refused why) = Err why

-- The list of words that an answer leaves: the count, the hints and zero behind them, and zero throughout on a refusal
-- (RULES 4.14, 11.8).
unfoldable pub ranked_words : Ranked → List ℕ
ranked_words (Of l) = length l ∷ (all_words l ++ replicate (384 - 6 * length l) 0)
ranked_words (Refused why) = replicate 385 0

-- What is handed back and left in the lent list, which reads as the answer's hints.
pub record Ranks (answer : Ranked) (left : List ℕ) (r : Result ℕ Refusal) : Type 0 where
  pub filled : r ≡ filled_by answer
  pub words : left ≡ ranked_words answer
  pub held : hints_in left ≡ ranked_in answer

-- ---- One hint more.

-- How many stand in front of the place of h.
unfoldable pub rank_of : RankedHint → List RankedHint → ℕ
rank_of h [] = 0
rank_of h (x ∷ l) = cond (goes_before h x) 0 (rank_of h l + 1)

-- The words with h at its place among the first n hints: those behind it move up by one, over the one at place n (RULES 11.7).
unfoldable pub ranked_into : List ℕ → ℕ → RankedHint → List ℕ
ranked_into words n h =
    let l = take n (hints_in words) in
    let k = rank_of h l in
    cond (ltb n (count_in words)) (laid words k (h ∷ drop k l)) words
