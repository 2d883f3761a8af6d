-- Hints that were found, in a list that was empty: with their count in front they are read as they were found, and what is ranked
-- over them is left as an answer's words (RULES 10.41, 11.5, 11.8).
-- Assumes nothing.
use Prim.Native.Nat.{ℕ, ◌+◌, ◌≤◌}
use mathlib.Core.Path.{◌≡◌, refl, sym, ap, ◌∙◌}
use mathlib.Core.List.{List, [], ◌∷◌, map}
use native.Mathlib.Omega.{arith}
use lib.ListN.{length, set, replicate, length-map}
use Rattle.std.specs.Prelude.{Result, Ok, Err}
use Rattle.refusals.specs.declared.Refusal.{Refusal}
use Rattle.hint_list.specs.Words.{unranked, count_in, hints_in, laid}
use Rattle.hint_list.specs.Hints as W
use Rattle.hint_list.specs.Adding.{Added, filled_of, laid_by}
use Rattle.hint_list.specs.declared.hint.WaitHint.{WaitHint}
use Rattle.hint_list.proofs.Reading.{counted, no_hints}
use Rattle.hint_list.proofs.Words.{laid_count, laid_again, laid_held, set_laid, unranked_kept}
use Rattle.hint_ranking.specs.Hints.{Ranked, Of, Refused, Ranks, filled_by, ranked_words}
use Rattle.hint_ranking.proofs.OneByOne.{answer_words}
use Rattle.hints.specs.Ranking.{found_in, ranked_over, RanksOver}

as_found : (hs : List WaitHint) → map (λ r. r.hint) (map unranked hs) ≡ hs
as_found [] = refl
as_found (h ∷ hs) = ap (λ (l : List WaitHint). h ∷ l) (as_found hs)

-- A list with nothing but a count.
abbrev empty : ℕ → List ℕ
empty n = set (replicate 385 0) 0 n

empty_count : (n : ℕ) → n ≤ 64 → count_in (empty n) ≡ n
unfolding count_in
empty_count n few = omega arith

-- n hints were added to a list that was empty.
module _ (hs : List WaitHint) (n : ℕ) (lent : List ℕ) (added : Added (W.Of hs) 0 (replicate 385 0) lent (Ok n)) where
  size : n ≡ length hs
  unfolding filled_of
  size = let whole : 0 + length hs ≡ length hs = omega arith in cc added.filled

  room : n ≤ 64
  room = omega (arith, size, added.kept.1 (omega arith))

  many : n ≡ length (map unranked hs)
  many = size ∙ sym (length-map hs unranked)

  with_count_law : set lent 0 n ≡ laid (empty n) 0 (map unranked hs)
  unfolding laid_by
  with_count_law =
      ap (λ (words : List ℕ). set words 0 n) added.words ∙ set_laid (replicate 385 0) 0 (map unranked hs) 0 n (omega arith)

  -- They are read as they were found.
  pub found_hints : found_in (set lent 0 n) ≡ hs
  unfolding found_in
  found_hints =
      let held = laid_held (empty n) (map unranked hs) refl (empty_count n room ∙ many) (unranked_kept hs added.kept.0) in
      ap found_in with_count_law ∙ ap (map (λ r. r.hint)) held ∙ as_found hs

  -- What is ranked over them leaves nothing of them.
  pub ranked_words_law : (answer : Ranked) (left : List ℕ) (r : Result ℕ Refusal) → RanksOver answer (set lent 0 n) left r → Ranks answer left r
  unfolding ranked_over ranked_words
  ranked_words_law (Of l) left r ranks =
      let over : left ≡ laid (laid (empty n) 0 (map unranked hs)) 0 l =
      ranks.words ∙ ap (λ (words : List ℕ). laid words 0 l) with_count_law in
      let same : length l ≡ n =
      ap length (sym ranks.held) ∙ counted left ∙ ap count_in over ∙ laid_count (laid (empty n) 0 (map unranked hs)) 0 l ∙
      laid_count (empty n) 0 (map unranked hs) ∙ empty_count n room in
      record {
        filled = ranks.filled;
        words =
            over ∙ laid_again (empty n) 0 (map unranked hs) l (omega (arith, many)) ∙
            ap (λ (k : ℕ). laid (empty k) 0 l) (sym same) ∙ answer_words l (omega (arith, room));
        held = ranks.held;
      }
  ranked_words_law (Refused why) left r ranks = record { filled = ranks.filled; words = ranks.words; held = ranks.held }

-- A search that is refused leaves zeros and its refusal, as the answer does (RULES 4.14).
pub refused_ranks : (why : Refusal) (lent left : List ℕ) →
    Added (W.Refused why) 0 lent left (Err why) → Ranks (Refused why) left (Err why)
unfolding laid_by filled_by ranked_words
refused_ranks why lent left added = record { filled = refl; words = added.words; held = ap hints_in added.words ∙ no_hints }
