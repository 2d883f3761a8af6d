-- Hints as an answer's words, and what is asked of those that a call is lent (RULES 11.8 to 11.10).
-- Assumes nothing.
use Rattle.std.specs.Prelude.{ℕ, ◌+◌, ◌-◌, ◌*◌, ◌≡◌, Bool, cond, ◌&&◌, List, ◌∷◌, ◌++◌, leb, ltb, length, get_or, take, replicate, Float, Result}
use Rattle.std.specs.Float.Ieee
use Rattle.std.specs.Float.{binary64}
use Rattle.refusals.specs.declared.Refusal.{Refusal}
use Rattle.refusals.specs.declared.Refusal.TheVariants as Refusals
use Rattle.refusals.specs.Names.{refusal_number}
use Rattle.lent.specs.Listed.{listed, every}
use Rattle.lent.specs.Outcome.{Outcome, Gives, Refuses}
use Rattle.floats.specs.Compare.{is_between}
use Rattle.times.specs.Time.{is_exact}
use Rattle.hint_list.specs.Hint.{is_placed}
use Rattle.hint_list.specs.Words.{hint_in, hints_in, all_words}
use Rattle.hint_list.specs.declared.hint.RankedHint.{RankedHint}
use Rattle.hint_ranking.specs.Ranked.{sorted}
use Rattle.hint_ranking.specs.Hints.{Ranked, Of, Refused, ranked_in, filled_by}

-- The number and the words of an answer: how many hints there are, and they (RULES 11.8).
unfoldable pub hints_outcome : Ranked → Outcome
hints_outcome (Of l) = Gives (length l ∷ all_words l)
hints_outcome (Refused why) = Refuses (refusal_number why)

-- ---- The table's row.

-- Neither a NaN nor an infinity: no larger in size than the largest double.
unfoldable pub is_finite : Float → Bool
is_finite = let most = Ieee.of_bits binary64 0x7fef_ffff_ffff_ffff in is_between (Ieee.neg most) most

-- Contour, until and place within row 7, the reach finite, the obstacle below the count (RULES 11.10).
unfoldable pub is_hint : ℕ → RankedHint → Bool
is_hint obstacles h =
    is_exact h.contour.0 &&
    (is_finite h.reach &&
    (is_placed h.hint.place && (is_exact h.hint.until.0 && ltb h.hint.obstacle obstacles)))

-- The count is at most 64, and the words reach as far (RULES 11.9).
unfoldable pub are_shaped : List ℕ → Bool
are_shaped words = let n = get_or words 0 0 in leb n 64 && leb (1 + 6 * n) (length words)

-- Hints that a call is lent: 2 for their count, then 1 for their numbers and for hints that are not ranked (RULES 11.9, 11.10).
unfoldable pub lent_hints : ℕ → List ℕ → Ranked
lent_hints obstacles words =
    let l = listed (hint_in words) (get_or words 0 0) 0 in
    cond (are_shaped words) (cond (every (is_hint obstacles) l && sorted l) (Of l) (Refused Refusals.Number)) (Refused Refusals.Shape)

-- ---- Taken over into a list of the call's own.

-- The words as they were lent and zero behind them, and zero throughout on a refusal.
unfoldable pub copied_by : Ranked → List ℕ → List ℕ
copied_by (Of l) words = take (1 + 6 * length l) words ++ replicate (384 - 6 * length l) 0
copied_by (Refused why) words = replicate 385 0

-- What is handed back and left in the list, which reads as the answer's hints.
pub record Takes (answer : Ranked) (words left : List ℕ) (r : Result ℕ Refusal) : Type 0 where
  pub filled : r ≡ filled_by answer
  pub copied : left ≡ copied_by answer words
  pub held : hints_in left ≡ ranked_in answer
