-- The words of hints that are handed over are those of the answer (RULES 4.12, 11.8).
-- Assumes nothing.
use Prim.Native.Nat.{ℕ, ◌+◌, ◌-◌, ◌*◌}
use mathlib.Core.Path.{◌≡◌, sym, ap, ◌∙◌}
use mathlib.Core.List.{List, ◌∷◌}
use native.Mathlib.Omega.{arith}
use lib.ListN.{length, take, replicate, length-append, length-replicate}
use lib.Seq.{take_at}
use Rattle.hint_list.specs.Words.{count_in, all_words}
use Rattle.hint_list.proofs.Reading.{few, counted}
use Rattle.hint_list.proofs.Words.{length_words}
use Rattle.hint_ranking.specs.Hints.{Ranked, Of, Refused, Ranks, filled_by, ranked_words}
use Rattle.hint_words.specs.Lent.{hints_outcome}
use Rattle.plan_exports.specs.Given.{filled_outcome}
use Rattle.std.specs.Prelude.{Result}
use Rattle.refusals.specs.declared.Refusal.{Refusal}

-- The list that an answer leaves has 385 words.
pub ranks_long : (answer : Ranked) {left : List ℕ} {r : Result ℕ Refusal} → Ranks answer left r → length left ≡ 385
unfolding ranked_words
ranks_long (Of l) {left} ranks =
    omega (
      arith,
      ap length ranks.words,
      length-append (all_words l) (replicate (384 - 6 * length l) 0),
      length-replicate {A = ℕ} (384 - 6 * length l) 0,
      length_words l,
      ap length ranks.held,
      counted left,
      few left,
    )
ranks_long (Refused n) ranks = ap length ranks.words

-- As many of them as there are hints, or the refusal, are handed over for the answer.
pub ranks_given : (answer : Ranked) {left : List ℕ} {r : Result ℕ Refusal} → Ranks answer left r →
    filled_outcome r (take (1 + 6 * count_in left) left) ≡ hints_outcome answer
unfolding filled_by ranked_words hints_outcome
ranks_given (Of l) {left} ranks =
    let count : count_in left ≡ length l = sym (counted left) ∙ ap length ranks.held in
    let own : List ℕ = length l ∷ all_words l in
    let words : take (1 + 6 * length l) left ≡ own =
    ap (take (1 + 6 * length l)) ranks.words ∙
    take_at own (replicate (384 - 6 * length l) 0) (1 + 6 * length l) (omega (arith, length_words l)) in
    rw (ranks.filled, count, words)
ranks_given (Refused n) ranks = rw ranks.filled
