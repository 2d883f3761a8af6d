-- What ranking the hints of a lent list in their place leaves in it (RULES 11.5 to 11.8).
-- Assumes nothing.
use Rattle.std.specs.Prelude.{◌≡◌, ℕ, List, map, replicate, Result}
use Rattle.refusals.specs.declared.Refusal.{Refusal}
use Rattle.hint_list.specs.Words.{hints_in, laid}
use Rattle.hint_list.specs.declared.hint.WaitHint.{WaitHint}
use Rattle.hint_ranking.specs.Hints.{Ranked, Of, Refused, ranked_in, filled_by}

-- The hints of a list as they were found.
unfoldable pub found_in : List ℕ → List WaitHint
found_in words = map (λ r. r.hint) (hints_in words)

-- The hints of an answer in the places of those that were there.
unfoldable pub ranked_over : List ℕ → Ranked → List ℕ
ranked_over words (Of l) = laid words 0 l
ranked_over words (Refused why) = replicate 385 0

pub record RanksOver (answer : Ranked) (lent left : List ℕ) (r : Result ℕ Refusal) : Type 0 where
  pub filled : r ≡ filled_by answer
  pub words : left ≡ ranked_over lent answer
  pub held : hints_in left ≡ ranked_in answer
