-- What a chain that is found keeps: every part of it passed its test, and its hints rise (RULES 13.10 to 13.16).
-- Assumes nothing.
use Rattle.std.specs.Prelude.{ℕ, ◌<◌, ◌≡◌, Bool, true, List, [], ◌∷◌, ◌++◌}
use Rattle.std.specs.Prelude.{Option, Some, None}
use Rattle.path_search.specs.declared.trial.Trial.{Trial}
use Rattle.path_search.specs.declared.trial.Trial.TheVariants.{Passed}
use Rattle.std.specs.Prelude.{Result, Ok, Err}
use Rattle.refusals.specs.declared.Refusal.{Refusal}

module _ (to_parent : ℕ → Option ℕ → Result Trial Refusal) (from_start : ℕ → Result Trial Refusal) (reaches : ℕ → ℕ → Bool) where
  -- The hints l, of which the last is i: the start reaches the first, each reaches the next, which has a higher index and no less
  -- reach.
  pub data SafeChain : List ℕ → ℕ → Type 0 where
    one : {i : ℕ} → from_start i ≡ (Ok Passed) → SafeChain (i ∷ []) i
    more : {l : List ℕ} {k i : ℕ} →
        SafeChain l k → k < i → reaches k i ≡ true → to_parent k (Some i) ≡ (Ok Passed) → SafeChain (l ++ (i ∷ [])) i

  -- A chain whose last hint is there and reaches the goal.
  pub record SafeWay (count : ℕ) (l : List ℕ) : Type 0 where
    pub last : ℕ
    pub there : last < count
    pub chain : SafeChain l last
    pub goal : to_parent last None ≡ (Ok Passed)
