-- What a search for a chain of hints answers (RULES 13.20 to 13.23).
-- Assumes nothing.
use Rattle.std.specs.Prelude.{ℕ, zero, suc, Bool, true, false, List}
use Rattle.refusals.specs.declared.Refusal.{Refusal}
use Rattle.refusals.specs.declared.Refusal.TheVariants as Refusals
use Rattle.std.specs.Prelude.{Option, Some, None}

-- A chain by the indices of its hints, the first to be waited at first; none; or a refusal. Each with the pops made.
pub data Chained : Type 0 where
  Way : List ℕ → ℕ → Chained
  NoWay : ℕ → Chained
  Refused : Refusal → ℕ → Chained

-- The index below, where there is one: the first child of a hint (RULES 13.12).
abbrev pub one_below : ℕ → Option ℕ
one_below zero = None
one_below (suc k) = Some k

abbrev pub pops_of : Chained → ℕ
pops_of (Way l p) = p
pops_of (NoWay p) = p
pops_of (Refused why p) = p

-- One pop more than the budget would have been made (RULES 13.21).
abbrev pub is_spent : Chained → Bool
is_spent (Way l p) = false
is_spent (NoWay p) = false
is_spent (Refused Refusals.Spent p) = true
is_spent (Refused _ p) = false
