-- Searches worked out, each by the stack machine and by the recursion: the chain or the refusal, and the pops.
-- Assumes nothing.
use mathlib.Core.Path.{◌≡◌, refl}
use mathlib.Core.Bool.{Bool, true, false, cond}
use mathlib.Core.List.{[], ◌∷◌}
use Rattle.std.specs.Prelude.{Option, Some, None}
use Prim.Native.Nat.{ℕ}
use lib.Dec.{eqb}
use Rattle.path_search.specs.declared.trial.Trial.{Trial}
use Rattle.path_search.specs.declared.trial.Trial.TheVariants as T
use Rattle.path_search.specs.Answer.{Chained, Way, NoWay, Refused}
use Rattle.path_search.specs.Stack.{Done, stack_search}
use Rattle.path_search.specs.Recursive.{recursive_search}
use Rattle.std.specs.Prelude.{Result, Ok, Err}
use Rattle.refusals.specs.declared.Refusal.{Refusal}
use Rattle.refusals.specs.declared.Refusal.TheVariants as Refusals

-- ---- Tests.

abbrev passed : ℕ → Result Trial Refusal
passed i = Ok T.Passed

abbrev failed : ℕ → Result Trial Refusal
failed i = Ok T.Failed

abbrev failed_at : ℕ → ℕ → Result Trial Refusal
failed_at n i = cond (eqb i n) (Ok T.Failed) (Ok T.Passed)

-- Every way is safe; that of n to the goal is not; that of n to a hint is not.
abbrev free : ℕ → Option ℕ → Result Trial Refusal
free i parent = Ok T.Passed

abbrev goal_not_at : ℕ → ℕ → Option ℕ → Result Trial Refusal
goal_not_at n i None = failed_at n i
goal_not_at n i (Some j) = Ok T.Passed

abbrev hint_not_at : ℕ → ℕ → Option ℕ → Result Trial Refusal
hint_not_at n i None = Ok T.Passed
hint_not_at n i (Some j) = failed_at n i

-- Every child is tried; every child is passed over.
abbrev tried : ℕ → ℕ → Bool
tried child i = true

abbrev passed_over : ℕ → ℕ → Bool
passed_over child i = false

-- ---- Searches.

pub record Both (to_parent : ℕ → Option ℕ → Result Trial Refusal) (from_start : ℕ → Result Trial Refusal) (reaches : ℕ → ℕ → Bool)
    (count budget : ℕ) (first : Option ℕ) (a : Chained) : Type 0 where
  pub machine : stack_search to_parent from_start reaches count budget first ≡ Done a
  pub recursion : recursive_search to_parent from_start reaches count budget first ≡ a

pub record Examples : Type 0 where
  -- One hint that the start reaches: one pop.
  pub one_hint_law : Both free passed tried 1 4096 (Some 0) (Way (0 ∷ []) 1)
  -- One hint that fails, with a budget of 1: no path, and not 11 (RULES 13.20).
  pub one_failed : Both free failed tried 1 1 (Some 0) (NoWay 1)
  pub one_short : Both free failed tried 1 0 (Some 0) (Refused Refusals.Spent 0)
  -- No root, and a first root that no hint has (RULES 13.9).
  pub no_root : Both free failed tried 3 0 None (NoWay 0)
  pub past_end : Both free failed tried 3 4 (Some 7) (NoWay 1)
  -- Root 1 is blocked and root 2 is tried: pops 1, 2, 1, 0 (RULES 13.18, 13.22).
  pub moves_up : Both (goal_not_at 1) passed tried 3 9 (Some 1) (Way (0 ∷ 1 ∷ 2 ∷ []) 4)
  -- Root 2 is blocked and there is none above it (RULES 13.18).
  pub none_above : Both (goal_not_at 2) passed tried 3 9 (Some 2) (NoWay 1)
  -- The children and the own start of root 1 fail, and root 2 is not tried: pops 1, 0, 1 (RULES 13.17, 13.19).
  pub given_up : Both free failed tried 3 9 (Some 1) (NoWay 3)
  -- Child 0 is blocked: pops 1, 0, 1 (RULES 13.11, 13.15, 13.16).
  pub child_blocked : Both (hint_not_at 0) passed tried 2 9 (Some 1) (Way (1 ∷ []) 3)
  -- Child 0 is passed over, and hint 1 is popped again: pops 1, 1 (RULES 13.13, 13.15).
  pub child_passed_over : Both free passed passed_over 2 9 (Some 1) (Way (1 ∷ []) 2)
  -- Child 1 is blocked, child 0 is found: pops 2, 1, 2, 0 (RULES 13.12, 13.15).
  pub second_child : Both (hint_not_at 1) passed tried 3 9 (Some 2) (Way (0 ∷ 2 ∷ []) 4)
  -- The budget is met, and it is one short (RULES 13.21).
  pub met : Both (hint_not_at 0) passed tried 2 3 (Some 1) (Way (1 ∷ []) 3)
  pub short : Both (hint_not_at 0) passed tried 2 2 (Some 1) (Refused Refusals.Spent 2)
  -- A refusal met in a test ends the search (RULES 5.8).
  pub refused : Both free (λ i. Err Refusals.Creep) tried 3 9 (Some 2) (Refused Refusals.Creep 3)
  -- Thirty hints, and the start reaches none: the tree is walked until the budget is spent (RULES 13.21).
  pub spent : Both free failed tried 30 4096 (Some 29) (Refused Refusals.Spent 4096)

pub examples : Examples
unfolding stack_search recursive_search
examples = record {
  one_hint_law = record { machine = refl; recursion = refl };
  one_failed = record { machine = refl; recursion = refl };
  one_short = record { machine = refl; recursion = refl };
  no_root = record { machine = refl; recursion = refl };
  past_end = record { machine = refl; recursion = refl };
  moves_up = record { machine = refl; recursion = refl };
  none_above = record { machine = refl; recursion = refl };
  given_up = record { machine = refl; recursion = refl };
  child_blocked = record { machine = refl; recursion = refl };
  child_passed_over = record { machine = refl; recursion = refl };
  second_child = record { machine = refl; recursion = refl };
  met = record { machine = refl; recursion = refl };
  short = record { machine = refl; recursion = refl };
  refused = record { machine = refl; recursion = refl };
  spent = record { machine = refl; recursion = refl };
}
