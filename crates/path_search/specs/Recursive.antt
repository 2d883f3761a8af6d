-- The search as two functions that call one another: trying a hint tries its children, and trying a child is trying a hint
-- (RULES 13.10 to 13.22). No recursive call stands under a test: each is handed on as a function.
-- Assumes nothing.
use Rattle.std.specs.Prelude.{ℕ, zero, suc, ◌+◌, ◌-◌, Bool, true, false, List, [], ◌∷◌, ◌++◌, ltb, leb}
use Rattle.std.specs.Prelude.{Option, Some, None}
use Rattle.refusals.specs.declared.Refusal.TheVariants as Refusals
use Rattle.path_search.specs.declared.trial.Trial.{Trial}
use Rattle.path_search.specs.declared.trial.Trial.TheVariants as T
use Rattle.path_search.specs.Answer.{Chained, Way, NoWay, Refused}
use Rattle.std.specs.Prelude.{Result, Ok, Err}
use Rattle.refusals.specs.declared.Refusal.{Refusal}

-- What trying a hint comes to, with the pops made: the hints from the one that the start reaches to the one tried; its way to its
-- parent is not safe (RULES 13.11); that way is safe and no way to the hint is (RULES 13.17); or a refusal.
pub data Tried : Type 0 where
  Found : List ℕ → ℕ → Tried
  Blocked : ℕ → Tried
  Unreached : ℕ → Tried
  Stopped : Refusal → ℕ → Tried

-- One pop more, within the budget (RULES 13.21).
abbrev pub popped : Bool → (ℕ → Tried) → ℕ → Tried
popped true go p = Stopped Refusals.Spent p
popped false go p = go (p + 1)

-- By the test of the way to the parent (RULES 13.10, 13.11).
abbrev pub arrived_by : Result Trial Refusal → (ℕ → Tried) → ℕ → Tried
arrived_by (Ok T.Passed) go p = go p
arrived_by (Ok T.Failed) go p = Blocked p
arrived_by (Err why) go p = Stopped why p

-- By the test of the own start (RULES 13.16, 13.17).
abbrev pub started_by : Result Trial Refusal → ℕ → ℕ → Tried
started_by (Ok T.Passed) i p = Found (i ∷ []) p
started_by (Ok T.Failed) i p = Unreached p
started_by (Err n) i p = Stopped n p

-- A child is tried where its reach is at most its parent's, and passed over otherwise (RULES 13.13).
abbrev pub offer : Bool → (ℕ → Tried) → ℕ → Tried
offer true go p = go p
offer false go p = Unreached p

-- Hint i after one of its children: a chain gets i as its next link, a failure goes on (RULES 13.15, 13.23).
abbrev pub after_child : Tried → ℕ → (ℕ → Tried) → Tried
after_child (Found l p) i go = Found (l ++ (i ∷ [])) p
after_child (Blocked p) i go = go p
after_child (Unreached p) i go = go p
after_child (Stopped n p) i go = Stopped n p

-- A root: one that is blocked moves up, any other ends the search (RULES 13.17 to 13.19).
abbrev pub at_root : Tried → (ℕ → Chained) → Chained
at_root (Found l p) go = Way l p
at_root (Blocked p) go = go p
at_root (Unreached p) go = NoWay p
at_root (Stopped n p) go = Refused n p

-- A first root that no hint has is popped and dropped.
abbrev pub past_last_root : Bool → Chained
past_last_root true = Refused Refusals.Spent 0
past_last_root false = NoWay 1

-- The tests are those of Stack.
module _ (to_parent : ℕ → Option ℕ → Result Trial Refusal) (from_start : ℕ → Result Trial Refusal) (reaches : ℕ → ℕ → Bool) (budget : ℕ) where
  -- Hint i under its parent, given what its children come to.
  abbrev pub hint_by : (ℕ → Tried) → ℕ → Option ℕ → ℕ → Tried
  hint_by children i parent p = popped (leb budget p) (arrived_by (to_parent i parent) children) p

  -- The children of i below k, the highest first, then the own start. After each child i is popped again (RULES 13.12 to 13.16).
  unfoldable pub try_children : ℕ → ℕ → ℕ → Tried
  try_children i zero p = started_by (from_start i) i p
  try_children i (suc k) p =
      after_child (offer (reaches k i) (hint_by (try_children k k) k (Some i)) p) i
      (λ q. popped (leb budget q) (try_children i k) q)

  unfoldable pub try_hint : ℕ → Option ℕ → ℕ → Tried
  try_hint i parent p = hint_by (try_children i i) i parent p

  -- A child of i, where it is in reach (RULES 13.13).
  unfoldable pub try_child : ℕ → ℕ → ℕ → Tried
  unfolding try_hint
  try_child child i p = offer (reaches child i) (try_hint child (Some i)) p

  -- The roots from r on, n of them (RULES 13.18).
  unfoldable pub try_roots : ℕ → ℕ → ℕ → Chained
  try_roots zero r p = NoWay p
  try_roots (suc n) r p = at_root (try_hint r None p) (try_roots n (r + 1))

module _ (to_parent : ℕ → Option ℕ → Result Trial Refusal) (from_start : ℕ → Result Trial Refusal) (reaches : ℕ → ℕ → Bool) (count budget : ℕ) where
  abbrev pub from_root : Bool → ℕ → Chained
  from_root true r = try_roots to_parent from_start reaches budget (count - r) r 0
  from_root false r = past_last_root (leb budget 0)

  abbrev pub from_first : Option ℕ → Chained
  from_first None = NoWay 0
  from_first (Some r) = from_root (ltb r count) r

  -- The whole search from its first root; `stack_is_recursion` of proofs/Agree says that it is the stack's.
  unfoldable pub recursive_search : Option ℕ → Chained
  unfolding try_children try_hint try_roots
  recursive_search r = from_first r
