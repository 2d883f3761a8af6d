-- The search as the Rust has it: a loop over a stack of elements, whose top is the list's head (RULES 13.10 to 13.22).
-- Assumes nothing.
use Rattle.std.specs.Prelude.{ℕ, zero, suc, ◌+◌, Bool, true, false, List, [], ◌∷◌, ltb, leb}
use Rattle.std.specs.Prelude.{Option, Some, None}
use Rattle.refusals.specs.declared.Refusal.TheVariants as Refusals
use Rattle.path_search.specs.declared.trial.Trial.{Trial}
use Rattle.path_search.specs.declared.trial.Trial.TheVariants as T
use Rattle.path_search.specs.Answer.{Chained, Way, NoWay, Refused, one_below}
use Rattle.std.specs.Prelude.{Result, Ok, Err}
use Rattle.refusals.specs.declared.Refusal.{Refusal}

-- `ArrivalPathSearchElement`, with its `new`, `tested` and `decrement_child`.
pub record Element : Type 0 where
  pub index : ℕ
  pub child : Option ℕ
  pub tested : Bool

abbrev pub new : ℕ → Element
new i = record { index = i; child = one_below i; tested = false }

abbrev pub with_tested : Element → Element
with_tested e = record { index = e.index; child = e.child; tested = true }

abbrev pub less_child : Option ℕ → Option ℕ
less_child None = None
less_child (Some c) = one_below c

abbrev pub decrement : Element → Element
decrement e = record { index = e.index; child = less_child e.child; tested = e.tested }

-- The index of the stack's last element, which is the parent of one just popped.
abbrev pub last : List Element → Option ℕ
last [] = None
last (e ∷ s) = Some e.index

abbrev pub indices : List Element → List ℕ
indices [] = []
indices (e ∷ s) = e.index ∷ indices s

-- Between two turns of the loop: the stack and the pops made, or the answer.
pub data State : Type 0 where
  Running : List Element → ℕ → State
  Done : Chained → State

abbrev pub higher : Bool → ℕ → List Element
higher true i = new i ∷ []
higher false i = []

-- A child goes on the stack where its reach is at most its parent's (RULES 13.13).
abbrev pub offered : Bool → ℕ → List Element → List Element
offered true c s = new c ∷ s
offered false c s = s

-- By the test of the own start (RULES 13.16, 13.17).
abbrev pub started : Result Trial Refusal → Element → List Element → ℕ → State
started (Ok T.Passed) e s p = Done (Way (indices (e ∷ s)) p)
started (Ok T.Failed) e s p = Running s p
started (Err n) e s p = Done (Refused n p)

-- What is asked of hints: whether one's way to its parent is safe, none standing for the goal (RULES 13.10); whether its own start
-- passes (RULES 13.16); whether a child's reach is at most its parent's (RULES 13.13). There are `count` hints.
module _ (to_parent : ℕ → Option ℕ → Result Trial Refusal) (from_start : ℕ → Result Trial Refusal) (reaches : ℕ → ℕ → Bool) (count budget : ℕ) where
  -- A root that is blocked moves up by one, where there is one more (RULES 13.18).
  abbrev pub root_above : ℕ → List Element → List Element
  root_above i [] = higher (ltb (i + 1) count) (i + 1)
  root_above i (e ∷ s) = e ∷ s

  -- A tested element, by its child (RULES 13.12).
  abbrev pub into : Option ℕ → Element → List Element → ℕ → State
  into (Some c) e s p = Running (offered (reaches c e.index) c (decrement e ∷ s)) p
  into None e s p = started (from_start e.index) e s p

  -- By the test of the way to the parent (RULES 13.11).
  abbrev pub arrived : Result Trial Refusal → Element → List Element → ℕ → State
  arrived (Ok T.Passed) e s p = into e.child (with_tested e) s p
  arrived (Ok T.Failed) e s p = Running (root_above e.index s) p
  arrived (Err n) e s p = Done (Refused n p)

  -- Its way is tested on the first pop alone (RULES 13.15).
  abbrev pub visit : Bool → Element → List Element → ℕ → State
  visit true e s p = into e.child e s p
  visit false e s p = arrived (to_parent e.index (last s)) e s p

  -- An index that no hint has is dropped.
  abbrev pub known : Bool → Element → List Element → ℕ → State
  known true e s p = visit e.tested e s p
  known false e s p = Running s p

  -- A pop is counted, within the budget (RULES 13.21).
  abbrev pub counted : Bool → Element → List Element → ℕ → State
  counted true e s p = Done (Refused Refusals.Spent p)
  counted false e s p = known (ltb e.index count) e s (p + 1)

  -- One turn of the loop. The pop of an empty stack is none (RULES 13.20).
  unfoldable pub step : List Element → ℕ → State
  step [] p = Done (NoWay p)
  step (e ∷ s) p = counted (leb budget p) e s p

  unfoldable pub run : ℕ → State → State
  run zero st = st
  run (suc n) (Done a) = Done a
  run (suc n) (Running s p) = run n (step s p)

  -- The stack before the first pop (RULES 13.9).
  abbrev pub first : Option ℕ → List Element
  first None = []
  first (Some r) = new r ∷ []

  -- The whole search: budget + 1 turns, which are enough (`stack_is_recursion` of proofs/Agree).
  unfoldable pub stack_search : Option ℕ → State
  unfolding step run
  stack_search r = run (budget + 1) (Running (first r) 0)
