-- The stack machine answers what the recursion answers: the chain, or the number of a refusal, and the pops
-- (RULES 13.10 to 13.22, 20.5).
-- Assumes nothing.
use mathlib.Core.Path.{◌≡◌, refl, sym, ap, ◌∙◌}
use mathlib.Core.Bool.{Bool, true, false}
use mathlib.Core.List.{List, [], ◌∷◌, ◌++◌, append_assoc, append-nil}
use Rattle.std.specs.Prelude.{Option, Some, None}
use Prim.Native.Nat.{ℕ, zero, suc, ◌+◌, ◌-◌, ◌≤◌, ◌<◌}
use native.Mathlib.Omega.{arith}
use borrow.Author.Tests.{ltb-true, lt-ltb, le-ltb}
use lib.Dec.{ltb, leb}
use Rattle.path_search.specs.declared.trial.Trial.{Trial}
use Rattle.path_search.specs.declared.trial.Trial.TheVariants as T
use Rattle.path_search.specs.Answer.{Chained, Way, NoWay, Refused, one_below}
use Rattle.path_search.specs.Stack as S
use Rattle.path_search.specs.Stack.{Element, State, Running, Done, new, last, indices, higher, offered, started}
use Rattle.path_search.specs.Recursive as R
use Rattle.path_search.specs.Recursive.{Tried, Found, Blocked, Unreached, Stopped}
use Rattle.path_search.specs.Recursive.{popped, arrived_by, started_by, offer, after_child, at_root}
use Rattle.path_search.proofs.Turns as Turns
use Rattle.std.specs.Prelude.{Result, Ok, Err}
use Rattle.refusals.specs.declared.Refusal.{Refusal}

-- A tested element whose next child is the one below k.
abbrev at : ℕ → ℕ → Element
at i k = record { index = i; child = one_below k; tested = true }

-- Where the machine is once a hint was tried on top of the stack s; b is the stack where the hint was blocked.
abbrev outcome : Tried → List Element → List Element → State
outcome (Found l p) b s = Done (Way (l ++ indices s) p)
outcome (Blocked p) b s = Running b p
outcome (Unreached p) b s = Running s p
outcome (Stopped n p) b s = Done (Refused n p)

module _ (to_parent : ℕ → Option ℕ → Result Trial Refusal) (from_start : ℕ → Result Trial Refusal) (reaches : ℕ → ℕ → Bool) (count budget : ℕ) where
  abbrev climb : ℕ → List Element → List Element
  climb = S.root_above to_parent from_start reaches count budget

  abbrev into : Option ℕ → Element → List Element → ℕ → State
  into = S.into to_parent from_start reaches count budget

  abbrev arrived : Result Trial Refusal → Element → List Element → ℕ → State
  arrived = S.arrived to_parent from_start reaches count budget

  abbrev counted : Bool → Element → List Element → ℕ → State
  counted = S.counted to_parent from_start reaches count budget

  abbrev first : Option ℕ → List Element
  first = S.first to_parent from_start reaches count budget

  abbrev run : ℕ → State → State
  run = S.run to_parent from_start reaches count budget

  abbrev try_children : ℕ → ℕ → ℕ → Tried
  try_children = R.try_children to_parent from_start reaches budget

  abbrev try_hint : ℕ → Option ℕ → ℕ → Tried
  try_hint = R.try_hint to_parent from_start reaches budget

  abbrev try_roots : ℕ → ℕ → ℕ → Chained
  try_roots = R.try_roots to_parent from_start reaches budget

  abbrev recursive_search : Option ℕ → Chained
  recursive_search = R.recursive_search to_parent from_start reaches count budget

  abbrev Ends : State → Chained → Type 0
  Ends = Turns.Ends to_parent from_start reaches count budget

  abbrev step_back : (s : List Element) (p : ℕ) (a : Chained) →
      Ends (S.step to_parent from_start reaches count budget s p) a → Ends (Running s p) a
  step_back = Turns.step_back to_parent from_start reaches count budget

  -- Hint i after a child: it is popped again (RULES 13.15).
  abbrev again : ℕ → ℕ → ℕ → Tried
  again i k p = popped (leb budget p) (try_children i k) p

  again_back : (i k : ℕ) (b s : List Element) (p : ℕ) (a : Chained) → i < count →
      ((q : ℕ) → Ends (outcome (try_children i k q) b s) a → Ends (into (one_below k) (at i k) s q) a) →
      Ends (outcome (again i k p) b s) a → Ends (Running (at i k ∷ s) p) a
  unfolding S.step
  again_back i k b s p a there children h = step_back (at i k ∷ s) p a (by (leb budget p) h)
    where
      by : (c : Bool) → Ends (outcome (popped c (try_children i k) p) b s) a → Ends (counted c (at i k) s p) a
      by true h = h
      by false h = rw (lt-ltb i count there) (children (p + 1) h)

  -- Hint k is popped for the first time, and its way to the parent is tested (RULES 13.10, 13.11).
  hint_back : (k : ℕ) (s : List Element) (p : ℕ) (a : Chained) → k < count →
      ((q : ℕ) → Ends (outcome (try_children k k q) (climb k s) s) a → Ends (into (one_below k) (at k k) s q) a) →
      Ends (outcome (try_hint k (last s) p) (climb k s) s) a → Ends (Running (new k ∷ s) p) a
  unfolding S.step R.try_hint
  hint_back k s p a there children h = step_back (new k ∷ s) p a (by (leb budget p) h)
    where
      asked : (t : Result Trial Refusal) → Ends (outcome (arrived_by t (try_children k k) (p + 1)) (climb k s) s) a →
          Ends (arrived t (new k) s (p + 1)) a
      asked (Ok T.Passed) h = children (p + 1) h
      asked (Ok T.Failed) h = h
      asked (Err n) h = h

      by : (c : Bool) → Ends (outcome (popped c (arrived_by (to_parent k (last s)) (try_children k k)) p) (climb k s) s) a →
          Ends (counted c (new k) s p) a
      by true h = h
      by false h = rw (lt-ltb k count there) (asked (to_parent k (last s)) h)

  -- From what a child of i comes to, to the next turn of i (RULES 13.15, 13.23).
  child_back : (i k : ℕ) (b s : List Element) (a : Chained) →
      ((q : ℕ) → Ends (outcome (again i k q) b s) a → Ends (Running (at i k ∷ s) q) a) →
      (t : Tried) → Ends (outcome (after_child t i (again i k)) b s) a → Ends (outcome t (at i k ∷ s) (at i k ∷ s)) a
  child_back i k b s a next (Found l q) h = ap (λ (m : List ℕ). Way m q) (sym (append_assoc l (i ∷ []) (indices s))) ∙ h
  child_back i k b s a next (Blocked q) h = next q h
  child_back i k b s a next (Unreached q) h = next q h
  child_back i k b s a next (Stopped n q) h = h

  -- A child by its reach (RULES 13.13).
  offer_back : (i k : ℕ) (b s : List Element) (p : ℕ) (a : Chained) →
      ((q : ℕ) → Ends (outcome (again i k q) b s) a → Ends (Running (at i k ∷ s) q) a) →
      (Ends (outcome (try_hint k (Some i) p) (at i k ∷ s) (at i k ∷ s)) a → Ends (Running (new k ∷ at i k ∷ s) p) a) →
      (r : Bool) → Ends (outcome (after_child (offer r (try_hint k (Some i)) p) i (again i k)) b s) a →
      Ends (Running (offered r k (at i k ∷ s)) p) a
  offer_back i k b s p a next hint true h = hint (child_back i k b s a next (try_hint k (Some i) p) h)
  offer_back i k b s p a next hint false h = next p h

  start_back : (i : ℕ) (b s : List Element) (p : ℕ) (a : Chained) (t : Result Trial Refusal) →
      Ends (outcome (started_by t i p) b s) a → Ends (started t (at i 0) s p) a
  start_back i b s p a (Ok T.Passed) h = h
  start_back i b s p a (Ok T.Failed) h = h
  start_back i b s p a (Err n) h = h

  -- The children of i below k, then its own start (RULES 13.12 to 13.16).
  children_back : (i k : ℕ) (b s : List Element) (p : ℕ) (a : Chained) → i < count → k ≤ i →
      Ends (outcome (try_children i k p) b s) a → Ends (into (one_below k) (at i k) s p) a
  unfolding R.try_children R.try_hint
  children_back i zero b s p a there le h = start_back i b s p a (from_start i) h
  children_back i (suc k) b s p a there le h =
      let t : List Element = at i k ∷ s in
      offer_back i k b s p a
      (λ q. again_back i k b s q a there (λ r. children_back i k b s r a there (omega arith)))
      (hint_back k t p a (omega arith) (λ q. children_back k k t t q a (omega arith) (omega arith)))
      (reaches k i)
      h

  -- A root by what it comes to (RULES 13.17 to 13.19).
  root_back : (r : ℕ) (next : ℕ → Chained) (a : Chained) →
      ((q : ℕ) → next q ≡ a → Ends (Running (higher (ltb (r + 1) count) (r + 1)) q) a) →
      (t : Tried) → at_root t next ≡ a → Ends (outcome t (climb r []) []) a
  unfolding S.step
  root_back r next a up (Found l q) h = ap (λ (m : List ℕ). Way m q) (append-nil l) ∙ h
  root_back r next a up (Blocked q) h = up q h
  root_back r next a up (Unreached q) h = step_back [] q a h
  root_back r next a up (Stopped n q) h = h

  roots_back : (n r p : ℕ) (a : Chained) → r + n ≡ count → try_roots n r p ≡ a → Ends (Running (higher (ltb r count) r) p) a
  unfolding S.step R.try_roots
  roots_back zero r p a e h = rw (le-ltb r count (omega arith)) (step_back [] p a h)
  roots_back (suc n) r p a e h =
      rw (lt-ltb r count (omega arith))
      (hint_back r [] p a (omega arith) (λ q. children_back r r (climb r []) [] q a (omega arith) (omega arith))
      (root_back r (try_roots n (r + 1)) a (λ q. roots_back n (r + 1) q a (omega arith)) (try_hint r None p) h))

  past_back : (r : ℕ) → ltb r count ≡ false → (b : Bool) → Ends (counted b (new r) [] 0) (R.past_last_root b)
  unfolding S.step
  past_back r e true = refl
  past_back r e false = rw e (step_back [] 1 (NoWay 1) refl)

  from_back : (r : ℕ) (b : Bool) → ltb r count ≡ b →
      Ends (Running (new r ∷ []) 0) (R.from_root to_parent from_start reaches count budget b r)
  unfolding S.step
  from_back r true e =
      rw e at (roots_back (count - r) r 0 (try_roots (count - r) r 0) (omega (arith, ltb-true r count e)) refl)
  from_back r false e = step_back (new r ∷ []) 0 (R.past_last_root (leb budget 0)) (past_back r e (leb budget 0))

  ends : (r : Option ℕ) → Ends (Running (first r) 0) (recursive_search r)
  unfolding S.step R.recursive_search
  ends None = step_back [] 0 (NoWay 0) refl
  ends (Some r) = from_back r (ltb r count) refl

  -- Any number of turns above the budget gives the recursion's answer,
  pub turns_are_recursion : (r : Option ℕ) (n : ℕ) → budget < n →
      run n (Running (first r) 0) ≡ Done (recursive_search r)
  turns_are_recursion r n more = ends r n (omega arith)

  -- and one more than the budget is such a number.
  pub stack_is_recursion : (r : Option ℕ) →
      S.stack_search to_parent from_start reaches count budget r ≡
      Done (R.recursive_search to_parent from_start reaches count budget r)
  unfolding S.stack_search
  stack_is_recursion r = turns_are_recursion r (budget + 1) (omega arith)
