-- A chain that is found goes from the start to the goal: each part of it passed its test, and its hints rise
-- (RULES 13.10 to 13.16).
-- Assumes nothing.
use mathlib.Core.Path.{◌≡◌, refl}
use mathlib.Core.Bool.{Bool, true, false}
use mathlib.Core.List.{List}
use Rattle.std.specs.Prelude.{Option, Some, None}
use Prim.Native.Nat.{ℕ, zero, suc, ◌+◌, ◌-◌, ◌≤◌, ◌<◌}
use native.Mathlib.Omega.{arith}
use borrow.Author.Tests.{ltb-true}
use lib.Dec.{ltb, leb}
use Rattle.path_search.specs.declared.trial.Trial.{Trial}
use Rattle.path_search.specs.declared.trial.Trial.TheVariants as T
use Rattle.path_search.specs.Answer.{Chained, Way, NoWay, Refused}
use Rattle.path_search.specs.Stack as S
use Rattle.path_search.specs.Recursive as R
use Rattle.path_search.specs.Recursive.{Tried, Found, Blocked, Unreached, Stopped}
use Rattle.path_search.specs.Recursive.{popped, arrived_by, started_by, offer, after_child, at_root}
use Rattle.path_search.specs.Safe.{SafeChain, SafeWay, one, more}
use Rattle.path_search.proofs.Agree.{stack_is_recursion}
use Rattle.std.specs.Prelude.{Result, Ok, Err}
use Rattle.refusals.specs.declared.Refusal.{Refusal}

module _ (to_parent : ℕ → Option ℕ → Result Trial Refusal) (from_start : ℕ → Result Trial Refusal) (reaches : ℕ → ℕ → Bool) where
  -- Where a chain was found, it leads safely to i,
  abbrev Safe : ℕ → Tried → Type 0
  Safe i (Found l p) = SafeChain to_parent from_start reaches l i
  Safe i (Blocked p) = Unit {0}
  Safe i (Unreached p) = Unit {0}
  Safe i (Stopped n p) = Unit {0}

  -- and from there to the parent.
  abbrev SafeTo : ℕ → Option ℕ → Tried → Type 0
  SafeTo i parent (Found l p) = SafeChain to_parent from_start reaches l i × (to_parent i parent ≡ (Ok T.Passed))
  SafeTo i parent (Blocked p) = Unit {0}
  SafeTo i parent (Unreached p) = Unit {0}
  SafeTo i parent (Stopped n p) = Unit {0}

  abbrev SafeAnswer : ℕ → Chained → Type 0
  SafeAnswer count (Way l p) = SafeWay to_parent from_start reaches count l
  SafeAnswer count (NoWay p) = Unit {0}
  SafeAnswer count (Refused n p) = Unit {0}

  popped_safe : (i : ℕ) (spent : Bool) (f : ℕ → Tried) (p : ℕ) → ((q : ℕ) → Safe i (f q)) → Safe i (popped spent f p)
  popped_safe i true f p safe = tt
  popped_safe i false f p safe = safe (p + 1)

  popped_to : (i : ℕ) (parent : Option ℕ) (spent : Bool) (f : ℕ → Tried) (p : ℕ) → ((q : ℕ) → SafeTo i parent (f q)) →
      SafeTo i parent (popped spent f p)
  popped_to i parent true f p safe = tt
  popped_to i parent false f p safe = safe (p + 1)

  passed_to : (i : ℕ) (parent : Option ℕ) (t : Tried) → Safe i t → to_parent i parent ≡ (Ok T.Passed) → SafeTo i parent t
  passed_to i parent (Found l p) safe e = (safe, e)
  passed_to i parent (Blocked p) safe e = tt
  passed_to i parent (Unreached p) safe e = tt
  passed_to i parent (Stopped n p) safe e = tt

  arrived_to : (i : ℕ) (parent : Option ℕ) (t : Result Trial Refusal) (f : ℕ → Tried) (p : ℕ) → to_parent i parent ≡ t →
      ((q : ℕ) → Safe i (f q)) → SafeTo i parent (arrived_by t f p)
  arrived_to i parent (Ok T.Passed) f p e safe = passed_to i parent (f p) (safe p) e
  arrived_to i parent (Ok T.Failed) f p e safe = tt
  arrived_to i parent (Err n) f p e safe = tt

  started_safe : (i : ℕ) (t : Result Trial Refusal) (p : ℕ) → from_start i ≡ t → Safe i (started_by t i p)
  started_safe i (Ok T.Passed) p e = one e
  started_safe i (Ok T.Failed) p e = tt
  started_safe i (Err n) p e = tt

  -- The chain of a child k that was tried is one of i, with i behind it (RULES 13.13, 13.14).
  after_safe : (k i : ℕ) (tried : Bool) (f : ℕ → Tried) (p : ℕ) (go : ℕ → Tried) → k < i → reaches k i ≡ tried →
      ((q : ℕ) → SafeTo k (Some i) (f q)) → ((q : ℕ) → Safe i (go q)) → Safe i (after_child (offer tried f p) i go)
  after_safe k i false f p go lower e child safe = safe p
  after_safe k i true f p go lower e child safe = by (f p) (child p)
    where
      by : (t : Tried) → SafeTo k (Some i) t → Safe i (after_child t i go)
      by (Found l q) found = more found.0 lower e found.1
      by (Blocked q) found = safe q
      by (Unreached q) found = safe q
      by (Stopped n q) found = tt

  module _ (budget : ℕ) where
    abbrev children : ℕ → ℕ → ℕ → Tried
    children = R.try_children to_parent from_start reaches budget

    abbrev hint_by : (ℕ → Tried) → ℕ → Option ℕ → ℕ → Tried
    hint_by = R.hint_by to_parent from_start reaches budget

    abbrev roots : ℕ → ℕ → ℕ → Chained
    roots = R.try_roots to_parent from_start reaches budget

    hint_safe : (i : ℕ) (parent : Option ℕ) (f : ℕ → Tried) → ((q : ℕ) → Safe i (f q)) → (p : ℕ) →
        SafeTo i parent (hint_by f i parent p)
    hint_safe i parent f safe p =
        let t : Result Trial Refusal = to_parent i parent in
        popped_to i parent (leb budget p) (arrived_by t f) p (λ q. arrived_to i parent t f q refl safe)

    children_safe : (i k p : ℕ) → k ≤ i → Safe i (children i k p)
    unfolding R.try_children
    children_safe i zero p le = started_safe i (from_start i) p refl
    children_safe i (suc k) p le =
        after_safe k i (reaches k i) (hint_by (children k k) k (Some i)) p (λ q. popped (leb budget q) (children i k) q)
        (omega arith)
        refl
        (hint_safe k (Some i) (children k k) (λ q. children_safe k k q (omega arith)))
        (λ q. popped_safe i (leb budget q) (children i k) q (λ r. children_safe i k r (omega arith)))

    module _ (count : ℕ) where
      rooted_safe : (r : ℕ) (t : Tried) (f : ℕ → Chained) → r < count → SafeTo r None t →
          ((q : ℕ) → SafeAnswer count (f q)) → SafeAnswer count (at_root t f)
      rooted_safe r (Found l p) f there found safe = record { last = r; there = there; chain = found.0; goal = found.1 }
      rooted_safe r (Blocked p) f there found safe = safe p
      rooted_safe r (Unreached p) f there found safe = tt
      rooted_safe r (Stopped n p) f there found safe = tt

      roots_safe : (n r p : ℕ) → r + n ≡ count → SafeAnswer count (roots n r p)
      unfolding R.try_roots R.try_hint
      roots_safe zero r p e = tt
      roots_safe (suc n) r p e =
          rooted_safe r (hint_by (children r r) r None p) (roots n (r + 1))
          (omega arith)
          (hint_safe r None (children r r) (λ q. children_safe r r q (omega arith)) p)
          (λ q. roots_safe n (r + 1) q (omega arith))

      past_safe : (spent : Bool) → SafeAnswer count (R.past_last_root spent)
      past_safe true = tt
      past_safe false = tt

      from_safe : (r : ℕ) (there : Bool) → ltb r count ≡ there →
          SafeAnswer count (R.from_root to_parent from_start reaches count budget there r)
      from_safe r true e = roots_safe (count - r) r 0 (omega (arith, ltb-true r count e))
      from_safe r false e = past_safe (leb budget 0)

      answer_safe : (r : Option ℕ) → SafeAnswer count (R.recursive_search to_parent from_start reaches count budget r)
      unfolding R.recursive_search
      answer_safe None = tt
      answer_safe (Some r) = from_safe r (ltb r count) refl

      pub path_sound : (r : Option ℕ) (l : List ℕ) (p : ℕ) →
          R.recursive_search to_parent from_start reaches count budget r ≡ Way l p → SafeWay to_parent from_start reaches count l
      path_sound r l p e = rw e at (answer_safe r)

      -- The same of the stack machine.
      pub stack_sound : (r : Option ℕ) (l : List ℕ) (p : ℕ) →
          S.stack_search to_parent from_start reaches count budget r ≡ S.Done (Way l p) →
          SafeWay to_parent from_start reaches count l
      stack_sound r l p e = path_sound r l p (cc (stack_is_recursion to_parent from_start reaches count budget r))
