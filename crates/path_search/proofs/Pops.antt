-- A search, answered or refused, makes at most as many pops as its budget has (RULES 13.21).
-- Assumes nothing.
use mathlib.Core.Path.{◌≡◌, refl}
use mathlib.Core.Bool.{Bool, true, false}
use Rattle.std.specs.Prelude.{Option, Some, None}
use Prim.Native.Nat.{ℕ, zero, suc, ◌+◌, ◌-◌, ◌≤◌}
use native.Mathlib.Omega.{arith}
use borrow.Author.Tests.{leb-false}
use lib.Dec.{ltb, leb}
use Rattle.path_search.specs.declared.trial.Trial.{Trial}
use Rattle.path_search.specs.declared.trial.Trial.TheVariants as T
use Rattle.path_search.specs.Answer.{Chained, pops_of}
use Rattle.path_search.specs.Stack as S
use Rattle.path_search.specs.Recursive as R
use Rattle.path_search.specs.Recursive.{Tried, Found, Blocked, Unreached, Stopped}
use Rattle.path_search.specs.Recursive.{popped, arrived_by, started_by, offer, after_child, at_root}
use Rattle.path_search.proofs.Agree.{stack_is_recursion}
use Rattle.std.specs.Prelude.{Result, Ok, Err}
use Rattle.refusals.specs.declared.Refusal.{Refusal}

-- The pops made once a hint was tried.
abbrev pub tried_pops : Tried → ℕ
tried_pops (Found l p) = p
tried_pops (Blocked p) = p
tried_pops (Unreached p) = p
tried_pops (Stopped n p) = p

module _ (budget : ℕ) where
  abbrev Within : Tried → Type 0
  Within t = tried_pops t ≤ budget

  -- Within the budget before, and so after.
  abbrev Keeps : (ℕ → Tried) → Type 0
  Keeps f = (p : ℕ) → p ≤ budget → Within (f p)

  popped_within : (f : ℕ → Tried) → Keeps f → Keeps (λ p. popped (leb budget p) f p)
  popped_within f keeps p le = by (leb budget p) refl
    where
      by : (spent : Bool) → leb budget p ≡ spent → Within (popped spent f p)
      by true e = le
      by false e = keeps (p + 1) (omega (arith, leb-false budget p e))

  arrived_within : (t : Result Trial Refusal) (f : ℕ → Tried) → Keeps f → Keeps (arrived_by t f)
  arrived_within (Ok T.Passed) f keeps p le = keeps p le
  arrived_within (Ok T.Failed) f keeps p le = le
  arrived_within (Err n) f keeps p le = le

  started_within : (t : Result Trial Refusal) (i : ℕ) → Keeps (started_by t i)
  started_within (Ok T.Passed) i p le = le
  started_within (Ok T.Failed) i p le = le
  started_within (Err n) i p le = le

  offer_within : (b : Bool) (f : ℕ → Tried) → Keeps f → Keeps (offer b f)
  offer_within true f keeps p le = keeps p le
  offer_within false f keeps p le = le

  after_within : (t : Tried) (i : ℕ) (f : ℕ → Tried) → Within t → Keeps f → Within (after_child t i f)
  after_within (Found l p) i f le keeps = le
  after_within (Blocked p) i f le keeps = keeps p le
  after_within (Unreached p) i f le keeps = keeps p le
  after_within (Stopped n p) i f le keeps = le

  rooted_within : (t : Tried) (f : ℕ → Chained) → Within t →
      ((p : ℕ) → p ≤ budget → pops_of (f p) ≤ budget) → pops_of (at_root t f) ≤ budget
  rooted_within (Found l p) f le keeps = le
  rooted_within (Blocked p) f le keeps = keeps p le
  rooted_within (Unreached p) f le keeps = le
  rooted_within (Stopped n p) f le keeps = le

  past_within : (spent : Bool) → leb budget 0 ≡ spent → pops_of (R.past_last_root spent) ≤ budget
  past_within true e = omega arith
  past_within false e = omega (arith, leb-false budget 0 e)

  module _ (to_parent : ℕ → Option ℕ → Result Trial Refusal) (from_start : ℕ → Result Trial Refusal) (reaches : ℕ → ℕ → Bool) where
    abbrev children : ℕ → ℕ → ℕ → Tried
    children = R.try_children to_parent from_start reaches budget

    abbrev hint_by : (ℕ → Tried) → ℕ → Option ℕ → ℕ → Tried
    hint_by = R.hint_by to_parent from_start reaches budget

    abbrev roots : ℕ → ℕ → ℕ → Chained
    roots = R.try_roots to_parent from_start reaches budget

    hint_within : (i : ℕ) (parent : Option ℕ) (f : ℕ → Tried) → Keeps f → Keeps (hint_by f i parent)
    hint_within i parent f keeps =
        popped_within (arrived_by (to_parent i parent) f) (arrived_within (to_parent i parent) f keeps)

    children_within : (i k : ℕ) → Keeps (children i k)
    unfolding R.try_children
    children_within i zero p le = started_within (from_start i) i p le
    children_within i (suc k) p le =
        let hint : ℕ → Tried = hint_by (children k k) k (Some i) in
        after_within (offer (reaches k i) hint p) i (λ q. popped (leb budget q) (children i k) q)
        (offer_within (reaches k i) hint (hint_within k (Some i) (children k k) (children_within k k)) p le)
        (popped_within (children i k) (children_within i k))

    roots_within : (n r p : ℕ) → p ≤ budget → pops_of (roots n r p) ≤ budget
    unfolding R.try_roots R.try_hint
    roots_within zero r p le = le
    roots_within (suc n) r p le =
        rooted_within (hint_by (children r r) r None p) (roots n (r + 1))
        (hint_within r None (children r r) (children_within r r) p le)
        (roots_within n (r + 1))

    module _ (count : ℕ) where
      from_within : (b : Bool) (r : ℕ) → pops_of (R.from_root to_parent from_start reaches count budget b r) ≤ budget
      from_within true r = roots_within (count - r) r 0 (omega arith)
      from_within false r = past_within (leb budget 0) refl

      pub pops_within : (r : Option ℕ) → pops_of (R.recursive_search to_parent from_start reaches count budget r) ≤ budget
      unfolding R.recursive_search
      pops_within None = omega arith
      pops_within (Some r) = from_within (ltb r count) r

      -- The same of the stack machine.
      pub stack_within : (r : Option ℕ) (a : Chained) →
          S.stack_search to_parent from_start reaches count budget r ≡ S.Done a → pops_of a ≤ budget
      stack_within r a e =
          let answer : R.recursive_search to_parent from_start reaches count budget r ≡ a =
          cc (stack_is_recursion to_parent from_start reaches count budget r)
          in rw answer at (pops_within r)
