-- The pops only grow while hints are tried (RULES 13.20).
-- Assumes nothing.
use mathlib.Core.Bool.{Bool, true, false}
use Rattle.std.specs.Prelude.{Option, Some, None}
use Prim.Native.Nat.{ℕ, zero, suc, ◌+◌, ◌≤◌}
use native.Mathlib.Omega.{arith}
use lib.Dec.{leb}
use Rattle.path_search.specs.declared.trial.Trial.{Trial}
use Rattle.path_search.specs.declared.trial.Trial.TheVariants as T
use Rattle.path_search.specs.Answer.{Chained, pops_of}
use Rattle.path_search.specs.Recursive as R
use Rattle.path_search.specs.Recursive.{Tried, Found, Blocked, Unreached, Stopped}
use Rattle.path_search.specs.Recursive.{popped, arrived_by, started_by, offer, after_child, at_root}
use Rattle.path_search.proofs.Pops.{tried_pops}
use Rattle.std.specs.Prelude.{Result, Ok, Err}
use Rattle.refusals.specs.declared.Refusal.{Refusal}

-- No fewer pops after than before.
abbrev pub Grows : (ℕ → Tried) → Type 0
Grows f = (p : ℕ) → p ≤ tried_pops (f p)

pub popped_grows : (spent : Bool) (f : ℕ → Tried) → Grows f → Grows (popped spent f)
popped_grows true f grows p = omega arith
popped_grows false f grows p = omega (arith, grows (p + 1))

pub arrived_grows : (t : Result Trial Refusal) (f : ℕ → Tried) → Grows f → Grows (arrived_by t f)
arrived_grows (Ok T.Passed) f grows p = grows p
arrived_grows (Ok T.Failed) f grows p = omega arith
arrived_grows (Err n) f grows p = omega arith

started_grows : (t : Result Trial Refusal) (i : ℕ) → Grows (started_by t i)
started_grows (Ok T.Passed) i p = omega arith
started_grows (Ok T.Failed) i p = omega arith
started_grows (Err n) i p = omega arith

offer_grows : (b : Bool) (f : ℕ → Tried) → Grows f → Grows (offer b f)
offer_grows true f grows p = grows p
offer_grows false f grows p = omega arith

after_grows : (p : ℕ) (t : Tried) (i : ℕ) (f : ℕ → Tried) → p ≤ tried_pops t → Grows f → p ≤ tried_pops (after_child t i f)
after_grows p (Found l q) i f le grows = le
after_grows p (Blocked q) i f le grows = omega (arith, grows q)
after_grows p (Unreached q) i f le grows = omega (arith, grows q)
after_grows p (Stopped n q) i f le grows = le

rooted_grows : (p : ℕ) (t : Tried) (f : ℕ → Chained) → p ≤ tried_pops t → ((q : ℕ) → q ≤ pops_of (f q)) → p ≤ pops_of (at_root t f)
rooted_grows p (Found l q) f le grows = le
rooted_grows p (Blocked q) f le grows = omega (arith, grows q)
rooted_grows p (Unreached q) f le grows = le
rooted_grows p (Stopped n q) f le grows = le

module _ (to_parent : ℕ → Option ℕ → Result Trial Refusal) (from_start : ℕ → Result Trial Refusal) (reaches : ℕ → ℕ → Bool) (budget : ℕ) where
  abbrev children : ℕ → ℕ → ℕ → Tried
  children = R.try_children to_parent from_start reaches budget

  abbrev hint_by : (ℕ → Tried) → ℕ → Option ℕ → ℕ → Tried
  hint_by = R.hint_by to_parent from_start reaches budget

  abbrev roots : ℕ → ℕ → ℕ → Chained
  roots = R.try_roots to_parent from_start reaches budget

  hint_grows : (i : ℕ) (parent : Option ℕ) (f : ℕ → Tried) → Grows f → Grows (hint_by f i parent)
  hint_grows i parent f grows p =
      let t : Result Trial Refusal = to_parent i parent in popped_grows (leb budget p) (arrived_by t f) (arrived_grows t f grows) p

  pub children_grows : (i k : ℕ) → Grows (children i k)
  unfolding R.try_children
  children_grows i zero p = started_grows (from_start i) i p
  children_grows i (suc k) p =
      let hint : ℕ → Tried = hint_by (children k k) k (Some i) in
      after_grows p (offer (reaches k i) hint p) i (λ q. popped (leb budget q) (children i k) q)
      (offer_grows (reaches k i) hint (hint_grows k (Some i) (children k k) (children_grows k k)) p)
      (λ q. popped_grows (leb budget q) (children i k) (children_grows i k) q)

  pub roots_grow : (n r p : ℕ) → p ≤ pops_of (roots n r p)
  unfolding R.try_roots R.try_hint
  roots_grow zero r p = omega arith
  roots_grow (suc n) r p =
      rooted_grows p (hint_by (children r r) r None p) (roots n (r + 1))
      (hint_grows r None (children r r) (children_grows r r) p)
      (roots_grow n (r + 1))
