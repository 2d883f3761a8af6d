-- A search for a chain is refused by 11, or as one of its tests is (RULES 4.11, 13.21, 13.22).
-- Assumes nothing.
use Prim.Native.Nat.{ℕ, zero, suc, ◌+◌, ◌-◌}
use mathlib.Core.Bool.{Bool, true, false}
use Rattle.std.specs.Prelude.{Option, Some, None}
use lib.Dec.{ltb, leb}
use Rattle.path_search.specs.Answer.{Chained, Way, NoWay, Refused}
use Rattle.path_search.specs.Recursive as R
use Rattle.path_search.specs.Recursive.{Tried, Found, Blocked, Unreached, Stopped}
use Rattle.path_search.specs.Recursive.{popped, arrived_by, started_by, offer, after_child, at_root, past_last_root}
use Rattle.path_search.specs.declared.trial.Trial.{Trial}
use Rattle.path_search.specs.declared.trial.Trial.TheVariants as T
use Rattle.std.specs.Prelude.{Result, Ok, Err}
use Rattle.refusals.specs.declared.Refusal.{Refusal}
use Rattle.refusals.specs.declared.Refusal.TheVariants as Refusals

-- A test, and a search, whose refusals are such numbers.
abbrev pub Tests : (Refusal → Type 0) → Result Trial Refusal → Type 0
Tests N (Ok T.Passed) = Unit {0}
Tests N (Ok T.Failed) = Unit {0}
Tests N (Err why) = N why

abbrev pub Searches : (Refusal → Type 0) → Chained → Type 0
Searches N (Way l p) = Unit {0}
Searches N (NoWay p) = Unit {0}
Searches N (Refused why p) = N why

module _ (N : Refusal → Type 0) (eleven : N Refusals.Spent) where
  abbrev Tries : Tried → Type 0
  Tries (Found l p) = Unit {0}
  Tries (Blocked p) = Unit {0}
  Tries (Unreached p) = Unit {0}
  Tries (Stopped why p) = N why

  popped_tries : (spent : Bool) (f : ℕ → Tried) (p : ℕ) → ((q : ℕ) → Tries (f q)) → Tries (popped spent f p)
  popped_tries true f p h = eleven
  popped_tries false f p h = h (p + 1)

  arrived_tries : (t : Result Trial Refusal) (f : ℕ → Tried) (p : ℕ) → Tests N t → ((q : ℕ) → Tries (f q)) →
      Tries (arrived_by t f p)
  arrived_tries (Ok T.Passed) f p test h = h p
  arrived_tries (Ok T.Failed) f p test h = tt
  arrived_tries (Err why) f p test h = test

  started_tries : (t : Result Trial Refusal) (i p : ℕ) → Tests N t → Tries (started_by t i p)
  started_tries (Ok T.Passed) i p test = tt
  started_tries (Ok T.Failed) i p test = tt
  started_tries (Err why) i p test = test

  offered_tries : (tried : Bool) (f : ℕ → Tried) (p : ℕ) → ((q : ℕ) → Tries (f q)) → Tries (offer tried f p)
  offered_tries true f p h = h p
  offered_tries false f p h = tt

  after_tries : (t : Tried) (i : ℕ) (go : ℕ → Tried) → Tries t → ((q : ℕ) → Tries (go q)) → Tries (after_child t i go)
  after_tries (Found l p) i go h next = tt
  after_tries (Blocked p) i go h next = next p
  after_tries (Unreached p) i go h next = next p
  after_tries (Stopped why p) i go h next = h

  rooted_searches : (t : Tried) (go : ℕ → Chained) → Tries t → ((q : ℕ) → Searches N (go q)) → Searches N (at_root t go)
  rooted_searches (Found l p) go h next = tt
  rooted_searches (Blocked p) go h next = next p
  rooted_searches (Unreached p) go h next = tt
  rooted_searches (Stopped why p) go h next = h

  past_searches : (spent : Bool) → Searches N (past_last_root spent)
  past_searches true = eleven
  past_searches false = tt

  module _ (to_parent : ℕ → Option ℕ → Result Trial Refusal) (from_start : ℕ → Result Trial Refusal) (reaches : ℕ → ℕ → Bool)
      (way_tested : (i : ℕ) (parent : Option ℕ) → Tests N (to_parent i parent))
      (start_tested : (i : ℕ) → Tests N (from_start i)) (budget : ℕ) where
    abbrev children : ℕ → ℕ → ℕ → Tried
    children = R.try_children to_parent from_start reaches budget

    abbrev hint_by : (ℕ → Tried) → ℕ → Option ℕ → ℕ → Tried
    hint_by = R.hint_by to_parent from_start reaches budget

    hint_tries : (f : ℕ → Tried) → ((q : ℕ) → Tries (f q)) → (i : ℕ) (parent : Option ℕ) (p : ℕ) → Tries (hint_by f i parent p)
    hint_tries f h i parent p =
        let t : Result Trial Refusal = to_parent i parent in
        popped_tries (leb budget p) (arrived_by t f) p (λ q. arrived_tries t f q (way_tested i parent) h)

    children_try : (i k p : ℕ) → Tries (children i k p)
    unfolding R.try_children
    children_try i zero p = started_tries (from_start i) i p (start_tested i)
    children_try i (suc k) p =
        let child : ℕ → Tried = hint_by (children k k) k (Some i) in
        after_tries (offer (reaches k i) child p) i (λ q. popped (leb budget q) (children i k) q)
        (offered_tries (reaches k i) child p (hint_tries (children k k) (children_try k k) k (Some i)))
        (λ q. popped_tries (leb budget q) (children i k) q (children_try i k))

    roots_search : (n r p : ℕ) → Searches N (R.try_roots to_parent from_start reaches budget n r p)
    unfolding R.try_roots R.try_hint
    roots_search zero r p = tt
    roots_search (suc n) r p =
        rooted_searches (hint_by (children r r) r None p) (R.try_roots to_parent from_start reaches budget n (r + 1))
        (hint_tries (children r r) (children_try r r) r None p)
        (roots_search n (r + 1))

    pub searches : (count : ℕ) (first : Option ℕ) →
        Searches N (R.recursive_search to_parent from_start reaches count budget first)
    unfolding R.recursive_search
    searches count None = tt
    searches count (Some r) = by (ltb r count)
      where
        by : (there : Bool) → Searches N (R.from_root to_parent from_start reaches count budget there r)
        by true = roots_search (count - r) r 0
        by false = past_searches (leb budget 0)
