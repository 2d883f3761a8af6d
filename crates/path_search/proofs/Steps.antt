-- The recursion a step at a time, as the code takes it: by the ending that a hint's try hands back, and the chain that it leaves
-- (RULES 13.12 to 13.21).
-- Assumes nothing.
use mathlib.Core.Path.{◌≡◌, refl, sym, ap, ◌∙◌}
use mathlib.Core.Bool.{Bool, true, false, true≢false}
use mathlib.Core.List.{List}
use Rattle.std.specs.Prelude.{Option, Some, None}
use Prim.Native.Nat.{ℕ, zero, suc, ◌+◌, ◌-◌, ◌≤◌, ◌<◌}
use native.Mathlib.Omega.{arith}
use native.Mathlib.Numerals.{sub-one}
use borrow.Author.Tests.{le-leb, lt-leb}
use lib.Dec.{leb}
use Rattle.refusals.specs.declared.Refusal.TheVariants as Refusals
use Rattle.path_search.specs.declared.trial.Trial.{Trial}
use Rattle.path_search.specs.declared.tried.Ending.{Ending}
use Rattle.path_search.specs.declared.tried.Ending.TheVariants as E
use Rattle.path_search.specs.declared.tried.Tried as D
use Rattle.path_search.specs.Answer.{Chained, NoWay}
use Rattle.path_search.specs.Recursive as R
use Rattle.path_search.specs.Recursive.{Tried, Found, Blocked, Unreached, Stopped}
use Rattle.path_search.specs.Recursive.{popped, started_by, after_child, at_root}
use Rattle.path_search.specs.Links.{linked_to}
use Rattle.path_search.specs.Handed.{HandsTried, HandsChain}
use Rattle.path_search.proofs.Links.{linked_more}
use Rattle.std.specs.Prelude.{Result, Ok, Err}
use Rattle.refusals.specs.declared.Refusal.{Refusal}

-- What two endings that differ say.
abbrev kind : Result Ending Refusal → ℕ
kind (Ok E.Found) = 0
kind (Ok E.Blocked) = 1
kind (Ok E.Unreached) = 2
kind (Err n) = 3

clash : {r t : D.Tried} {e : Result Ending Refusal} → r ≡ t → r.ending ≡ e → kind t.ending ≡ kind e
clash h f = sym (ap (λ (a : D.Tried). kind a.ending) h) ∙ ap kind f

-- Whether a root moves up (RULES 13.18).
abbrev pub is_blocked : Result Ending Refusal → Bool
is_blocked (Ok E.Found) = false
is_blocked (Ok E.Blocked) = true
is_blocked (Ok E.Unreached) = false
is_blocked (Err n) = false

-- Any ending but this one.
pub not_blocked : (e : Result Ending Refusal) → (e ≡ Ok E.Blocked → ⊥) → is_blocked e ≡ false
not_blocked (Ok E.Found) other = refl
not_blocked (Ok E.Blocked) other = absurd (other refl)
not_blocked (Ok E.Unreached) other = refl
not_blocked (Err why) other = refl

-- A try that was lent a chain: r is what the code has of it, `left` the chain that it left.
module _ {lent left : List ℕ} {r : D.Tried} where
  -- ---- What follows a child of hint i.

  module _ (i : ℕ) (go : ℕ → Tried) where
    -- A chain gets i as its next link (RULES 13.23).
    pub after_found : (t : Tried) {linked : List ℕ} → HandsTried t lent left r → r.ending ≡ (Ok E.Found) → linked ≡ linked_to left i →
        HandsTried (after_child t i go) lent linked r
    after_found (Found l p) h e f =
        record { answer = h.answer; links = f ∙ ap (λ x. linked_to x i) h.links ∙ sym (linked_more lent l i) }
    after_found (Blocked p) h e f = absurd (omega (arith, clash h.answer e))
    after_found (Unreached p) h e f = absurd (omega (arith, clash h.answer e))
    after_found (Stopped n p) h e f = absurd (omega (arith, clash h.answer e))

    -- A refusal is handed on.
    pub after_refused : (t : Tried) (why : Refusal) → HandsTried t lent left r → r.ending ≡ Err why →
        HandsTried (after_child t i go) lent left r
    after_refused (Found l p) n h e = absurd (omega (arith, clash h.answer e))
    after_refused (Blocked p) n h e = absurd (omega (arith, clash h.answer e))
    after_refused (Unreached p) n h e = absurd (omega (arith, clash h.answer e))
    after_refused (Stopped m p) n h e = record { answer = h.answer; links = h.links }

    -- A child that fails, in either way, is left behind, and the chain is as it was (RULES 13.11, 13.17).
    pub after_blocked : (t : Tried) → HandsTried t lent left r → r.ending ≡ (Ok E.Blocked) →
        (after_child t i go ≡ go r.pops) × (left ≡ lent)
    after_blocked (Found l p) h e = absurd (omega (arith, clash h.answer e))
    after_blocked (Blocked p) h e = (ap (λ (a : D.Tried). go a.pops) (sym h.answer), h.links)
    after_blocked (Unreached p) h e = absurd (omega (arith, clash h.answer e))
    after_blocked (Stopped n p) h e = absurd (omega (arith, clash h.answer e))

    pub after_unreached : (t : Tried) → HandsTried t lent left r → r.ending ≡ (Ok E.Unreached) →
        (after_child t i go ≡ go r.pops) × (left ≡ lent)
    after_unreached (Found l p) h e = absurd (omega (arith, clash h.answer e))
    after_unreached (Blocked p) h e = absurd (omega (arith, clash h.answer e))
    after_unreached (Unreached p) h e = (ap (λ (a : D.Tried). go a.pops) (sym h.answer), h.links)
    after_unreached (Stopped n p) h e = absurd (omega (arith, clash h.answer e))

  -- ---- What follows a root.

  module _ (go : ℕ → Chained) where
    rooted_ends : (t : Tried) → HandsTried t lent left r → is_blocked r.ending ≡ false → HandsChain (at_root t go) lent left r
    rooted_ends (Found l p) h e = h
    rooted_ends (Blocked p) h e = absurd (true≢false (sym (ap (λ (a : D.Tried). is_blocked a.ending) h.answer) ∙ e))
    rooted_ends (Unreached p) h e = h
    rooted_ends (Stopped n p) h e = h

    rooted_blocked : (t : Tried) → HandsTried t lent left r → r.ending ≡ (Ok E.Blocked) → (at_root t go ≡ go r.pops) × (left ≡ lent)
    rooted_blocked (Found l p) h e = absurd (omega (arith, clash h.answer e))
    rooted_blocked (Blocked p) h e = (ap (λ (a : D.Tried). go a.pops) (sym h.answer), h.links)
    rooted_blocked (Unreached p) h e = absurd (omega (arith, clash h.answer e))
    rooted_blocked (Stopped n p) h e = absurd (omega (arith, clash h.answer e))

-- ---- The steps.

module _ (to_parent : ℕ → Option ℕ → Result Trial Refusal) (from_start : ℕ → Result Trial Refusal) (reaches : ℕ → ℕ → Bool) (budget : ℕ) where
  abbrev children : ℕ → ℕ → ℕ → Tried
  children = R.try_children to_parent from_start reaches budget

  abbrev hint : ℕ → Option ℕ → ℕ → Tried
  hint = R.try_hint to_parent from_start reaches budget

  abbrev child : ℕ → ℕ → ℕ → Tried
  child = R.try_child to_parent from_start reaches budget

  -- Hint i is popped again, with its children below k left (RULES 13.15).
  abbrev pub again : ℕ → ℕ → ℕ → Tried
  again i k p = popped (leb budget p) (children i k) p

  -- No child is left (RULES 13.16).
  pub children_end : (i k p : ℕ) → k ≡ 0 → children i k p ≡ started_by (from_start i) i p
  unfolding R.try_children
  children_end i k p e = rw e

  -- The next child is the one below k (RULES 13.12).
  pub children_next : (i k p : ℕ) → 0 < k → children i k p ≡ after_child (child (k - 1) i p) i (again i (k - 1))
  unfolding R.try_children R.try_child
  children_next i zero p left = absurd (omega arith)
  children_next i (suc k) p left = rw (sub-one (suc k))

  -- A pop within the budget, and one that is past it (RULES 13.21).
  pub again_on : (i k p : ℕ) → p < budget → again i k p ≡ children i k (p + 1)
  again_on i k p h = rw (lt-leb budget p h)

  pub again_spent : (i k p : ℕ) → budget ≤ p → again i k p ≡ Stopped Refusals.Spent p
  again_spent i k p h = rw (le-leb budget p h)

  module _ (count : ℕ) where
    -- The roots from r on.
    abbrev roots : ℕ → ℕ → Chained
    roots r p = R.try_roots to_parent from_start reaches budget (count - r) r p

    -- There is none above the last hint (RULES 13.18).
    pub roots_end : (r p : ℕ) → count ≤ r → roots r p ≡ NoWay p
    unfolding R.try_roots
    roots_end r p h = let none_left : count - r ≡ 0 = omega arith in rw none_left

    at_root_law : (r p : ℕ) → r < count → roots r p ≡ at_root (hint r None p) (roots (r + 1))
    unfolding R.try_roots
    at_root_law r p h = let one-here : count - r ≡ suc (count - (r + 1)) = omega arith in rw one-here

    -- Root r is tried, and t is what the code has of it.
    module _ (r p : ℕ) (there : r < count) {lent left : List ℕ} {t : D.Tried} (h : HandsTried (hint r None p) lent left t) where
      -- One that is not blocked ends the search with what it came to (RULES 13.17, 13.19).
      pub root_answers : is_blocked t.ending ≡ false → HandsChain (roots r p) lent left t
      root_answers e = rw (at_root_law r p there) (rooted_ends (roots (r + 1)) (hint r None p) h e)

      -- One that is blocked moves up, and the chain is as it was (RULES 13.18).
      pub root_next : t.ending ≡ (Ok E.Blocked) → (roots r p ≡ roots (r + 1) t.pops) × (left ≡ lent)
      root_next e = rw (at_root_law r p there) (rooted_blocked (roots (r + 1)) (hint r None p) h e)
