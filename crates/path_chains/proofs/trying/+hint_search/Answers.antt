-- `path_chains::trying::try_hint`, `try_child` and `try_children`, which call one another, meet their contracts: a hint by its pop and
-- its way to its parent, a child by its reach, the children by the ending of each.
-- Assumes nothing.
use Prim.Native.Nat.{ℕ, ◌+◌, ◌-◌, ◌≤◌, ◌<◌}
use mathlib.Core.Path.{◌≡◌, refl, sym, ◌∙◌}
use mathlib.Core.List.{List}
use native.Mathlib.Omega.{arith}
use borrow.Author.Tests.{le-leb, lt-leb}
use Rattle.std.specs.Prelude.{Ok, ◌⊎◌}
use Rattle.std.proofs.Common.{rules, inl, inr}
use Rattle.table.specs.Obstacle.{Obstacle}
use Rattle.table.specs.Table.{obstacles_in}
use Rattle.hint_list.specs.Words.{hints_in}
use Rattle.hint_list.specs.declared.hint.RankedHint.{RankedHint}
use Rattle.path_tests.specs.declared.trip.Trip.{Trip}
use Rattle.path_search.specs.declared.trial.Trial.TheVariants as T
use Rattle.path_search.specs.declared.tried.Ending.TheVariants as E
use Rattle.path_search.specs.Recursive as R
use Rattle.path_search.specs.Recursive.{Tried, after_child}
use Rattle.path_search.proofs.Steps as S
use Rattle.path_chains.specs.Trying.{to_parent, starts_at, reaches, child_tried, children_tried}
use Rattle.path_chains.proofs.trying.+hint_search.Goals as goal
use Rattle.path_chains.proofs.trying.+hint_search.Goals.{try_children-In-Ok-Blocked}
use Rattle.refusals.specs.declared.Refusal.TheVariants as Refusals

-- ---- A child of a hint.

pub try_child-returns-then-is_in_reach : goal.try_child-returns-then-is_in_reach
unfolding R.try_child
try_child-returns-then-is_in_reach t c = rw (sym c.is_in_reach.ensures ∙ c.if-is_in_reach.true) c.try_hint.ensures

pub try_child-returns : goal.try_child-returns
unfolding R.try_child
try_child-returns t c =
    rw (sym c.is_in_reach.ensures ∙ c.if-is_in_reach.false) (record { answer = c.ended.ensures; links = refl })

-- ---- The children of a hint.

-- The search by the tests of a trip's hints.
module _ (trip : Trip) (os : List Obstacle) (hints : List RankedHint) (budget i : ℕ) where
  abbrev again : ℕ → ℕ → Tried
  again k = S.again (to_parent trip os hints) (starts_at trip os hints) (reaches hints) budget i k

  -- The next child decides.
  next : (k made first : ℕ) → 0 < k →
      children_tried trip os hints budget i k made ≡ children_tried trip os hints budget i i first →
      children_tried trip os hints budget i i first ≡ after_child (child_tried trip os hints budget (k - 1) i made) i (again (k - 1))
  next k made first h kept =
      sym kept ∙ S.children_next (to_parent trip os hints) (starts_at trip os hints) (reaches hints) budget i k made h

  spent : (k pops : ℕ) → budget ≤ pops → again k pops ≡ R.Stopped Refusals.Spent pops
  spent = S.again_spent (to_parent trip os hints) (starts_at trip os hints) (reaches hints) budget i

  on : (k pops : ℕ) → pops < budget → again k pops ≡ children_tried trip os hints budget i k (pops + 1)
  on = S.again_on (to_parent trip os hints) (starts_at trip os hints) (reaches hints) budget i

pub try_children-returns-in-Ok-Found : goal.try_children-returns-in-Ok-Found
try_children-returns-in-Ok-Found t c =
    let a = c.args in
    let found : c.try_child-tried.result.ending ≡ Ok E.Found = search rules in
    let l = c.loop-k in
    let os = obstacles_in a.marks.now a.places.now in
    let hs = hints_in a.hints.now in
    rw (next a.trip os hs a.pops.budget a.i l.k l.made a.pops.made c.loop-k-test.true l.invariant.1, sym l.invariant.0)
    (S.after_found a.i (again a.trip os hs a.pops.budget a.i (l.k - 1)) _ c.try_child-tried.ensures found c.add_link.ensures)

pub try_children-returns-in-Err : goal.try_children-returns-in-Err
try_children-returns-in-Err t c =
    let a = c.args in
    let l = c.loop-k in
    let os = obstacles_in a.marks.now a.places.now in
    let hs = hints_in a.hints.now in
    rw (next a.trip os hs a.pops.budget a.i l.k l.made a.pops.made c.loop-k-test.true l.invariant.1, sym l.invariant.0)
    (S.after_refused a.i (again a.trip os hs a.pops.budget a.i (l.k - 1)) _ _ c.try_child-tried.ensures c.in-Err.is)

-- A child that failed: hint i goes on from the pops made, and the chain is as it was.
failed : (t : ℕ) (c : try_children-In-Ok-Blocked t) →
    let a = c.args in
    let l = c.loop-k in
    let os = obstacles_in a.marks.now a.places.now in
    let hs = hints_in a.hints.now in
    let child = c.try_child-tried in
    (children_tried a.trip os hs a.pops.budget a.i a.i a.pops.made ≡ again a.trip os hs a.pops.budget a.i (l.k - 1) child.result.pops) ×
    (child.new.chain ≡ a.chain.now)
failed t c =
    let a = c.args in
    let l = c.loop-k in
    let os = obstacles_in a.marks.now a.places.now in
    let hs = hints_in a.hints.now in
    let child = c.try_child-tried in
    let go = again a.trip os hs a.pops.budget a.i (l.k - 1) in
    let how : (child.result.ending ≡ Ok E.Blocked) ⊎ (child.result.ending ≡ Ok E.Unreached) = search rules in
    let past : (after_child (child_tried a.trip os hs a.pops.budget (l.k - 1) a.i l.made) a.i go ≡ go child.result.pops) ×
    (child.new.chain ≡ l.chain) =
    elim how [ inl e ↦ S.after_blocked a.i go _ child.ensures e | inr e ↦ S.after_unreached a.i go _ child.ensures e ] in
    (next a.trip os hs a.pops.budget a.i l.k l.made a.pops.made c.loop-k-test.true l.invariant.1 ∙ past.0, past.1 ∙ l.invariant.0)

pub try_children-returns-then-budget-made : goal.try_children-returns-then-budget-made
try_children-returns-then-budget-made t c =
    let a = c.args in
    let l = c.loop-k in
    let os = obstacles_in a.marks.now a.places.now in
    let hs = hints_in a.hints.now in
    let past = failed t (goal.at.try_children-returns-then-budget-made t c).In-Ok-Blocked in
    rw (past.0 ∙ spent a.trip os hs a.pops.budget a.i (l.k - 1) c.try_child-tried.result.pops c.if-budget-made.true)
    (record { answer = c.ended.ensures; links = past.1 })

pub try_children-loop-k-preserved : goal.try_children-loop-k-preserved
try_children-loop-k-preserved t c =
    let a = c.args in
    let l = c.loop-k in
    let os = obstacles_in a.marks.now a.places.now in
    let hs = hints_in a.hints.now in
    let past = failed t (goal.at.try_children-loop-k-preserved t c).In-Ok-Blocked in
    (past.1, sym (past.0 ∙ on a.trip os hs a.pops.budget a.i (l.k - 1) c.try_child-tried.result.pops c.if-budget-made.false))

pub try_children-returns : goal.try_children-returns
try_children-returns t c =
    let a = c.args in
    let l = c.loop-k in
    let os = obstacles_in a.marks.now a.places.now in
    let hs = hints_in a.hints.now in
    let end =
    S.children_end (to_parent a.trip os hs) (starts_at a.trip os hs) (reaches hs) a.pops.budget a.i l.k l.made (omega arith) in
    rw (sym l.invariant.1 ∙ end, sym l.invariant.0) c.try_start.ensures

-- ---- A hint under its parent.

pub try_hint-returns-then-pops : goal.try_hint-returns-then-pops
unfolding R.try_hint
try_hint-returns-then-pops t c = rw (le-leb _ _ c.if-pops.true) (record { answer = c.ended.ensures; links = refl })

pub try_hint-returns-in-Ok-Passed : goal.try_hint-returns-in-Ok-Passed
unfolding R.try_hint
try_hint-returns-in-Ok-Passed t c =
    let tested : c.way_up-trial.result ≡ Ok T.Passed = search rules in
    rw (lt-leb _ _ c.if-pops.false, ← c.way_up-trial.ensures, tested) c.try_children.ensures

pub try_hint-returns-in-Ok-Failed : goal.try_hint-returns-in-Ok-Failed
unfolding R.try_hint
try_hint-returns-in-Ok-Failed t c =
    let tested : c.way_up-trial.result ≡ Ok T.Failed = search rules in
    rw (lt-leb _ _ c.if-pops.false, ← c.way_up-trial.ensures, tested)
    (record { answer = c.ended-in-Ok-Failed.ensures; links = refl })

pub try_hint-returns-in-Err : goal.try_hint-returns-in-Err
unfolding R.try_hint
try_hint-returns-in-Err t c =
    rw (lt-leb _ _ c.if-pops.false, ← c.way_up-trial.ensures, c.in-Err.is)
    (record { answer = c.ended-in-Err.ensures; links = refl })
