-- `path_chains::trying::find_chain` meets its contract: by the first root, which is missing, a hint's, or past the hints.
-- Assumes nothing.
use Prim.Native.Nat.{◌≤◌, ◌<◌}
use mathlib.Core.Path.{refl}
use native.Mathlib.Omega.{arith}
use borrow.Author.Tests.{le-leb, lt-leb, lt-ltb, le-ltb}
use lib.ListN.{length}
use Rattle.hint_list.specs.Words.{hints_in}
use Rattle.hint_list.proofs.Reading.{counted}
use Rattle.path_search.specs.Recursive.{recursive_search}
use Rattle.path_chains.specs.Trying.{chain_from}
use Rattle.path_chains.proofs.trying.find_chain.Goals as goal

pub returns-in_default : goal.returns-in_default
unfolding chain_from recursive_search
returns-in_default c = rw c.in_default.is (record { answer = c.ended.ensures; links = refl })

pub returns-then-root-count_of : goal.returns-then-root-count_of
unfolding chain_from recursive_search
returns-then-root-count_of c =
    let a = c.args in
    let there : c.in-Some.root < length (hints_in a.hints.now) = omega (arith, counted a.hints.now) in
    rw (c.in-Some.is, lt-ltb _ _ there) c.try_roots.ensures

pub returns-then-budget-eq0 : goal.returns-then-budget-eq0
unfolding chain_from recursive_search
returns-then-budget-eq0 c =
    let a = c.args in
    let past : length (hints_in a.hints.now) ≤ c.in-Some.root = omega (arith, counted a.hints.now) in
    let spent : a.budget ≤ 0 = omega arith in
    rw (c.in-Some.is, le-ltb _ _ past, le-leb a.budget 0 spent) (record { answer = c.ended-then-budget-eq0.ensures; links = refl })

pub returns : goal.returns
unfolding chain_from recursive_search
returns c =
    let a = c.args in
    let past : length (hints_in a.hints.now) ≤ c.in-Some.root = omega (arith, counted a.hints.now) in
    let some_left : 0 < a.budget = omega arith in
    rw (c.in-Some.is, le-ltb _ _ past, lt-leb a.budget 0 some_left) (record { answer = c.ended-2.ensures; links = refl })
