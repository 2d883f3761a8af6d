-- The index falls as `path_chains::trying::try_hint`, `try_child` and `try_children` call one another: 3i + 1 for hint i, 3k + 2 for
-- child k, 3i for the children of i. The children from the one that the loop is at come to what all come to, and the chain is as it
-- was lent.
-- Assumes nothing.
use Prim.Native.Nat.{◌+◌, ◌*◌}
use mathlib.Core.Path.{◌≡◌}
use Rattle.table.specs.Table.{obstacles_in}
use Rattle.hint_list.specs.Words.{hints_in}
use Rattle.path_chains.specs.Trying.{children_tried}
use Rattle.path_chains.proofs.trying.+hint_search.Given as goal

abbrev pub decreases-try_child : goal.decreases-try_child
decreases-try_child l = 3 * l.child + 2

abbrev pub decreases-try_children : goal.decreases-try_children
decreases-try_children l = 3 * l.i

abbrev pub decreases-try_hint : goal.decreases-try_hint
decreases-try_hint l = 3 * l.i + 1

abbrev pub invariant-try_children-loop-k : goal.invariant-try_children-loop-k
invariant-try_children-loop-k l =
    let os = obstacles_in l.marks l.places in
    let hs = hints_in l.hints in
    (l.chain ≡ l.initial.chain) ×
    (children_tried l.trip os hs l.budget l.i l.k l.made ≡ children_tried l.trip os hs l.budget l.i l.i l.initial.made)
