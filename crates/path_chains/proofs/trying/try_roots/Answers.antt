-- `path_chains::trying::try_roots` meets its contract: the search from the root that the loop is at is the search from the first.
-- Assumes nothing.
use Rattle.std.specs.Prelude.{Ok}
use Rattle.std.proofs.Common.{rules}
use mathlib.Core.Bool.{false}
use Rattle.path_search.specs.declared.tried.Ending.TheVariants.{Blocked}
use Prim.Native.Nat.{◌<◌, ◌≤◌}
use mathlib.Core.Path.{◌≡◌, sym, ◌∙◌}
use native.Mathlib.Omega.{arith}
use lib.ListN.{length}
use Rattle.table.specs.Table.{obstacles_in}
use Rattle.hint_list.specs.Words.{hints_in}
use Rattle.hint_list.proofs.Reading.{counted}
use Rattle.path_search.proofs.Steps.{is_blocked, roots_end, root_answers, root_next}
use Rattle.path_chains.specs.Trying.{to_parent, starts_at, reaches}
use Rattle.path_chains.proofs.trying.try_roots.Goals as goal
use Rattle.path_chains.proofs.trying.try_roots.Goals.{After-count_of-count}

-- The loop's bound is the number of hints.
bound : (c : After-count_of-count) →
    length (hints_in c.args.hints.now) ≡ c.count_of-count.result
bound c = counted c.args.hints.now ∙ sym c.count_of-count.ensures

pub returns-then-ne : goal.returns-then-ne
returns-then-ne c =
    let h = c.try_hint-tried in
    let l = c.loop-root in
    let a = c.args in
    let hints = hints_in a.hints.now in
    let there : l.root < length hints = omega (arith, bound (goal.at.returns-then-ne c).After-count_of-count) in
    let other : is_blocked h.result.ending ≡ false = search rules in
    rw (sym l.invariant.1, sym l.invariant.0)
    (root_answers (to_parent a.trip (obstacles_in a.marks.now a.places.now) hints) (starts_at a.trip (obstacles_in a.marks.now a.places.now) hints) (reaches hints) a.budget
    (length hints) l.root l.made there h.ensures other)

pub loop-root-preserved : goal.loop-root-preserved
loop-root-preserved c =
    let h = c.try_hint-tried in
    let l = c.loop-root in
    let a = c.args in
    let hints = hints_in a.hints.now in
    let there : l.root < length hints = omega (arith, bound (goal.at.loop-root-preserved c).After-count_of-count, c.loop-root-test.true) in
    let blocked : h.result.ending ≡ Ok Blocked = search rules in
    let up =
    root_next (to_parent a.trip (obstacles_in a.marks.now a.places.now) hints) (starts_at a.trip (obstacles_in a.marks.now a.places.now) hints) (reaches hints) a.budget
    (length hints) l.root l.made there h.ensures blocked in
    (up.1 ∙ l.invariant.0, sym up.0 ∙ l.invariant.1)

pub returns : goal.returns
returns c =
    let l = c.loop-root in
    let a = c.args in
    let hints = hints_in a.hints.now in
    let past : length hints ≤ l.root = omega (arith, bound (goal.at.returns c).After-count_of-count) in
    let end =
    roots_end (to_parent a.trip (obstacles_in a.marks.now a.places.now) hints) (starts_at a.trip (obstacles_in a.marks.now a.places.now) hints) (reaches hints) a.budget
    (length hints) l.root l.made past in
    rw (sym l.invariant.1 ∙ end) (record { answer = c.ended.ensures; links = l.invariant.0 })
