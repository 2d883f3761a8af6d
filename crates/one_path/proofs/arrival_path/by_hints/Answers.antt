-- `one_path::arrival_path::by_hints` meets its contract: none without hints, else what the search from its root comes to.
-- Assumes nothing.
use Prim.Native.Nat.{◌≤◌}
use mathlib.Core.Path.{◌≡◌, sym, ◌∙◌}
use native.Mathlib.Omega.{arith}
use borrow.Author.Tests.{eq-eqb, ne_eqb}
use lib.ListN.{length}
use Rattle.table.specs.Table.{obstacles_in}
use Rattle.hint_list.specs.Words.{hints_in}
use Rattle.hint_list.proofs.Reading.{few, counted}
use Rattle.path_search.proofs.Links.{chain_told}
use Rattle.path_chains.specs.Trying.{chain_from}
use Rattle.path_chains.proofs.Few.{chain_few}
use Rattle.one_path.specs.Path.{by_hints}
use Rattle.one_path.proofs.Left.{put_missing, put_refused}
use Rattle.one_path.proofs.arrival_path.by_hints.Goals as goal
use Rattle.one_path.proofs.arrival_path.by_hints.Goals.{Else-count_of-eq0}

pub returns-then-count_of-eq0 : goal.returns-then-count_of-eq0
unfolding by_hints
returns-then-count_of-eq0 c =
    let words = c.args.hints.now in
    rw (eq-eqb (length (hints_in words)) 0 (omega (arith, counted words))) (put_missing 0)

-- There is a hint.
some : (c : Else-count_of-eq0) →
    let words = c.args.hints.now in
    length (hints_in words) ≡ 0 → ⊥
some c e = omega (arith, counted c.args.hints.now)

pub returns-in-Err : goal.returns-in-Err
unfolding by_hints
returns-in-Err c =
    let words = c.args.hints.now in
    rw (ne_eqb (length (hints_in words)) 0 (some (goal.at.returns-in-Err c).Else-count_of-eq0), sym c.goal_contour.ensures ∙ c.in-Err.is)
    (put_refused _ c.refuse.ensures)

pub returns-in-Ok : goal.returns-in-Ok
unfolding by_hints
returns-in-Ok c =
    let a = c.args in
    let hints = hints_in a.hints.now in
    let os = obstacles_in a.marks.now a.places.now in
    let first = c.first_root-first.result in
    let at_most : length hints ≤ 64 = omega (arith, few a.hints.now, counted a.hints.now) in
    let links = chain_few a.trip os hints a.budget first at_most in
    let told = chain_told (chain_from a.trip os hints a.budget first) c.find_chain-tried.ensures links in
    rw (
      ne_eqb (length hints) 0 (some (goal.at.returns-in-Ok c).Else-count_of-eq0),
      sym c.goal_contour.ensures ∙ c.in-Ok.is,
      ← c.first_root-first.ensures,
    )
    (rw told at c.take.ensures)
