-- `one_path::arrival_path::along` meets its contract: two actions for each hint and the last move, or a refusal.
-- Assumes nothing.
use Prim.Native.Nat.{◌≤◌}
use mathlib.Core.Path.{◌≡◌}
use Rattle.std.specs.Prelude.{Err}
use Rattle.std.proofs.Common.{rules}
use native.Mathlib.Omega.{arith}
use Rattle.hint_list.specs.Words.{hints_in}
use Rattle.path_search.specs.Links.{links_in}
use Rattle.path_search.proofs.Links.{few_links}
use Rattle.path_actions.specs.Built.{Built, built, hints_at, unheld}
use Rattle.path_actions.proofs.Counted.{chain_counts}
use Rattle.one_path.specs.Path.{along_hints}
use Rattle.one_path.proofs.Left.{along_refused, along_found}
use Rattle.one_path.proofs.arrival_path.along.Goals as goal
use Rattle.one_path.proofs.arrival_path.along.Goals.{After-links_of-n}

-- There are 64 links at most.
few : (c : After-links_of-n) → c.links_of-n.result ≤ 64
few c = omega (arith, few_links c.args.chain.now, c.links_of-n.ensures)

pub overflow_mul-result : goal.overflow_mul-result
overflow_mul-result c = omega (arith, few (goal.at.overflow_mul-result c).After-links_of-n)

pub overflow_add-result : goal.overflow_add-result
overflow_add-result c = omega (arith, few (goal.at.overflow_add-result c).After-links_of-n)

-- What is built along the chain.
abbrev along : (c : After-links_of-n) → Built
along c =
    let a = c.args in
    built a.trip a.trip.leg.start unheld (hints_at (hints_in a.hints.now) (links_in a.chain.now))

pub returns-in_err-hold : goal.returns-in_err-hold
unfolding along_hints
returns-in_err-hold c =
    let refused : c.from_residual.result ≡ Err c.in_err-hold.field-0.0 = search rules in
    rw refused
    (along_refused (along (goal.at.returns-in_err-hold c).After-links_of-n) c.args.pops c.build.ensures _ c.in_err-hold.was)

pub returns : goal.returns
unfolding along_hints
returns c =
    let a = c.args in
    let counts = rw (← c.links_of-n.ensures) at (chain_counts a.trip (hints_in a.hints.now) (links_in a.chain.now)) in
    along_found (along (goal.at.returns c).After-links_of-n) a.pops c.build.ensures _ _ counts c.in_ok-hold.was
