-- `path_search::tried::link_at` meets its contract: the word behind k, and 0 past the links.
-- Assumes nothing.
use mathlib.Core.Path.{sym}
use native.Mathlib.Omega.{arith}
use lib.ListN.{get_or-eq_default}
use Rattle.path_search.specs.Links.{links_in}
use Rattle.path_search.proofs.Links.{links_count, link_there}
use Rattle.path_search.proofs.tried.link_at.Goals as goal

pub offset_bounds-chain-k : goal.offset_bounds-chain-k
offset_bounds-chain-k c = omega (arith, links_count c.args.chain.now)

pub bounds-chain-k : goal.bounds-chain-k
bounds-chain-k c = omega (arith, links_count c.args.chain.now)

pub returns-then-k-links_of : goal.returns-then-k-links_of
returns-then-k-links_of c =
    let a = c.args in
    sym (link_there a.chain.now a.k (omega arith))

pub returns : goal.returns
returns c =
    let a = c.args in
    sym (get_or-eq_default (links_in a.chain.now) 0 (omega arith))
