-- `path_search::tried::links_of` meets its contract: the first word, and 64 where that is more.
-- Assumes nothing.
use native.Mathlib.Omega.{arith}
use Rattle.path_search.proofs.Links.{links_count}
use Rattle.path_search.proofs.tried.links_of.Goals as goal

pub returns-then-n-gt64 : goal.returns-then-n-gt64
returns-then-n-gt64 c = omega (arith, links_count c.args.chain.now)

pub returns : goal.returns
returns c = omega (arith, links_count c.args.chain.now)
