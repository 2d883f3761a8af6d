-- `path_actions::building::build` meets its contract: what is built from link k on, behind the rows so far, is the whole.
-- Assumes nothing.
use Rattle.hint_list.specs.Words.{hints_in}
use Rattle.path_search.specs.Links.{links_in}
use Rattle.path_actions.proofs.Built.{Going}
use Rattle.path_actions.proofs.building.build.Given as goal

abbrev pub invariant-loop-k : goal.invariant-loop-k
invariant-loop-k l = Going l.trip (hints_in l.hints) (links_in l.chain) l.initial.out l.initial.at l.from l.hold l.at l.k l.out
