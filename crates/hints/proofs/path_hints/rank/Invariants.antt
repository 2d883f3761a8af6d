-- `hints::path_hints::rank` meets its contract: at each turn the hints so far are ranked in front of the others.
-- Assumes nothing.
use Rattle.hints.proofs.Walking.{SoFar}
use Rattle.hints.proofs.path_hints.rank.Given as goal

abbrev pub invariant-loop-i : goal.invariant-loop-i
invariant-loop-i l = SoFar l.scale l.initial.hints l.hints l.i
