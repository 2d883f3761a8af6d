-- `hint_ranking::ranked_hints::put_in_rank` meets its contract: hints move up one by one, and the hint is put into the gap.
-- Assumes nothing.
use Prim.Native.Nat.{◌≤◌}
use lib.ListN.{take}
use Rattle.hint_list.specs.Words.{hints_in}
use Rattle.hint_ranking.proofs.Places.{HasGap}
use Rattle.hint_ranking.proofs.ranked_hints.put_in_rank.Given as goal

abbrev pub invariant-loop-j : goal.invariant-loop-j
invariant-loop-j l = (l.at ≤ l.j) × HasGap l.initial.hints (take l.n (hints_in l.initial.hints)) l.j l.hints
