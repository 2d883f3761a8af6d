-- `hint_ranking::ranked_hints::place_of` meets its contract: the hints passed and the place among the others make the place.
-- Assumes nothing.
use Prim.Native.Nat.{◌+◌}
use mathlib.Core.Path.{◌≡◌}
use lib.ListN.{take, drop}
use Rattle.hint_list.specs.Words.{hints_in}
use Rattle.hint_ranking.specs.Hints.{rank_of}
use Rattle.hint_ranking.proofs.ranked_hints.place_of.Given as goal

abbrev pub invariant-loop-i : goal.invariant-loop-i
invariant-loop-i l = l.i + rank_of l.h (drop l.i (take l.n (hints_in l.hints))) ≡ rank_of l.h (take l.n (hints_in l.hints))
