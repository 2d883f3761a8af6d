-- `hint_ranking::ranked_hints::is_ranked` meets its contract: at each turn, the test from the hint in front of i on is that of them all.
-- Assumes nothing.
use Prim.Native.Nat.{◌-◌}
use mathlib.Core.Path.{◌≡◌}
use lib.ListN.{drop}
use Rattle.hint_list.specs.Words.{hints_in}
use Rattle.hint_ranking.specs.Ranked.{sorted}
use Rattle.hint_ranking.proofs.ranked_hints.is_ranked.Given as goal

abbrev pub invariant-loop-i : goal.invariant-loop-i
invariant-loop-i l = sorted (drop (l.i - 1) (hints_in l.hints)) ≡ sorted (hints_in l.hints)
