-- `plan_exports::arrival_words::put_times` meets its contract: after i turns the words of the first i times stand behind the first two.
-- Assumes nothing.
use mathlib.Core.Path.{◌≡◌}
use mathlib.Core.List.{◌++◌}
use Prim.Native.Nat.{◌+◌}
use lib.ListN.{take}
use Rattle.arrival_times.specs.Words.{words_of}
use Rattle.plan_exports.proofs.arrival_words.put_times.Given as goal

abbrev pub invariant-loop-i : goal.invariant-loop-i
invariant-loop-i l = take (2 + l.i) l.room ≡ take 2 l.initial.room ++ words_of (take l.i l.list)
