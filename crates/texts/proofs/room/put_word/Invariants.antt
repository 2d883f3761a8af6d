-- `texts::room::put_word` meets its contract: at each turn, the word from here on is what is left to put.
-- Assumes nothing.
use Prim.Native.Nat.{◌+◌, ◌≤◌}
use lib.ListN.{length, drop}
use Rattle.texts.proofs.Putting.{Goes}
use Rattle.texts.proofs.room.put_word.Given as goal

abbrev pub invariant-loop-b : goal.invariant-loop-b
invariant-loop-b l = Goes (drop l.b-index l.word) l.out l.next l.word l.initial.out l.at × (l.next ≤ length l.out + 1)
