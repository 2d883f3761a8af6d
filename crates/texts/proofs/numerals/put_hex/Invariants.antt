-- `texts::numerals::put_hex` meets its contract: at each turn, the last k digits put from here are all 16.
-- Assumes nothing.
use Prim.Native.Nat.{◌+◌, ◌≤◌}
use lib.ListN.{length}
use Rattle.texts.specs.Numerals.{hex_by, hex_of}
use Rattle.texts.proofs.Putting.{Goes}
use Rattle.texts.proofs.numerals.put_hex.Given as goal

abbrev pub invariant-loop-k : goal.invariant-loop-k
invariant-loop-k l = (l.k ≤ 16) × (Goes (hex_by l.k l.w) l.out l.next (hex_of l.w) l.initial.out l.at × (l.k ≤ 15 → l.next ≤ length l.out + 1))
