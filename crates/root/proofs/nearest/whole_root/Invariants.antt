-- `root::nearest::whole_root` meets its contract: r is always the whole root of the digits that came down, and in the end all of them did.
-- Assumes nothing.
use mathlib.Core.Path.{◌≡◌}
use Prim.Native.Nat.{◌+◌, ◌*◌, ◌^◌, ◌≤◌, ◌<◌}
use Rattle.root.proofs.nearest.whole_root.Given as goal

abbrev pub invariant-loop : goal.invariant-loop
invariant-loop l = record {
  digits : (l.r * l.r + l.over) * 2 ^ 54 + l.rest ≡ l.a * 4 ^ l.counter;
  most : l.over ≤ 2 * l.r;
  left : l.rest < 2 ^ 54;
  places : l.r < 2 ^ l.counter;
  small : l.r < 2 ^ 54;
}
