-- `request_format::bits::number_at` meets its contract: after k turns the number is that of the first k bits.
-- Assumes nothing.
use mathlib.Core.Path.{◌≡◌}
use Rattle.request_format.specs.Bits.{number_at}
use Rattle.request_format.proofs.bits.number_at.Given as goal

abbrev pub invariant-loop-k : goal.invariant-loop-k
invariant-loop-k l = l.v ≡ number_at l.s l.at l.k
