-- `proximity::detect::by_roots` meets its contract: the radicand, the root and the width are the definition's, with 4 and 2 by
-- their bits.
-- Assumes nothing.
use Rattle.std.proofs.Common.{rules}
use lib.Ieee.{of_bits}
use Rattle.proximity.specs.Proximity.{by_roots}
use Rattle.proximity.proofs.detect.by_roots.Goals as goal

pub returns-then-radicand : goal.returns-then-radicand
unfolding by_roots of_bits
returns-then-radicand c = search rules

pub returns-in_err-s : goal.returns-in_err-s
unfolding by_roots of_bits
returns-in_err-s c = search rules

pub returns-in_err-w : goal.returns-in_err-w
unfolding by_roots of_bits
returns-in_err-w c = search rules

pub returns : goal.returns
unfolding by_roots of_bits
returns c = search rules
