-- `conflicts::conflict::is_closing` meets its contract: it is the definition, with 2 and -1e-6 by their bits.
-- Assumes nothing.
use mathlib.Core.Path.{refl}
use lib.Ieee.{of_bits, neg}
use Rattle.conflicts.proofs.conflict.is_closing.Goals as goal

pub returns : goal.returns
unfolding of_bits neg
returns c = refl
