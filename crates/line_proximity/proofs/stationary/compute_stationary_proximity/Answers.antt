-- `line_proximity::stationary::compute_stationary_proximity` meets its contract: its tests and its roots are the definition's, with 4 and 2 by their bits.
-- Assumes nothing.
use Rattle.std.proofs.Common.{rules}
use lib.Ieee.{of_bits}
use Rattle.line_proximity.specs.Stationary.{stationary_proximity}
use Rattle.line_proximity.proofs.stationary.compute_stationary_proximity.Goals as goal

pub returns-then-not-radicand : goal.returns-then-not-radicand
unfolding stationary_proximity of_bits
returns-then-not-radicand c = search rules

pub returns-in_err-s : goal.returns-in_err-s
unfolding stationary_proximity of_bits
returns-in_err-s c = search rules

pub returns : goal.returns
unfolding stationary_proximity of_bits
returns c = search rules
