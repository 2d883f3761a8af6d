-- `line_proximity::near_line::compute_quadratic_wait_hints` meets its contract: its tests and its roots are the definition's, with 4 and 2 by their bits.
-- Assumes nothing.
use Rattle.std.proofs.Common.{rules}
use lib.Ieee.{of_bits}
use Rattle.line_proximity.specs.NearLine.{near_line}
use Rattle.line_proximity.proofs.near_line.compute_quadratic_wait_hints.Goals as goal

pub returns-then-radicand : goal.returns-then-radicand
unfolding near_line of_bits
returns-then-radicand c = search rules

pub returns-in_err-s : goal.returns-in_err-s
unfolding near_line of_bits
returns-in_err-s c = search rules

pub returns : goal.returns
unfolding near_line of_bits
returns c = search rules
