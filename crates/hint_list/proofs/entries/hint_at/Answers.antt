-- `hint_list::entries::hint_at` meets its contract: what stands behind the hints is blank.
-- Assumes nothing.
use mathlib.Core.Path.{sym}
use lib.Ieee.{of_bits}
use Rattle.hint_list.proofs.Reading.{hint_missing}
use Rattle.hint_list.proofs.entries.hint_at.Goals as goal

pub returns : goal.returns
unfolding of_bits
returns c = sym (hint_missing _ _ (rw (sym c.count_of.ensures) c.if-i-count_of.false))
