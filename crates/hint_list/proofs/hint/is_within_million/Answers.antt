-- `hint_list::hint::is_within_million` meets its contract: it is the range's test, with the definition's ends.
-- Assumes nothing.
use lib.Ieee
use Rattle.hint_list.specs.Hint.{is_within_million}
use Rattle.hint_list.proofs.hint.is_within_million.Goals as goal

pub returns : goal.returns
unfolding is_within_million Ieee.of_bits Ieee.of_int
returns c = c.is_between.ensures
