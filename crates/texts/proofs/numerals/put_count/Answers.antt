-- `texts::numerals::put_count` meets its contract: a space and the digits.
-- Assumes nothing.
use Rattle.texts.specs.Numerals.{count_field}
use Rattle.texts.proofs.Putting.{put_both}
use Rattle.texts.proofs.numerals.put_count.Goals as goal

pub returns : goal.returns
unfolding count_field
returns c =
    let space = c.put_byte-next in
    put_both space.ensures c.put_decimal.ensures
