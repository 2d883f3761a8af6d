-- `texts::numerals::put_time` meets its contract: a space and the digits.
-- Assumes nothing.
use Rattle.texts.specs.Numerals.{time_field}
use Rattle.texts.proofs.Putting.{put_both}
use Rattle.texts.proofs.numerals.put_time.Goals as goal

pub returns : goal.returns
unfolding time_field
returns c =
    let space = c.put_byte-next in
    put_both space.ensures c.put_signed.ensures
