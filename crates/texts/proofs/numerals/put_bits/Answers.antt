-- `texts::numerals::put_bits` meets its contract: a space and the digits.
-- Assumes nothing.
use Rattle.texts.specs.Numerals.{bits_field}
use Rattle.texts.proofs.Putting.{put_both}
use Rattle.texts.proofs.numerals.put_bits.Goals as goal

pub returns : goal.returns
unfolding bits_field
returns c =
    let space = c.put_byte-next in
    put_both space.ensures c.put_hex.ensures
