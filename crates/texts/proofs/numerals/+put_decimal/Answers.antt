-- `texts::numerals::put_decimal` meets its contract: a number's digits are those of its tenth, and the last.
-- Assumes nothing.
use Rattle.texts.proofs.Digits.{decimal_one, decimal_more}
use Rattle.texts.proofs.Putting.{put_both}
use Rattle.texts.proofs.numerals.+put_decimal.Goals as goal

pub returns-then-n-lt10 : goal.returns-then-n-lt10
returns-then-n-lt10 t c =
    rw (decimal_one c.args.n c.if-n-lt10.true, ← c.glyph_of.ensures) c.put_byte.ensures

pub returns : goal.returns
returns t c =
    let last = rw c.glyph_of-2.ensures at c.put_byte-2.ensures in
    rw (decimal_more c.args.n c.if-n-lt10.false) (put_both c.put_decimal-next.ensures last)
