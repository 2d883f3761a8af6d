-- `texts::numerals::put_signed` meets its contract: the digits alone, or those of the number's size behind a minus sign.
-- Assumes nothing.
use native.Mathlib.Omega.{arith}
use Rattle.texts.proofs.Digits.{signed_low, signed_high}
use Rattle.texts.proofs.Putting.{put_both}
use Rattle.texts.proofs.numerals.put_signed.Goals as goal

pub returns-then-w-lt9223372036854775808 : goal.returns-then-w-lt9223372036854775808
returns-then-w-lt9223372036854775808 c =
    let w = c.args.w in
    rw (signed_low w (omega arith)) c.put_decimal.ensures

pub returns : goal.returns
returns c =
    let w = c.args.w in
    rw (signed_high w (omega arith) (omega arith))
    (put_both c.put_byte-next.ensures c.put_decimal-2.ensures)
