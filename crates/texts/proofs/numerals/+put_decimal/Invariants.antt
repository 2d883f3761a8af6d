-- A number's tenth is smaller.
-- Assumes nothing.
use Rattle.texts.proofs.numerals.+put_decimal.Given as goal

abbrev pub decreases-put_decimal : goal.decreases-put_decimal
decreases-put_decimal l = l.n
