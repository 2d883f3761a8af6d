-- `texts::numerals::put_hex` meets its contract: at each turn, the last k digits put from here are all 16.
-- Assumes nothing.
use mathlib.Core.Path.{◌≡◌}
use Prim.Native.Nat.{ℕ}
use native.Mathlib.Omega.{arith}
use Rattle.texts.specs.Numerals.{hex_by, hex_of}
use Rattle.texts.proofs.Digits.{hex_next}
use Rattle.texts.proofs.Putting.{goes_all, goes_on, goes_done, put_within}
use Rattle.texts.proofs.numerals.put_hex.Goals as goal

pub loop-k-init : goal.loop-k-init
unfolding hex_of
loop-k-init c =
    let a = c.args in
    (omega arith, (goes_all (hex_of a.w) a.out.now a.at, λ h. absurd (omega arith)))

pub loop-k-preserved : goal.loop-k-preserved
loop-k-preserved c =
    let l = c.loop-k in
    let w : ℕ = c.args.w in
    let put = rw c.glyph_of.ensures at c.put_byte-next.ensures in
    (omega arith, (goes_on (rw (hex_next l.k w (omega arith)) at l.invariant.1.0) put, λ h. put_within put))

pub returns : goal.returns
unfolding hex_by
returns c =
    let l = c.loop-k in
    let none : l.k ≡ 0 = omega arith in
    goes_done (rw none at l.invariant.1.0) (l.invariant.1.1 (omega arith))
