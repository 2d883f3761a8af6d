-- `IsRoot` allows one answer for each double and no second.
-- Assumes nothing.
use mathlib.Core.Path.{◌≡◌, sym, ap, ◌∙◌}
use mathlib.Core.Bool.{true, false}
use Prim.Native.Nat.{ℕ, zero, suc, ◌+◌, ◌-◌, ◌*◌, ◌≤◌, ◌<◌}
use native.Mathlib.Nat as N
use native.Mathlib.Omega.{arith}
use lib.Ieee.{Float, nan, inf, fin}
use Rattle.root.specs.Root.{least_units, gap_above, gap_below, Encloses, Rounded, IsRoot}
use Rattle.root.proofs.Units.{Short, above, same_double}
use Rattle.root.proofs.Neighbours.{next_above, next_below}
use Rattle.std.specs.Prelude.{Result, Ok}
use Rattle.root.specs.declared.nearest.NoRoot.{NoRoot}

-- The midpoint above the smaller is at most the one below the larger, and no X lies both below and above.
not_both : (X y z : ℕ) → Short y → Short z → Encloses X y → Encloses X z → y < z → ⊥
not_both X y z s t e f h =
    let m : 2 * y + gap_above y ≤ 2 * z - gap_below z = omega (arith, next_above y z s t h, next_below y z s t h) in
    N.not-le_of_lt (N.lt_of_lt_of_le e.upper (N.mul-le-mul m m)) (N.le_of_lt f.lower)

one_enclosed : (X y z : ℕ) → Short y → Short z → Encloses X y → Encloses X z → y ≡ z
one_enclosed X y z s t e f =
    N.le_antisymm (not_above_law (not_both X z y t s f e)) (not_above_law (not_both X y z s t e f))
  where
    not_above_law : {a b : ℕ} → (a < b → ⊥) → b ≤ a
    not_above_law h = omega arith

one_rounded : (x y z : Float) → Rounded x y → Rounded x z → y ≡ z
one_rounded x y z r s =
    let Y = above y r.held r.above_zero in
    let Z = above z s.held s.above_zero in
    same_double y z r.held s.held r.above_zero s.above_zero
    (one_enclosed (least_units x) (least_units y) (least_units z) Y.short Z.short r.nearest s.nearest)

pub only : (x : Float) (r s : Result Float NoRoot) → IsRoot x r → IsRoot x s → r ≡ s
unfolding IsRoot
only nan r s p q = p ∙ sym q
only (inf t) r s p q = p ∙ sym q
only (fin t zero e) r s p q = p ∙ sym q
only (fin true (suc m) e) r s p q = p ∙ sym q
only (fin false (suc m) e) r s p q = p.1 ∙ ap Ok (one_rounded (fin false (suc m) e) p.0 q.0 p.2 q.2) ∙ sym q.1
