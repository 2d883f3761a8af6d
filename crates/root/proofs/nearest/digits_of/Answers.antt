-- `root::nearest::digits_of` meets its contract: the bits stand for 53 digits as they are, or for fewer that are moved up.
-- Assumes nothing.
use mathlib.Core.Path.{◌≡◌, subst}
use Prim.Native.Nat.{ℕ, ◌+◌, ◌-◌, ◌*◌, ◌/◌, ◌%◌, ◌^◌}
use native.Mathlib.Omega.{arith}
use lib.Pow.{pow-add}
use lib.Ieee.{binary64, of_bits}
use Rattle.root.specs.Digits.{Spells}
use Rattle.root.specs.Root.{least_units}
use Rattle.root.proofs.Units.{units_is}
use Rattle.root.proofs.Patterns.{low_value, high_value}
use Rattle.root.proofs.nearest.digits_of.Goals as goal

pub returns-then-exponent-eq0 : goal.returns-then-exponent-eq0
returns-then-exponent-eq0 c =
    let b = c.args.b in
    let d = c.moved_up.ensures in
    let is : b % 2 ^ 52 ≡ least_units (of_bits binary64 b) = omega (arith, units_is (of_bits binary64 b) b (low_value b (omega arith))) in
    (subst (λ (X : ℕ). Spells X c.moved_up.result.m c.moved_up.result.j) is d.0, omega arith)

pub returns : goal.returns
returns c =
    let b = c.args.b in
    let k = b / 2 ^ 52 - 1 in
    let q = b % 2 ^ 52 + 2 ^ 52 in
    let parts : k * 2 ^ 52 + q ≡ b = omega arith in
    let place : b / 2 ^ 52 + 51 ≡ k + 52 = omega arith in
    let v = high_value k q (omega arith) (omega arith) (omega arith) in
    let is : least_units (of_bits binary64 b) ≡ q * 2 ^ k = rw parts at (units_is (of_bits binary64 (k * 2 ^ 52 + q)) (q * 2 ^ k) v) in
    (record { value = rw (is, place, pow-add 2 k 52) (omega arith); least = omega arith; most = omega arith }, omega arith)
