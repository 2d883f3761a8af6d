-- The roots of 4, of 2 and of the least double above zero, and what has none, worked out.
-- Assumes nothing.
use mathlib.Core.Path.{◌≡◌, refl}
use mathlib.Core.Bool.{true, false}
use lib.IntN.{pos, negsuc}
use lib.Ieee.{nan, inf, fin, size, of_bits}
use Rattle.root.specs.Digits.{whole_root, root_pattern}
use Rattle.root.specs.Root.{least_units, root_of, no_root}
use Rattle.std.specs.Prelude.{Ok}

pub record Examples : Type 0 where
  pub of_four : root_of (fin false 1 (pos 2)) ≡ Ok (fin false 1 (pos 1))
  pub of_two : root_of (fin false 1 (pos 1)) ≡ Ok (fin false 0x16_a09e_667f_3bcd (negsuc 51))
  pub of_the_least : root_of (fin false 1 (negsuc 1073)) ≡ Ok (fin false 1 (negsuc 536))
  pub of_minus_zero : root_of (fin true 0 (pos 0)) ≡ Ok (fin true 0 (pos 0))
  pub of_minus_one : root_of (fin true 1 (pos 0)) ≡ no_root
  pub of_infinity : root_of (inf false) ≡ no_root
  pub of_nan : root_of nan ≡ no_root

pub examples : Examples
unfolding root_of least_units root_pattern whole_root of_bits size
examples = record {
  of_four = refl;
  of_two = refl;
  of_the_least = refl;
  of_minus_zero = refl;
  of_minus_one = refl;
  of_infinity = refl;
  of_nan = refl;
}
