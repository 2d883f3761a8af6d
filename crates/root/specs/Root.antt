-- The root of a double, rounded to the nearest: the property that says which double it is, and the double itself (RULES 6.5).
-- Assumes nothing.
use Rattle.std.specs.Prelude.{◌≡◌, ℕ, zero, suc, ◌+◌, ◌-◌, ◌*◌, ◌/◌, ◌^◌, ◌<◌, true, false, [], ◌∷◌, T, Float, Result, Ok, Err}
use Rattle.std.specs.Float.{nan, inf, fin, binary64}
use Rattle.std.specs.Float.Ieee.{size, fits, of_bits, to_bits}
use Rattle.std.specs.Float.Ieee.Positive.{num, den, positive}
use Rattle.refusals.specs.Names.{NUMBER}
use Rattle.lent.specs.Outcome.{Outcome, Gives, Refuses}
use Rattle.root.specs.Digits.{square, root_pattern}
use Rattle.root.specs.declared.nearest.NoRoot.{NoRoot}

-- A refusal, in the place of any answer.
abbrev pub no_root : {A : Type 0} → Result A NoRoot
no_root = Err (record {})

-- The size of a finite double as a whole number of units of 2^-1074, the least double above zero (IEEE 754, binary64).
unfoldable pub least_units : Float → ℕ
least_units x = num x * 2 ^ 1074 / den x

-- How far above a double of Y units the next one is: one at the last of the 53 digits that a double keeps (IEEE 754, binary64).
abbrev pub gap_above : ℕ → ℕ
gap_above Y = 2 ^ (size Y - 53)

-- How far below it the next one is, which may have a digit less.
abbrev pub gap_below : ℕ → ℕ
gap_below Y = 2 ^ (size (Y - 1) - 53)

-- The squares of the midpoints between Y and its two neighbours enclose X (RULES 6.5). In units the square of Y is X where Y * Y is
-- X * 2^1074, and both sides are taken four times, since a midpoint is half a sum. Neither midpoint is met: there is no tie.
pub record Encloses (X Y : ℕ) : Type 0 where
  pub lower : square (2 * Y - gap_below Y) < 4 * (X * 2 ^ 1074)
  pub upper : 4 * (X * 2 ^ 1074) < square (2 * Y + gap_above Y)

-- The double y is above zero and the root of x.
pub record Rounded (x y : Float) : Type 0 where
  pub held : T (fits binary64 y)
  pub above_zero : T (positive y)
  pub nearest : Encloses (least_units x) (least_units y)

-- The answer that each double has: NaN, an infinity and what is below zero a refusal, a zero itself, all else its root (RULES 6.5).
unfoldable pub IsRoot : Float → Result Float NoRoot → Type 0
IsRoot nan r = r ≡ no_root
IsRoot (inf s) r = r ≡ no_root
IsRoot (fin s zero e) r = r ≡ Ok (fin s zero e)
IsRoot (fin true (suc m) e) r = r ≡ no_root
IsRoot (fin false (suc m) e) r = (y : Float) × (r ≡ Ok y) × Rounded (fin false (suc m) e) y

-- The same answer, worked out.
unfoldable pub root_of : Float → Result Float NoRoot
root_of nan = no_root
root_of (inf s) = no_root
root_of (fin s zero e) = Ok (fin s zero e)
root_of (fin true (suc m) e) = no_root
root_of (fin false (suc m) e) = Ok (of_bits binary64 (root_pattern (least_units (fin false (suc m) e))))

-- Going on with a root; what follows where there is none is said first.
abbrev pub with_root : {A : Type 0} → A → Result Float NoRoot → (Float → A) → A
with_root refused (Ok y) go = go y
with_root refused (Err _) go = refused

-- The word of a root, or the number of the refusal (RULES 4.1).
abbrev pub root_outcome : Result Float NoRoot → Outcome
root_outcome (Ok y) = Gives (to_bits binary64 y ∷ [])
root_outcome (Err _) = Refuses NUMBER
