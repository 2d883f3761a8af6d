-- A double above zero as a whole number of units: at most 53 digits with zeros behind them, and the number says which double it is.
-- Assumes nothing.
use mathlib.Core.Path.{◌≡◌, refl, sym, ap, ◌∙◌}
use mathlib.Core.Bool.{Bool, true, false, ◌&&◌}
use Prim.Native.Nat.{ℕ, zero, suc, ◌+◌, ◌-◌, ◌*◌, ◌/◌, ◌%◌, ◌^◌, ◌≤◌, ◌<◌}
use native.Mathlib.Nat as N
use native.Mathlib.Omega.{arith}
use lib.IntN.{ℤ, pos, negsuc}
use lib.Dec.{T, leb, ltb, eqb, leb→le, ltb→lt}
use lib.Pow.{pow-add, pow_pos, pow-lt}
use lib.Ieee.{Float, nan, inf, fin, binary64, up, down, size, fits, to_bits, of_bits}
use lib.Ieee.Fits.{and_l, and_r, down_pos}
use lib.Ieee.Bits.{of_bits-to_bits}
use lib.Ieee.Exact.{HasValue}
use lib.Ieee.Positive.{den, positive, den_pos, value→cross}
use Rattle.root.specs.Root.{least_units}

-- At most 53 digits, and zeros behind them.
pub record Short (n : ℕ) : Type 0 where
  pub m : ℕ
  pub j : ℕ
  pub is : m * 2 ^ j ≡ n
  pub few : m < 2 ^ 53

-- What `fits` says of a number that is not zero: few digits, no part of a unit, and below 2^1024.
record Held (m : ℕ) (e : ℤ) : Type 0 where
  pub few : m < 2 ^ 53
  pub whole : down e ≤ 2 ^ 1074
  pub under : m * up e < 2 ^ 1024 * down e

held : (s : Bool) (m : ℕ) (e : ℤ) → T (fits binary64 (fin s (suc m) e)) → Held (suc m) e
unfolding fits
held s m e t =
    let a : Bool = eqb (suc m % 2) 1 in
    let b : Bool = ltb (suc m) (2 ^ 53) in
    let c : Bool = leb (down e) (2 ^ 1074) in
    let d : Bool = ltb (suc m * up e) (2 ^ 1024 * down e) in
    let first_three = and_l (a && b && c) d t in
    record {
      few = ltb→lt (suc m) (2 ^ 53) (and_r a b (and_l (a && b) c first_three));
      whole = leb→le (down e) (2 ^ 1074) (and_r (a && b) c first_three);
      under = ltb→lt (suc m * up e) (2 ^ 1024 * down e) (and_r (a && b && c) d t);
    }

exponent_le : (a l : ℕ) → 2 ^ a ≤ 2 ^ l → a ≤ l
exponent_le a l h = N.le_of_suc-le-suc (N.lt_of_not-le (λ (g : suc l ≤ a). N.not-le_of_lt (pow-lt g) h))

-- A power of two that is a whole number of units is 2^j of them.
zeros : (e : ℤ) → down e ≤ 2 ^ 1074 → (j : ℕ) × (up e * 2 ^ 1074 ≡ 2 ^ j * down e)
zeros (pos a) h = (a + 1074, sym (N.mul-one (2 ^ (a + 1074)) ∙ pow-add 2 a 1074))
zeros (negsuc a) h =
    let j = 1074 - suc a in
    (j, N.one-mul (2 ^ 1074) ∙ ap (λ (k : ℕ). 2 ^ k) (sym (N.sub-add_cancel (exponent_le (suc a) 1074 h))) ∙ pow-add 2 j (suc a))

placed : (m : ℕ) (e : ℤ) (h : down e ≤ 2 ^ 1074) → m * up e * 2 ^ 1074 ≡ m * 2 ^ (zeros e h).0 * down e
placed m e h =
    N.mul_assoc m (up e) (2 ^ 1074)
    ∙ ap (λ (k : ℕ). m * k) (zeros e h).1
    ∙ sym (N.mul_assoc m (2 ^ (zeros e h).0) (down e))

in_units : (a d p u : ℕ) → 0 < u → a < p * d → a * u < p * u * d
in_units a d p u h l = omega (arith, N.mul-lt-mul_of_pos_right l h)

-- A double above zero, with its number of units n.
pub record Above (x : Float) (n : ℕ) : Type 0 where
  pub short : Short n
  pub some : 0 < n
  pub under : n < 2 ^ 2098
  pub value : HasValue x false n (2 ^ 1074)

pub above : (x : Float) → T (fits binary64 x) → T (positive x) → Above x (least_units x)
unfolding least_units
above (fin false (suc m) e) f p =
    let h = held false m e f in
    let j = (zeros e h.whole).0 in
    let there = placed (suc m) e h.whole in
    let is = ap (λ (k : ℕ). k / down e) there ∙ N.mul-div_cancel (suc m * 2 ^ j) (down_pos e) in
    record {
      short = record { m = suc m; j = j; is = sym is; few = h.few };
      some = rw is (N.mul-pos (N.zero-lt-suc m) (pow_pos j));
      under = (N.div-lt_iff_lt-mul (down_pos e)).1 (in_units (suc m * up e) (down e) (2 ^ 1024) (2 ^ 1074) (pow_pos 1074) h.under);
      value = (refl, there ∙ ap (λ (k : ℕ). k * down e) (sym is));
    }
above (fin false zero e) f p = absurd p
above (fin true m e) f p = absurd p
above (inf s) f p = absurd p
above nan f p = absurd p

pub units_is : (x : Float) (n : ℕ) → HasValue x false n (2 ^ 1074) → least_units x ≡ n
unfolding least_units
units_is x n h = ap (λ (k : ℕ). k / den x) (value→cross x n (2 ^ 1074) h) ∙ N.mul-div_cancel n (den_pos x)

-- The bits, by the units.
abbrev pub bits : ℕ → ℕ
bits n = (size n - 53) * 2 ^ 52 + n / 2 ^ (size n - 53)

pub bits_is : (x : Float) → T (positive x) → to_bits binary64 x ≡ bits (least_units x)
unfolding to_bits least_units
bits_is (fin false m e) p = omega arith
bits_is (fin true m e) p = absurd p
bits_is (inf s) p = absurd p
bits_is nan p = absurd p

pub same_double : (x y : Float) →
    T (fits binary64 x) → T (fits binary64 y) → T (positive x) → T (positive y) → least_units x ≡ least_units y → x ≡ y
same_double x y f g p q e =
    sym (of_bits-to_bits binary64 x f)
    ∙ ap (of_bits binary64) (bits_is x p ∙ ap bits e ∙ sym (bits_is y q))
    ∙ of_bits-to_bits binary64 y g
