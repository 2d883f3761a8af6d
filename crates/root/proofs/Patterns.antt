-- The units that the bits of a finite double from zero up stand for (IEEE 754, binary64).
-- Assumes nothing.
use mathlib.Core.Path.{◌≡◌, subst}
use mathlib.Core.Bool.{false}
use Prim.Native.Nat.{ℕ, suc, ◌+◌, ◌*◌, ◌/◌, ◌%◌, ◌^◌, ◌≤◌, ◌<◌}
use native.Mathlib.Nat.{mul-one}
use native.Mathlib.Omega.{arith}
use borrow.Author.Tests.{lt-leb, ne_eqb}
use lib.Ieee.{binary64, odd, of_fields, of_bits}
use lib.Ieee.Exact.{HasValue, odd_sign}

fields : (b : ℕ) → b < 2 ^ 63 → of_bits binary64 b ≡ of_fields binary64 false (b / 2 ^ 52) (b % 2 ^ 52)
unfolding of_bits
fields b h = let all : b % 2 ^ 63 ≡ b = omega arith in rw (lt-leb (2 ^ 63) b h, all)

-- With the exponent's field 0 the digits are the units.
pub low_value : (t : ℕ) → t < 2 ^ 52 → HasValue (of_bits binary64 t) false t (2 ^ 1074)
unfolding of_fields
low_value t h =
    let none : t / 2 ^ 52 ≡ 0 = omega arith in
    let all : t % 2 ^ 52 ≡ t = omega arith in
    rw (fields t (omega arith), none, all)
    (subst (λ (n : ℕ). HasValue (odd 53 false t 0 1074) false n (2 ^ 1074)) (mul-one t) (odd_sign 53 false t 0 1074))

-- Else 53 digits q stand k places up: the first of them adds one to the field.
pub high_value : (k q : ℕ) → k < 2046 → 2 ^ 52 ≤ q → q < 2 ^ 53 → HasValue (of_bits binary64 (k * 2 ^ 52 + q)) false (q * 2 ^ k) (2 ^ 1074)
unfolding of_fields
high_value k q h lo hi =
    let field : (k * 2 ^ 52 + q) / 2 ^ 52 ≡ suc k = omega arith in
    let first : 2 ^ 52 + (k * 2 ^ 52 + q) % 2 ^ 52 ≡ q = omega arith in
    rw (fields (k * 2 ^ 52 + q) (omega arith), field, ne_eqb (suc k) 2047 (λ e. omega arith), first) (odd_sign 53 false q k 1074)
