-- Where the bits of a stream stand, how large they and the numbers of some bits are, and how a number goes on by a bit.
-- Assumes nothing.
use mathlib.Core.Path.{◌≡◌}
use mathlib.Core.List.{List}
use Prim.Native.Nat.{ℕ, zero, suc, ◌+◌, ◌-◌, ◌*◌, ◌/◌, ◌%◌, ◌^◌, ◌<◌, ◌≤◌}
use native.Mathlib.Nat.{mod-lt, zero-div, pow-suc}
use native.Mathlib.Numerals.{add-one}
use native.Mathlib.Omega.{arith}
use lib.Dec.{lit<}
use lib.ListN.{length, get_or, get_or-eq_default}
use lib.Pow.{pow_mono}
use Rattle.request_format.specs.Bits.{bit_at, number_at}

pub bit_lt : (s : List ℕ) (i : ℕ) → bit_at s i < 2
unfolding bit_at
bit_lt s i = mod-lt _ (lit< tt)

pub bit_past : (s : List ℕ) (i : ℕ) → length s ≤ i / 8 → bit_at s i ≡ 0
unfolding bit_at
bit_past s i h = rw (get_or-eq_default s 0 h, zero-div)

-- Bit k of those from `at` on stands so many bytes behind that of `at`,
pub byte_of : (at k : ℕ) → (at + k) / 8 ≡ at / 8 + (at % 8 + k) / 8
byte_of at k = omega arith

-- and is this bit of its byte.
pub bit_from : (s : List ℕ) (at k : ℕ) →
    bit_at s (at + k) ≡ get_or s (at / 8 + (at % 8 + k) / 8) 0 / 2 ^ (7 - (at % 8 + k) % 8) % 2
unfolding bit_at
bit_from s at k =
    let place : (at + k) % 8 ≡ (at % 8 + k) % 8 = omega arith in
    rw (byte_of at k, place)

pub number_lt : (s : List ℕ) (at n : ℕ) → number_at s at n < 2 ^ n
unfolding number_at
number_lt s at zero = lit< tt
number_lt s at (suc n) = omega (arith, number_lt s at n, bit_lt s (at + n), pow-suc 2 n)

pub number_more : (s : List ℕ) (at n : ℕ) → number_at s at (n + 1) ≡ 2 * number_at s at n + bit_at s (at + n)
unfolding number_at
number_more s at n = rw add-one

-- Below 64 bits there is room for one more.
pub number_room : (s : List ℕ) (at n : ℕ) → n < 64 → 2 * number_at s at n + 1 < 2 ^ 64
number_room s at n h =
    let most : 2 ^ n ≤ 2 ^ 63 = pow_mono {i = n} {j = 63} (omega arith) in omega (arith, number_lt s at n)

-- What a bit of a stream is, and what a number with one more of them.
pub ruleset bits_told = (bit_from, bit_past, byte_of)

pub ruleset numbers_told = (number_room, bit_lt, number_more)
