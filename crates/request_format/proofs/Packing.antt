-- Bits in bytes: a list of bits that is packed is read bit by bit, and bytes are what their bits are packed to.
-- Assumes nothing.
use Prim.Native.Nat.{ℕ, zero, suc, ◌+◌, ◌-◌, ◌*◌, ◌/◌, ◌%◌, ◌^◌, ◌≤◌, ◌<◌}
use mathlib.Core.Path.{◌≡◌, refl, sym, ap, ◌∙◌}
use mathlib.Core.Bool.{Bool, true, false}
use mathlib.Core.List.{List, [], ◌∷◌, ◌++◌}
use borrow.Author.Tests.{ltb-true, ltb-false}
use native.Mathlib.Nat.{le_of_suc-le-suc, zero-add, zero-div}
use native.Mathlib.Omega.{arith}
use lib.Dec.{ltb}
use lib.ListN.{length, get_or, get_or-eq_default}
use lib.Seq.{ext_get_or}
use Rattle.lent.specs.Listed.{listed, every}
use Rattle.lent.proofs.Listed.{length_listed}
use Rattle.times.proofs.Exact.{both}
use Rattle.request_format.specs.Bits.{bit_at, number_at}
use Rattle.request_format.specs.Written.{bits_of, bits_for, number_in, packed}
use Rattle.request_format.proofs.Digits.{bit_lt}
use Rattle.request_format.proofs.Numbers.{
  value_of,
  Stands,
  front,
  rest,
  joined,
  length_bits,
  bit_of,
  read_of_bits,
  bits_of_read,
  zeros_read,
  zero_bits,
}

-- Every byte is below 256.
abbrev pub are_bytes : List ℕ → Bool
are_bytes s = every (λ b. ltb b 256) s

-- Every bit of a list is 0 or 1.
abbrev pub AreBits : List ℕ → Type 0
AreBits bits = (i : ℕ) → get_or bits i 0 < 2

-- ---- Numbers of a stream and of a list of bits, as numbers of what has the bits.

pub number_at_law : (s : List ℕ) (at n : ℕ) → number_at s at n ≡ value_of (bit_at s) at n
unfolding number_at value_of
number_at_law s at zero = refl
number_at_law s at (suc n) = ap (λ v. 2 * v + bit_at s (at + n)) (number_at_law s at n)

number_in_law : (bits : List ℕ) (at n : ℕ) → number_in bits at n ≡ value_of (λ i. get_or bits i 0) at n
unfolding number_in value_of
number_in_law bits at zero = refl
number_in_law bits at (suc n) = ap (λ v. 2 * v + get_or bits (at + n) 0) (number_in_law bits at n)

-- The bits of a number that was read are those of the stream.
pub number_bits : (s : List ℕ) (at n : ℕ) → Stands (bit_at s) at (bits_of n (number_at s at n))
number_bits s at n = rw (number_at_law s at n) (bits_of_read (bit_at s) (bit_lt s) at n)

-- Where the bits of a number stand, it is read.
pub number_read : (s : List ℕ) (at n v : ℕ) → v < 2 ^ n → Stands (bit_at s) at (bits_of n v) → number_at s at n ≡ v
number_read s at n v h there = number_at_law s at n ∙ read_of_bits (bit_at s) at n v h there

-- A field with more behind it, up to bit `to`: it is read,
module _ (s : List ℕ) (at to n v : ℕ) (post : List ℕ) (seam : at + n ≡ to) where
  bits_seam : at + length (bits_of n v) ≡ to
  bits_seam = ap (λ k. at + k) (length_bits n v) ∙ seam

  pub field_read : v < 2 ^ n → Stands (bit_at s) at (bits_of n v ++ post) → number_at s at n ≡ v
  field_read h there = number_read s at n v h (front (bit_at s) at to (bits_of n v) post bits_seam there)

  pub field_passed : Stands (bit_at s) at (bits_of n v ++ post) → Stands (bit_at s) to post
  field_passed there = rest (bit_at s) at to (bits_of n v) post bits_seam there

-- and what is read there stands there.
pub field_there : (s : List ℕ) (at to n : ℕ) (post : List ℕ) →
    at + n ≡ to → Stands (bit_at s) to post → Stands (bit_at s) at (bits_of n (number_at s at n) ++ post)
field_there s at to n post seam behind =
    let v : ℕ = number_at s at n in
    joined (bit_at s) at to (bits_of n v) post (bits_seam s at to n v post seam) (number_bits s at n) behind

-- ---- Which lists are bits.

pub bits_append : (xs ys : List ℕ) → AreBits xs → AreBits ys → AreBits (xs ++ ys)
bits_append [] ys h k i = k i
bits_append (x ∷ xs) ys h k zero = h 0
bits_append (x ∷ xs) ys h k (suc i) = bits_append xs ys (λ j. h (suc j)) k i

pub bits_of_law : (n v : ℕ) → AreBits (bits_of n v)
unfolding bits_of
bits_of_law zero v i = omega arith
bits_of_law (suc n) v zero = omega arith
bits_of_law (suc n) v (suc i) = bits_of_law n v i

pub bits_for_law : {A : Type 0} (f : A → List ℕ) → ((x : A) → AreBits (f x)) → (xs : List A) → AreBits (bits_for f xs)
unfolding bits_for
bits_for_law f h [] i = omega arith
bits_for_law f h (x ∷ xs) i = bits_append (f x) (bits_for f xs) (h x) (bits_for_law f h xs) i

-- ---- Packed bits.

get_d_listed : {A : Type 0} (f : ℕ → A) (n i j : ℕ) (d : A) → j < n → get_or (listed f n i) j d ≡ f (i + j)
unfolding listed
get_d_listed f zero i j d h = absurd (omega arith)
get_d_listed f (suc n) i zero d h = ap f (omega arith)
get_d_listed f (suc n) i (suc j) d h = get_d_listed f n (suc i) j d (le_of_suc-le-suc h) ∙ ap f (omega arith)

pub length_packed : (bits : List ℕ) → length (packed bits) ≡ (length bits + 7) / 8
unfolding packed
length_packed bits = length_listed (λ i. number_in bits (8 * i) 8) ((length bits + 7) / 8) 0

byte_packed : (bits : List ℕ) (j : ℕ) → j < length (packed bits) →
    get_or (packed bits) j 0 ≡ value_of (λ i. get_or bits i 0) (8 * j) 8
unfolding packed
byte_packed bits j h =
    get_d_listed (λ i. number_in bits (8 * i) 8) ((length bits + 7) / 8) 0 j 0 (omega (arith, length_packed bits)) ∙
    ap (λ i. number_in bits (8 * i) 8) (omega arith) ∙
    number_in_law bits (8 * j) 8

-- Bit by bit they are the list that was packed, and zeros behind it.
pub bit_packed : (bits : List ℕ) → AreBits bits → (i : ℕ) → bit_at (packed bits) i ≡ get_or bits i 0
unfolding bit_at
bit_packed bits small i = by (ltb (i / 8) (length (packed bits))) refl
  where
    f : ℕ → ℕ
    f k = get_or bits k 0

    by : (t : Bool) → ltb (i / 8) (length (packed bits)) ≡ t →
        get_or (packed bits) (i / 8) 0 / 2 ^ (7 - i % 8) % 2 ≡ get_or bits i 0
    by true e =
        let byte : ℕ = value_of f (8 * (i / 8)) 8 in
        let place : 8 * (i / 8) + i % 8 ≡ i = omega arith in
        ap (λ b. b / 2 ^ (7 - i % 8) % 2) (byte_packed bits (i / 8) (ltb-true _ _ e)) ∙
        sym (bit_of 8 byte (i % 8) (7 - i % 8) (omega arith)) ∙
        sym (bits_of_read f small (8 * (i / 8)) 8 (i % 8) (omega (arith, length_bits 8 byte))) ∙
        ap f place
    by false e =
        let past : length (packed bits) ≤ i / 8 = ltb-false _ _ e in
        ap (λ b. b / 2 ^ (7 - i % 8) % 2) (get_or-eq_default (packed bits) 0 past) ∙
        ap (λ b. b % 2) (zero-div (2 ^ (7 - i % 8))) ∙
        sym (get_or-eq_default bits 0 (omega (arith, length_packed bits)))

pub packed_stands : (bits : List ℕ) → AreBits bits → Stands (bit_at (packed bits)) 0 bits
packed_stands bits small j h = bit_packed bits small (0 + j) ∙ ap (λ k. get_or bits k 0) (zero-add j)

-- What is read behind the list is 0.
pub packed_fill : (bits : List ℕ) → AreBits bits → (n : ℕ) → number_at (packed bits) (length bits) n ≡ 0
packed_fill bits small n =
    number_at_law (packed bits) (length bits) n ∙
    zeros_read (bit_at (packed bits)) (length bits) n (λ j h. bit_packed bits small j ∙ get_or-eq_default bits 0 h)

-- ---- Bytes.

byte_small : (s : List ℕ) → are_bytes s ≡ true → (j : ℕ) → j < length s → get_or s j 0 < 256
unfolding every
byte_small [] e j h = omega arith
byte_small (b ∷ s) e zero h = ltb-true b 256 (both (ltb b 256) (are_bytes s) e).0
byte_small (b ∷ s) e (suc j) h = byte_small s (both (ltb b 256) (are_bytes s) e).1 j (le_of_suc-le-suc h)

-- The bits of byte j are eight of the stream.
bit_in_byte : (s : List ℕ) (j k : ℕ) → k < 8 → bit_at s (8 * j + k) ≡ get_or (bits_of 8 (get_or s j 0)) k 0
unfolding bit_at
bit_in_byte s j k h =
    let byte : (8 * j + k) / 8 ≡ j = omega arith in
    let place : (8 * j + k) % 8 ≡ k = omega arith in
    rw (byte, place) (sym (bit_of 8 (get_or s j 0) k (7 - k) (omega arith)))

-- Bytes whose bits stand in a list, but for zeros that fill up the last byte, are that list packed.
module _ (s bits : List ℕ) (bytes : are_bytes s ≡ true) (there : Stands (bit_at s) 0 bits)
    (size : length s ≡ (length bits + 7) / 8) (fill : number_at s (length bits) (8 * length s - length bits) ≡ 0) where
  bit_there : (k : ℕ) → k < 8 * length s → get_or bits k 0 ≡ bit_at s k
  bit_there k h = by (ltb k (length bits)) refl
    where
      by : (t : Bool) → ltb k (length bits) ≡ t → get_or bits k 0 ≡ bit_at s k
      by true e = sym (there k (ltb-true k (length bits) e)) ∙ ap (bit_at s) (zero-add k)
      by false e =
          let n : ℕ = 8 * length s - length bits in
          let past : length bits ≤ k = ltb-false k (length bits) e in
          get_or-eq_default bits 0 past ∙
          sym (zero_bits (bit_at s) (length bits) n (sym (number_at_law s (length bits) n) ∙ fill) k past (omega arith))

  byte_bits : (j : ℕ) → j < length s → Stands (λ k. get_or bits k 0) (8 * j) (bits_of 8 (get_or s j 0))
  byte_bits j h k l =
      let eight : k < 8 = omega (arith, length_bits 8 (get_or s j 0)) in
      bit_there (8 * j + k) (omega arith) ∙ bit_in_byte s j k eight

  byte_there : (j : ℕ) → j < length (packed bits) → get_or (packed bits) j 0 ≡ get_or s j 0
  byte_there j h =
      let f : ℕ → ℕ = λ k. get_or bits k 0 in
      let inside : j < length s = omega (arith, length_packed bits) in
      byte_packed bits j h ∙
      read_of_bits f (8 * j) 8 (get_or s j 0) (byte_small s bytes j inside) (byte_bits j inside)

  pub bytes_packed : packed bits ≡ s
  bytes_packed = ext_get_or 0 (packed bits) s (length_packed bits ∙ sym size) byte_there
