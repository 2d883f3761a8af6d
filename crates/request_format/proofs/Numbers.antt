-- A number and its bits, the most significant first: either gives the other.
-- Assumes nothing.
use Prim.Native.Nat.{ℕ, zero, suc, ◌+◌, ◌-◌, ◌*◌, ◌/◌, ◌%◌, ◌^◌, ◌≤◌, ◌<◌}
use mathlib.Core.Path.{◌≡◌, refl, sym, ap, ◌∙◌}
use mathlib.Core.Logic.{⊎_elim}
use mathlib.Core.Bool.{Bool, true, false}
use mathlib.Core.List.{List, [], ◌∷◌, ◌++◌}
use borrow.Author.Tests.{ltb-true, ltb-false}
use native.Mathlib.Nat.{add-zero, div-one, div-div-eq-div-mul, pow-succ', mod-one, mod-eq_of_lt, eq-or-lt_of_le}
use native.Mathlib.Numerals.{add-one}
use native.Mathlib.Omega.{arith}
use lib.Dec.{ltb}
use lib.ListN.{length, get_or, length-append, get_or-append}
use lib.Pow.{mod-pow-add}
use lib.Seq.{get_or-append-add}
use Rattle.request_format.specs.Written.{bits_of}

-- The number of the n bits that f has from `at` on.
unfoldable pub value_of : (ℕ → ℕ) → ℕ → ℕ → ℕ
value_of f at zero = 0
value_of f at (suc n) = 2 * value_of f at n + f (at + n)

-- These bits are what f has from `at` on.
abbrev pub Stands : (ℕ → ℕ) → ℕ → List ℕ → Type 0
Stands f at bits = (j : ℕ) → j < length bits → f (at + j) ≡ get_or bits j 0

-- ---- Bits one behind another: they stand there exactly where each part stands at its place.

module _ (f : ℕ → ℕ) (at to : ℕ) (xs ys : List ℕ) (seam : at + length xs ≡ to) where
  pub front : Stands f at (xs ++ ys) → Stands f at xs
  front there j h = there j (omega (arith, length-append xs ys)) ∙ get_or-append xs ys 0 j h

  pub rest : Stands f at (xs ++ ys) → Stands f to ys
  rest there j h =
      let place : to + j ≡ at + (length xs + j) = omega arith in
      ap f place ∙ there (length xs + j) (omega (arith, length-append xs ys)) ∙ get_or-append-add xs ys j 0

  pub joined : Stands f at xs → Stands f to ys → Stands f at (xs ++ ys)
  joined left right j h = by (ltb j (length xs)) refl
    where
      by : (t : Bool) → ltb j (length xs) ≡ t → f (at + j) ≡ get_or (xs ++ ys) j 0
      by true e =
          let inside : j < length xs = ltb-true j (length xs) e in left j inside ∙ sym (get_or-append xs ys 0 j inside)
      by false e =
          let k = j - length xs in
          let past : length xs ≤ j = ltb-false j (length xs) e in
          let place : at + j ≡ to + k = omega arith in
          let from : j ≡ length xs + k = omega arith in
          ap f place ∙
          right k (omega (arith, length-append xs ys)) ∙
          sym (get_or-append-add xs ys k 0) ∙
          ap (λ i. get_or (xs ++ ys) i 0) (sym from)

-- ---- The bits of a number.

pub length_bits : (n v : ℕ) → length (bits_of n v) ≡ n
unfolding bits_of
length_bits zero v = refl
length_bits (suc n) v = ap suc (length_bits n v)

-- Bit k of n, with e bits behind it.
pub bit_of : (n v k e : ℕ) → n ≡ suc (k + e) → get_or (bits_of n v) k 0 ≡ v / 2 ^ e % 2
unfolding bits_of
bit_of zero v k e h = absurd (omega arith)
bit_of (suc n) v zero e h = let same : n ≡ e = omega arith in ap (λ m. v / 2 ^ m % 2) same
bit_of (suc n) v (suc k) e h = bit_of n v k e (omega arith)

-- The last bit is whether the number is odd, and the others are those of its half.
bits_halved : (n v : ℕ) → bits_of (suc n) v ≡ bits_of n (v / 2) ++ (v % 2 ∷ [])
unfolding bits_of
bits_halved zero v = ap (λ x. x % 2 ∷ []) (div-one v)
bits_halved (suc n) v =
    let half : v / 2 ^ suc n ≡ v / 2 / 2 ^ n = ap (λ x. v / x) (pow-succ' 2 n) ∙ sym (div-div-eq-div-mul v 2 (2 ^ n)) in
    ap (λ x. x % 2 ∷ bits_of (suc n) v) half ∙ ap (λ bs. v / 2 / 2 ^ n % 2 ∷ bs) (bits_halved n v)

-- Where the bits of a number stand, it is read.
pub read_of_bits : (f : ℕ → ℕ) (at n v : ℕ) → v < 2 ^ n → Stands f at (bits_of n v) → value_of f at n ≡ v
unfolding value_of
read_of_bits f at n v h there = by n v there ∙ mod-eq_of_lt h
  where
    by : (m w : ℕ) → Stands f at (bits_of m w) → value_of f at m ≡ w % 2 ^ m
    by zero w there = sym (mod-one w)
    by (suc m) w there =
        let parts : Stands f at (bits_of m (w / 2) ++ (w % 2 ∷ [])) = rw (bits_halved m w) at there in
        let seam : at + length (bits_of m (w / 2)) ≡ at + m = ap (λ k. at + k) (length_bits m (w / 2)) in
        let half = by m (w / 2) (front f at (at + m) (bits_of m (w / 2)) (w % 2 ∷ []) seam parts) in
        let last = rest f at (at + m) (bits_of m (w / 2)) (w % 2 ∷ []) seam parts 0 (omega arith) in
        let whole : w % 2 ^ (m + 1) ≡ (w / 2 % 2 ^ m) * 2 + w % 2 = mod-pow-add w m 1 in
        let end : f (at + m) ≡ w % 2 = ap f (sym (add-zero (at + m))) ∙ last in
        let sum : 2 * value_of f at m + f (at + m) ≡ w % 2 ^ (m + 1) = omega arith in
        sum ∙ ap (λ k. w % 2 ^ k) (add-one m)

module _ (f : ℕ → ℕ) (small : (i : ℕ) → f i < 2) where
  -- The bits of a number are those that it was read from.
  pub bits_of_read : (at n : ℕ) → Stands f at (bits_of n (value_of f at n))
  unfolding value_of
  bits_of_read at zero = λ j h. absurd (omega (arith, length_bits 0 0))
  bits_of_read at (suc n) =
      let v : ℕ = value_of f at n in
      let b : ℕ = f (at + n) in
      let half : (2 * v + b) / 2 ≡ v = omega (arith, small (at + n)) in
      let last : (2 * v + b) % 2 ≡ b = omega (arith, small (at + n)) in
      rw (bits_halved n (2 * v + b), half, last)
      (joined
      f
      at
      (at + n)
      (bits_of n v)
      (b ∷ [])
      (ap (λ k. at + k) (length_bits n v))
      (bits_of_read at n)
      (λ j h. let none : j ≡ 0 = omega arith in rw (none, add-zero (at + n))))

-- ---- Zeros.

pub zeros_read : (f : ℕ → ℕ) (at n : ℕ) → ((j : ℕ) → at ≤ j → f j ≡ 0) → value_of f at n ≡ 0
unfolding value_of
zeros_read f at zero none = refl
zeros_read f at (suc n) none = omega (arith, zeros_read f at n none, none (at + n) (omega arith))

pub zero_bits : (f : ℕ → ℕ) (at n : ℕ) → value_of f at n ≡ 0 → (j : ℕ) → at ≤ j → j < at + n → f j ≡ 0
unfolding value_of
zero_bits f at zero e j h k = absurd (omega arith)
zero_bits f at (suc n) e j h k =
    ⊎_elim
    (λ (l : j ≡ at + n). ap f l ∙ omega arith)
    (λ (l : j < at + n). zero_bits f at n (omega arith) j h l)
    (eq-or-lt_of_le (omega arith))
