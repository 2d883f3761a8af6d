-- How long a line of words can be: none is longer than the first can be, which has 87 bytes.
-- Assumes nothing.
use Prim.Native.Nat.{ℕ, ◌+◌, ◌^◌, ◌≤◌, ◌<◌}
use mathlib.Core.Path.{◌≡◌}
use mathlib.Core.List.{List, [], ◌∷◌, ◌++◌}
use native.Mathlib.Omega.{arith}
use lib.ListN.{length, length-append}
use Rattle.texts.specs.Letters.{bytes_of}
use Rattle.texts.specs.Numerals.{count_field, time_field, bits_field}
use Rattle.texts.proofs.Sizes.{count_short, time_short, bits_length}
use Rattle.reply_lines.specs.Lines.{line, ok_line, path_line, move_line, wait_line, refused_line}

pub length_line : (word fields : List ℕ) → length (word ++ (fields ++ (10 ∷ []))) ≡ length word + length fields + 1
length_line word fields = rw (length-append word (fields ++ (10 ∷ [])), length-append fields (10 ∷ [])) (omega arith)

pub ok_short : (h t s p : ℕ) → h < 2 ^ 64 → t < 2 ^ 64 → s < 2 ^ 64 → p < 2 ^ 64 → length (ok_line h t s p) ≤ 87
unfolding ok_line line bytes_of
ok_short h t s p fh ft fs fp =
    omega (
      arith,
      length_line (111 ∷ (107 ∷ [])) (count_field h ++ (count_field t ++ (count_field s ++ count_field p))),
      length-append (count_field h) (count_field t ++ (count_field s ++ count_field p)),
      length-append (count_field t) (count_field s ++ count_field p),
      length-append (count_field s) (count_field p),
      count_short h fh,
      count_short t ft,
      count_short s fs,
      count_short p fp,
    )

pub path_short : (a p h : ℕ) → a < 2 ^ 64 → p < 2 ^ 64 → h < 2 ^ 64 → length (path_line a p h) ≤ 68
unfolding path_line line bytes_of
path_short a p h fa fp fh =
    omega (
      arith,
      length_line (112 ∷ (97 ∷ (116 ∷ (104 ∷ [])))) (time_field a ++ (count_field p ++ time_field h)),
      length-append (time_field a) (count_field p ++ time_field h),
      length-append (count_field p) (time_field h),
      time_short a fa,
      count_short p fp,
      time_short h fh,
    )

pub move_short : (t x y : ℕ) → t < 2 ^ 64 → length (move_line t x y) ≤ 60
unfolding move_line line bytes_of
move_short t x y ft =
    omega (
      arith,
      length_line (109 ∷ (111 ∷ (118 ∷ (101 ∷ [])))) (time_field t ++ (bits_field x ++ bits_field y)),
      length-append (time_field t) (bits_field x ++ bits_field y),
      length-append (bits_field x) (bits_field y),
      time_short t ft,
      bits_length x,
      bits_length y,
    )

pub wait_short : (o e : ℕ) → o < 2 ^ 64 → e < 2 ^ 64 → length (wait_line o e) ≤ 47
unfolding wait_line line bytes_of
wait_short o e fo fe =
    omega (
      arith,
      length_line (119 ∷ (97 ∷ (105 ∷ (116 ∷ [])))) (count_field o ++ time_field e),
      length-append (count_field o) (time_field e),
      count_short o fo,
      time_short e fe,
    )

pub refused_short : (n : ℕ) → n < 2 ^ 64 → length (refused_line n) ≤ 29
unfolding refused_line line bytes_of
refused_short n fn =
    omega (
      arith,
      length_line (114 ∷ (101 ∷ (102 ∷ (117 ∷ (115 ∷ (101 ∷ (100 ∷ []))))))) (count_field n),
      count_short n fn,
    )
