-- Words that are copied one after another, from the memory and into it: the crews' come behind the first five.
-- Assumes nothing.
use Prim.Native.Nat.{ℕ, ◌+◌, ◌≤◌, ◌<◌}
use mathlib.Core.Path.{◌≡◌, sym, ap, ◌∙◌}
use mathlib.Core.List.{List, ◌∷◌, ◌++◌, append-nil}
use native.Mathlib.Omega.{arith}
use lib.ListN.{length, take, drop, set, get_or, length-append, length-drop, drop_of_length-le}
use lib.Seq.{length-take-le, get_or-take, get_or-drop, get_or-append-add, take_all}
use Rattle.lent.proofs.Filling.{copied_step}
use Rattle.hold_exports.specs.declared.kept.Spelt.{Spelt}
use Rattle.hold_exports.specs.Memory.{figures_in}

-- A memory that is long enough holds the words of all 64 crews.
pub figures_long : (memory : List ℕ) → 197 ≤ length memory → length (figures_in memory) ≡ 192
unfolding figures_in
figures_long memory long = length-take-le 192 (drop 5 memory) (omega (arith, length-drop 5 memory))

-- One more word copied, and all of them.
copied_next : (words room : List ℕ) (i w : ℕ) → get_or words i 0 ≡ w → i < length words → i < length room →
    set (take i words ++ drop i room) i w ≡ take (i + 1) words ++ drop (i + 1) room
copied_next words room i w e h k =
    ap (λ (x : ℕ). set (take i words ++ drop i room) i x) (sym e) ∙ copied_step words room i h k

pub copied_all : (words room : List ℕ) (i : ℕ) → length words ≤ i → length room ≤ i → take i words ++ drop i room ≡ words
copied_all words room i all whole = rw (take_all i words all, drop_of_length-le room {i = i} whole, append-nil)

figure_at : (memory : List ℕ) (i : ℕ) → i < 192 → get_or (figures_in memory) i 0 ≡ get_or memory (5 + i) 0
unfolding figures_in
figure_at memory i inside = get_or-take 192 (drop 5 memory) i 0 inside ∙ get_or-drop 5 memory i 0

-- A word more from the memory.
pub taken_next : (memory room : List ℕ) (i : ℕ) → 197 ≤ length memory → length room ≡ 192 → i < 192 →
    set (take i (figures_in memory) ++ drop i room) i (get_or memory (5 + i) 0) ≡
    take (i + 1) (figures_in memory) ++ drop (i + 1) room
taken_next memory room i long whole inside =
    copied_next (figures_in memory) room i (get_or memory (5 + i) 0) (figure_at memory i inside)
    (omega (arith, figures_long memory long))
    (omega arith)

-- A word more behind the first five.
pub kept_next : (front figures room : List ℕ) (i : ℕ) → length front ≡ 5 → length figures ≡ 192 → length room ≡ 197 → i < 192 →
    set (take (5 + i) (front ++ figures) ++ drop (5 + i) room) (5 + i) (get_or figures i 0) ≡
    take (5 + (i + 1)) (front ++ figures) ++ drop (5 + (i + 1)) room
kept_next front figures room i five long whole inside =
    copied_next (front ++ figures) room (5 + i) (get_or figures i 0) at (omega (arith, length-append front figures)) (omega arith)
    ∙ ap (λ (n : ℕ). take n (front ++ figures) ++ drop n room) next
  where
    at : get_or (front ++ figures) (5 + i) 0 ≡ get_or figures i 0
    at = ap (λ (n : ℕ). get_or (front ++ figures) (n + i) 0) (sym five) ∙ get_or-append-add front figures i 0

    next : 5 + i + 1 ≡ 5 + (i + 1)
    next = omega arith

-- The first five words, before the crews'.
abbrev pub five_first : ℕ → Spelt → List ℕ → List ℕ
five_first lines place rest = 1 ∷ lines ∷ place.0 ∷ place.1 ∷ place.2 ∷ rest
