-- The lines of a text of which a beginning was read already.
-- Assumes nothing.
use Prim.Native.Nat.{ℕ}
use mathlib.Core.Path.{◌≡◌, refl, sym, ap, subst}
use mathlib.Core.Bool.{Bool, true, false, cond}
use mathlib.Core.List.{List, [], ◌∷◌, ◌++◌, append_assoc, append-nil}
use lib.Dec.{eqb}
use Rattle.hold_lines.specs.Text.{longer_first, pieces_at, without_empty_end}

-- Pieces with a beginning in front of the first.
abbrev pub onto_first : List ℕ → List (List ℕ) → List (List ℕ)
onto_first begin [] = begin ∷ []
onto_first begin (piece ∷ pieces) = (begin ++ piece) ∷ pieces

-- The lines behind a beginning.
abbrev pub lines_behind : List ℕ → List ℕ → List (List ℕ)
lines_behind begin text = without_empty_end (onto_first begin (pieces_at 10 text))

-- A text has at least one piece.
pub some_piece : (s : ℕ) (text : List ℕ) (P : List (List ℕ) → Type 0) →
    ((piece : List ℕ) (pieces : List (List ℕ)) → P (piece ∷ pieces)) → P (pieces_at s text)
unfolding pieces_at
some_piece s [] P go = go [] []
some_piece s (b ∷ bs) P go = by (eqb b s) (pieces_at s bs)
  where
    by : (same : Bool) (pieces : List (List ℕ)) → P (cond same ([] ∷ pieces) (longer_first b pieces))
    by true pieces = go [] pieces
    by false [] = go (b ∷ []) []
    by false (piece ∷ pieces) = go (b ∷ piece) pieces

-- An empty beginning adds nothing.
pub behind_nothing : (text : List ℕ) → lines_behind [] text ≡ without_empty_end (pieces_at 10 text)
behind_nothing text =
    some_piece 10 text (λ pieces. without_empty_end (onto_first [] pieces) ≡ without_empty_end pieces) (λ piece pieces. refl)

-- At a newline the beginning is a line.
pub behind_newline : (begin : List ℕ) (b : ℕ) (text : List ℕ) → eqb b 10 ≡ true →
    lines_behind begin (b ∷ text) ≡ begin ∷ without_empty_end (pieces_at 10 text)
unfolding pieces_at without_empty_end
behind_newline begin b text newline =
    rw newline
    (subst (λ line. without_empty_end (line ∷ pieces_at 10 text) ≡ begin ∷ without_empty_end (pieces_at 10 text))
    (sym (append-nil begin))
    (some_piece 10 text
    (λ pieces. without_empty_end (begin ∷ pieces) ≡ begin ∷ without_empty_end pieces)
    (λ piece pieces. refl)))

-- Any other byte makes the beginning longer.
pub behind_byte : (begin : List ℕ) (b : ℕ) (text : List ℕ) → eqb b 10 ≡ false →
    lines_behind begin (b ∷ text) ≡ lines_behind (begin ++ (b ∷ [])) text
unfolding pieces_at
behind_byte begin b text other = rw other (ap without_empty_end (by (pieces_at 10 text)))
  where
    by : (pieces : List (List ℕ)) → onto_first begin (longer_first b pieces) ≡ onto_first (begin ++ (b ∷ [])) pieces
    by [] = refl
    by (piece ∷ pieces) = ap (λ line. line ∷ pieces) (sym (append_assoc begin (b ∷ []) piece))

-- A beginning that is not empty is that of the first line.
pub behind_some : (b : ℕ) (begin text : List ℕ) (P : List (List ℕ) → Type 0) →
    ((more : List ℕ) (lines : List (List ℕ)) → P (((b ∷ begin) ++ more) ∷ lines)) → P (lines_behind (b ∷ begin) text)
unfolding without_empty_end
behind_some b begin text P go =
    some_piece 10 text (λ pieces. P (without_empty_end (onto_first (b ∷ begin) pieces))) by
  where
    by : (piece : List ℕ) (pieces : List (List ℕ)) → P (without_empty_end ((b ∷ (begin ++ piece)) ∷ pieces))
    by piece [] = go piece []
    by piece (next ∷ pieces) = go piece (without_empty_end (next ∷ pieces))
