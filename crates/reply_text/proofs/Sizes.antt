-- How long the text of rows of words can be: there is a line for each row and one besides, and each is at most 87 bytes long.
-- Assumes nothing.
use Prim.Native.Nat.{ℕ, zero, suc, ◌+◌, ◌*◌, ◌/◌, ◌^◌, ◌≤◌, ◌<◌}
use mathlib.Core.Path.{◌≡◌, refl}
use mathlib.Core.Bool.{Bool, true, false}
use mathlib.Core.List.{List, [], ◌∷◌, ◌++◌}
use native.Mathlib.Omega.{arith}
use lib.Dec.{eqb}
use lib.ListN.{length, get_or, take, drop, length-append, length-take, length-drop}
use Rattle.lent.specs.Listed.{listed}
use Rattle.lent.proofs.Listed.{length_listed}
use Rattle.reply_lines.specs.Lines.{ok_line, path_line}
use Rattle.reply_lines.proofs.Sizes.{ok_short, path_short, move_short, wait_short}
use Rattle.reply_text.specs.Answer.{Row, row_at, rows_of, action_line, action_lines, path_lines, plan_lines}

-- ---- Rows of words.

pub record Words (row : Row) : Type 0 where
  pub first : row.first < 2 ^ 64
  pub second : row.second < 2 ^ 64
  pub third : row.third < 2 ^ 64
  pub fourth : row.fourth < 2 ^ 64

-- Every row of a list is of words.
abbrev pub AllWords : List Row → Type 0
AllWords [] = Unit {0}
AllWords (row ∷ rows) = Words row × AllWords rows

words_take : (n : ℕ) (rows : List Row) → AllWords rows → AllWords (take n rows)
words_take zero rows ws = tt
words_take (suc n) [] ws = tt
words_take (suc n) (row ∷ rows) (w, ws) = (w, words_take n rows ws)

words_drop : (n : ℕ) (rows : List Row) → AllWords rows → AllWords (drop n rows)
words_drop zero rows ws = ws
words_drop (suc n) [] ws = tt
words_drop (suc n) (row ∷ rows) (w, ws) = words_drop n rows ws

words_listed : (f : ℕ → Row) (n i : ℕ) → ((j : ℕ) → Words (f j)) → AllWords (listed f n i)
unfolding listed
words_listed f zero i w = tt
words_listed f (suc n) i w = (w i, words_listed f n (suc i) w)

pub row_words : (room : List ℕ) → ((i : ℕ) → get_or room i 0 < 2 ^ 64) → (i : ℕ) → Words (row_at room i)
unfolding row_at
row_words room w i =
    record { first = w (4 * i); second = w (4 * i + 1); third = w (4 * i + 2); fourth = w (4 * i + 3) }

pub rows_words : (room : List ℕ) → ((i : ℕ) → get_or room i 0 < 2 ^ 64) → AllWords (rows_of room)
unfolding rows_of
rows_words room w = words_listed (row_at room) (length room / 4) 0 (row_words room w)

length_rows : (room : List ℕ) → length (rows_of room) ≡ length room / 4
unfolding rows_of
length_rows room = length_listed (row_at room) (length room / 4) 0

-- ---- The whole text.

action_short : (row : Row) → Words row → length (action_line row) ≤ 60
unfolding action_line
action_short row w = by (eqb row.first 1) refl
  where
    by : (t : Bool) → eqb row.first 1 ≡ t → length (action_line row) ≤ 60
    by true e = rw e (move_short row.second row.third row.fourth w.second)
    by false e = rw e (omega (arith, wait_short row.second row.third w.second w.third))

actions_short : (rows : List Row) → AllWords rows → length (action_lines rows) ≤ 60 * length rows
unfolding action_lines
actions_short [] ws = omega arith
actions_short (row ∷ rows) (w, ws) =
    omega (arith, length-append (action_line row) (action_lines rows), action_short row w, actions_short rows ws)

paths_short : (ps rows : List Row) → AllWords ps → AllWords rows → length (path_lines ps rows) ≤ 68 * length ps + 60 * length rows
unfolding path_lines
paths_short [] rows ws vs = omega arith
paths_short (p ∷ ps) rows (w, ws) vs =
    let n : ℕ = p.fourth in
    let head : List ℕ = path_line p.first p.second p.third in
    let own : List ℕ = action_lines (take n rows) in
    let rest : List ℕ = path_lines ps (drop n rows) in
    omega (
      arith,
      length-append head (own ++ rest),
      length-append own rest,
      path_short p.first p.second p.third w.first w.second w.third,
      actions_short (take n rows) (words_take n rows vs),
      paths_short ps (drop n rows) ws (words_drop n rows vs),
      length-take n rows,
      length-drop n rows,
    )

-- A room of 87 bytes for each row and 87 besides is enough.
pub plan_short : (paths actions : List ℕ) → ((i : ℕ) → get_or paths i 0 < 2 ^ 64) → ((i : ℕ) → get_or actions i 0 < 2 ^ 64) →
    length (plan_lines paths actions) ≤ 87 * (1 + length paths / 4 + length actions / 4)
unfolding plan_lines
plan_short paths actions wp wa =
    let row : Row = row_at paths 0 in
    let w : Words row = row_words paths wp 0 in
    let rest : List Row = drop 1 (rows_of paths) in
    let own : List Row = take row.fourth rest in
    omega (
      arith,
      length-append (ok_line row.first row.second row.third row.fourth) (path_lines own (rows_of actions)),
      ok_short row.first row.second row.third row.fourth w.first w.second w.third w.fourth,
      paths_short own (rows_of actions)
          (words_take row.fourth rest (words_drop 1 (rows_of paths) (rows_words paths wp)))
          (rows_words actions wa),
      length-take row.fourth rest,
      length-drop 1 (rows_of paths),
      length_rows paths,
      length_rows actions,
    )
