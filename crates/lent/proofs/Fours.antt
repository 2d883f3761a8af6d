-- Rows of four words in a lent room: what putting them leaves, in which order they may be put, and what is handed over.
-- Assumes nothing.
use Prim.Native.Nat.{ℕ, suc, ◌+◌, ◌-◌, ◌*◌, ◌≤◌, ◌<◌}
use mathlib.Core.Path.{◌≡◌, refl, sym, ap, ◌∙◌}
use mathlib.Core.Bool.{Bool, true, false}
use mathlib.Core.List.{List, [], ◌∷◌, ◌++◌, map, append_assoc}
use borrow.Author.Tests.{le-leb, lt-leb, leb-true, leb-false}
use native.Mathlib.Nat.{add-zero}
use native.Mathlib.Omega.{arith}
use lib.Dec.{leb}
use lib.ListN.{length, set, drop, replicate, length-append}
use lib.Seq.{sets, sets-eq, length-sets, set_comm}
use Rattle.lent.specs.Outcome.{Gives, Handed, wiped}
use Rattle.lent.specs.Rows.{with_row, with_rows, words_in, has_room, Settled}
use Rattle.lent.proofs.Answer.{number_fits, number_short, room_fits, room_short}
use Rattle.lent.proofs.Filling.{wiped_after}

-- Every row has four words.
abbrev pub Fours : List (List ℕ) → Type 0
Fours [] = Unit {0}
Fours (words ∷ rows) = (length words ≡ 4) × Fours rows

pub fours_map : {A : Type 0} (f : A → List ℕ) → ((x : A) → length (f x) ≡ 4) → (xs : List A) → Fours (map f xs)
fours_map f four [] = tt
fours_map f four (x ∷ xs) = (four x, fours_map f four xs)

-- ---- Runs of stores.

sets_append : (room : List ℕ) (i : ℕ) (xs ys : List ℕ) → sets room i (xs ++ ys) ≡ sets (sets room i xs) (i + length xs) ys
sets_append room i [] ys = rw (add-zero i)
sets_append room i (x ∷ xs) ys =
    let on : suc i + length xs ≡ i + suc (length xs) = omega arith in
    sets_append (set room i x) (suc i) xs ys ∙ ap (λ (k : ℕ). sets (sets (set room i x) (suc i) xs) k ys) on

set_behind : (room : List ℕ) (i j : ℕ) (xs : List ℕ) (y : ℕ) →
    i + length xs ≤ j → set (sets room i xs) j y ≡ sets (set room j y) i xs
set_behind room i j [] y h = refl
set_behind room i j (x ∷ xs) y h =
    set_behind (set room i x) (suc i) j xs y (omega arith) ∙
    ap (λ (r : List ℕ). sets r (suc i) xs) (set_comm room i j x y (λ e. omega arith))

sets_behind : (room : List ℕ) (i j : ℕ) (xs ys : List ℕ) →
    i + length xs ≤ j → sets (sets room i xs) j ys ≡ sets (sets room j ys) i xs
sets_behind room i j xs [] h = refl
sets_behind room i j xs (y ∷ ys) h =
    ap (λ (r : List ℕ). sets r (suc j) ys) (set_behind room i j xs y h) ∙
    sets_behind (set room j y) i (suc j) xs ys (omega arith)

-- ---- One row: stored where there is room for it, and two of them in either order.

pub row_put : (room : List ℕ) (row : ℕ) (words : List ℕ) →
    length words ≡ 4 → 4 * row + 4 ≤ length room → with_row room row words ≡ sets room (4 * row) words
unfolding with_row
row_put room row words four h =
    let fits : 4 * row + length words ≤ length room = omega arith in
    rw (le-leb (4 * row + 4) (length room) h, sets-eq words room (4 * row) fits, four, append_assoc)

pub row_left : (room : List ℕ) (row : ℕ) (words : List ℕ) → length room < 4 * row + 4 → with_row room row words ≡ room
unfolding with_row
row_left room row words h = rw (lt-leb (4 * row + 4) (length room) h)

pub either : (n m : ℕ) (G : Type 0) → (n ≤ m → G) → (m < n → G) → G
either n m G fits short = by (leb n m) refl
  where
    by : (t : Bool) → leb n m ≡ t → G
    by true e = fits (leb-true n m e)
    by false e = short (leb-false n m e)

pub length_row : (room : List ℕ) (row : ℕ) (words : List ℕ) → length words ≡ 4 → length (with_row room row words) ≡ length room
length_row room row words four =
    either (4 * row + 4) (length room) (length (with_row room row words) ≡ length room)
    (λ h. ap length (row_put room row words four h) ∙ length-sets room (4 * row) words)
    (λ h. ap length (row_left room row words h))

pub rows_swap : (room : List ℕ) (i j : ℕ) (xs ys : List ℕ) → i < j → length xs ≡ 4 → length ys ≡ 4 →
    with_row (with_row room j ys) i xs ≡ with_row (with_row room i xs) j ys
rows_swap room i j xs ys h four four' = either (4 * j + 4) (length room) Swapped both none
  where
    Swapped : Type 0
    Swapped = with_row (with_row room j ys) i xs ≡ with_row (with_row room i xs) j ys

    both : 4 * j + 4 ≤ length room → Swapped
    both fits =
        let fits-i : 4 * i + 4 ≤ length room = omega arith in
        row_put (with_row room j ys) i xs four (rw (length_row room j ys four') fits-i) ∙
        ap (λ (r : List ℕ). sets r (4 * i) xs) (row_put room j ys four' fits) ∙
        sym (sets_behind room (4 * i) (4 * j) xs ys (omega arith)) ∙
        ap (λ (r : List ℕ). sets r (4 * j) ys) (sym (row_put room i xs four fits-i)) ∙
        sym (row_put (with_row room i xs) j ys four' (rw (length_row room i xs four) fits))

    none : length room < 4 * j + 4 → Swapped
    none short =
        ap (λ (r : List ℕ). with_row r i xs) (row_left room j ys short) ∙
        sym (row_left (with_row room i xs) j ys (rw (length_row room i xs four) short))

-- ---- Rows from a place on.

pub length_rows : (room : List ℕ) (row : ℕ) (rows : List (List ℕ)) → Fours rows → length (with_rows room row rows) ≡ length room
unfolding with_rows
length_rows room row [] four = refl
length_rows room row (words ∷ rows) (four, fours) =
    length_rows (with_row room row words) (row + 1) rows fours ∙ length_row room row words four

pub rows_one : (room : List ℕ) (row : ℕ) (words : List ℕ) → with_rows room row (words ∷ []) ≡ with_row room row words
unfolding with_rows
rows_one room row words = refl

pub rows_append : (room : List ℕ) (row : ℕ) (xs ys : List (List ℕ)) →
    with_rows room row (xs ++ ys) ≡ with_rows (with_rows room row xs) (row + length xs) ys
unfolding with_rows
rows_append room row [] ys = rw (add-zero row)
rows_append room row (x ∷ xs) ys =
    let on : row + 1 + length xs ≡ row + suc (length xs) = omega arith in
    rows_append (with_row room row x) (row + 1) xs ys ∙
    ap (λ (k : ℕ). with_rows (with_rows (with_row room row x) (row + 1) xs) k ys) on

-- A row in front of others may be put after them.
rows_before : (room : List ℕ) (i row : ℕ) (head : List ℕ) (rows : List (List ℕ)) → i < row → length head ≡ 4 → Fours rows →
    with_row (with_rows room row rows) i head ≡ with_rows (with_row room i head) row rows
unfolding with_rows
rows_before room i row head [] h four fours = refl
rows_before room i row head (words ∷ rows) h four (four', fours) =
    rows_before (with_row room row words) i (row + 1) head rows (omega arith) four fours ∙
    ap (λ (r : List ℕ). with_rows r (row + 1) rows) (rows_swap room i row head words h four four')

pub head_last : (room : List ℕ) (head : List ℕ) (rows : List (List ℕ)) → length head ≡ 4 → Fours rows →
    with_row (with_rows room 1 rows) 0 head ≡ with_rows room 0 (head ∷ rows)
unfolding with_rows
head_last room head rows four fours = rows_before room 0 1 head rows (omega arith) four fours

-- ---- Handing over.

pub length_words : (rows : List (List ℕ)) → Fours rows → length (words_in rows) ≡ 4 * length rows
unfolding words_in
length_words [] fours = refl
length_words (words ∷ rows) (four, fours) = omega (arith, length-append words (words_in rows), length_words rows fours)

-- Rows that there is room for are their words, stored one behind another.
rows_put : (room : List ℕ) (row : ℕ) (rows : List (List ℕ)) → Fours rows → 4 * (row + length rows) ≤ length room →
    with_rows room row rows ≡ sets room (4 * row) (words_in rows)
unfolding with_rows words_in
rows_put room row [] fours h = refl
rows_put room row (words ∷ rows) (four, fours) h =
    let on : 4 * (row + 1) ≡ 4 * row + length words = omega arith in
    let fits : 4 * (row + 1 + length rows) ≤ length (with_row room row words) = omega (arith, length_row room row words four) in
    rows_put (with_row room row words) (row + 1) rows fours fits ∙
    ap (λ (r : List ℕ). sets r (4 * (row + 1)) (words_in rows)) (row_put room row words four (omega arith)) ∙
    ap (λ (k : ℕ). sets (sets room (4 * row) words) k (words_in rows)) on ∙
    sym (sets_append room (4 * row) words (words_in rows))

pub room_known : (room rows : ℕ) → has_room room rows ≡ true → 4 * rows ≤ room
unfolding has_room
room_known room rows = leb-true (4 * rows) room

rows_in_front : (room : List ℕ) (rows : List (List ℕ)) → Fours rows → 4 * length rows ≤ length room →
    with_rows room 0 rows ≡ words_in rows ++ drop (0 + length (words_in rows)) room
rows_in_front room rows fours h =
    rows_put room 0 rows fours (omega arith) ∙
    sets-eq (words_in rows) room 0 (omega (arith, length_words rows fours))

pub handing_over : (room : List ℕ) (rows : List (List ℕ)) → Fours rows → has_room (length room) (length rows) ≡ true →
    wiped (with_rows room 0 rows) (4 * length rows) ≡ words_in rows ++ replicate (length room - 4 * length rows) 0
handing_over room rows fours e =
    let put = rows_in_front room rows fours (room_known (length room) (length rows) e) in
    rw (← length_words rows fours, put)
    (wiped_after (words_in rows) (drop (0 + length (words_in rows)) room) (length room)
    (ap length (sym put) ∙ length_rows room 0 rows fours))

-- A settled room is the answer whose words its rows are.
pub settled_rows : {lent left : List ℕ} {r : ℕ} (rows : List (List ℕ)) → Fours rows →
    Settled (length rows) (with_rows lent 0 rows) left r → Handed (Gives (words_in rows)) lent left r
unfolding has_room
settled_rows {lent} {left} {r} rows fours s = by (has_room (length lent) (length rows)) refl
  where
    words : List ℕ
    words = words_in rows

    by : (t : Bool) → has_room (length lent) (length rows) ≡ t → Handed (Gives words) lent left r
    by true e =
        let fits : length words ≤ length lent = rw (length_words rows fours) (room_known (length lent) (length rows) e) in
        record {
          number = rw (length_rows lent 0 rows fours, e) at s.number ∙ sym (number_fits words (length lent) fits);
          room =
              rw (length_rows lent 0 rows fours, e, handing_over lent rows fours e, ← length_words rows fours) at s.room
              ∙ sym (room_fits words (length lent) fits);
        }
    by false e =
        let short : length lent < length words = rw (length_words rows fours) (leb-false (4 * length rows) (length lent) e) in
        record {
          number = rw (length_rows lent 0 rows fours, e) at s.number ∙ sym (number_short words (length lent) short);
          room = rw (length_rows lent 0 rows fours, e) at s.room ∙ sym (room_short words (length lent) short);
        }
