-- Rows: the words of an action are one of four (RULES 15.3, 15.4), rows put behind others are the rows of both, and rows past the
-- room are none.
-- Assumes nothing.
use Prim.Native.Nat.{ℕ, ◌+◌, ◌*◌, ◌/◌, ◌<◌, min}
use mathlib.Core.Path.{◌≡◌, refl, sym, ap, ◌∙◌}
use mathlib.Core.Bool.{Bool, true, false}
use mathlib.Core.List.{List, [], ◌∷◌, ◌++◌, map, map-append}
use borrow.Author.Tests.{leb-true, leb-false}
use native.Mathlib.Omega.{arith}
use lib.Dec.{leb}
use lib.ListN.{length, length-map}
use Rattle.lent.specs.Rows.{with_rows}
use Rattle.lent.proofs.Fours.{Fours, fours_map, row_left, rows_append}
use Rattle.path_actions.specs.Action.{action_words, action_rows}
use Rattle.path_actions.specs.declared.action.SafeAction.{SafeAction}
use Rattle.path_actions.specs.declared.action.SafeAction.TheVariants.{Move, Wait}

action_four : (action : SafeAction) → length (action_words action) ≡ 4
unfolding action_words
action_four (Move w) = refl
action_four (Wait obstacle end) = refl

pub actions_fours : (actions : List SafeAction) → Fours (action_rows actions)
actions_fours = fours_map action_words action_four

pub rows_behind : {A : Type 0} (words : A → List ℕ) (lent : List ℕ) (row : ℕ) (done more : List A) →
    with_rows (with_rows lent row (map words done)) (row + length done) (map words more) ≡
    with_rows lent row (map words (done ++ more))
rows_behind words lent row done more =
    rw (map-append words done more, rows_append lent row (map words done) (map words more), length-map)

rows_past : (room : List ℕ) (row : ℕ) (rows : List (List ℕ)) → length room < 4 * row + 4 → with_rows room row rows ≡ room
unfolding with_rows
rows_past room row [] past = refl
rows_past room row (words ∷ rows) past =
    ap (λ (r : List ℕ). with_rows r (row + 1) rows) (row_left room row words past) ∙ rows_past room (row + 1) rows (omega arith)

-- A place past the room stands for its end.
pub rows_placed : (room : List ℕ) (row : ℕ) (rows : List (List ℕ)) →
    with_rows room (min row (length room / 4)) rows ≡ with_rows room row rows
rows_placed room row rows = by (leb row (length room / 4)) refl
  where
    by : (t : Bool) → leb row (length room / 4) ≡ t → with_rows room (min row (length room / 4)) rows ≡ with_rows room row rows
    by true e =
        let same : min row (length room / 4) ≡ row = omega (arith, leb-true row (length room / 4) e) in
        rw same
    by false e =
        let past = leb-false row (length room / 4) e in
        rows_past room (min row (length room / 4)) rows (omega arith) ∙ sym (rows_past room row rows (omega arith))
