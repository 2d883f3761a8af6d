-- The rows that stand in a plan's rooms are its own, and their lines are its text.
-- Assumes nothing.
use Prim.Native.Nat.{ℕ, suc, ◌+◌, ◌*◌, ◌/◌}
use mathlib.Core.Path.{◌≡◌, refl, sym, ap, ◌∙◌}
use mathlib.Core.List.{List, [], ◌∷◌, ◌++◌, map, map-append, append_assoc}
use native.Mathlib.Omega.{arith}
use lib.Ieee.{binary64, to_bits}
use lib.ListN.{length, length-map}
use lib.Seq.{take_at, drop_at}
use Rattle.lent.specs.Listed.{listed}
use Rattle.lent.specs.Rows.{words_in}
use Rattle.lent.proofs.Listed.{listed_shift, listed_same}
use Rattle.number_words.specs.Word.{word_of}
use Rattle.path_actions.specs.Action.{action_words, action_rows}
use Rattle.plan_model.specs.Plan.{Path, path_rows, all_actions}
use Rattle.path_actions.specs.declared.action.SafeAction.{SafeAction}
use Rattle.path_actions.specs.declared.action.SafeAction.TheVariants.{Move, Wait}
use Rattle.reply_lines.specs.Lines.{path_line}
use Rattle.reply_text.specs.Answer.{Row, row_at, rows_of, action_line, action_lines, path_lines}
use Rattle.reply.specs.Text.{action_text, actions_text, path_text, paths_text}

abbrev row_of : ℕ → ℕ → ℕ → ℕ → Row
row_of a b c d = record { first = a; second = b; third = c; fourth = d }

-- Behind the first row of a room stand the rows of the rest.
row_later : (a b c d : ℕ) (rest : List ℕ) (i : ℕ) → row_at (a ∷ (b ∷ (c ∷ (d ∷ rest)))) (suc i) ≡ row_at rest i
unfolding row_at
row_later a b c d rest i =
    let first : 4 * suc i ≡ suc (suc (suc (suc (4 * i)))) = omega arith in
    let second : 4 * suc i + 1 ≡ suc (suc (suc (suc (4 * i + 1)))) = omega arith in
    let third : 4 * suc i + 2 ≡ suc (suc (suc (suc (4 * i + 2)))) = omega arith in
    let fourth : 4 * suc i + 3 ≡ suc (suc (suc (suc (4 * i + 3)))) = omega arith in
    rw (second, third, fourth, first)

pub rows_cons : (a b c d : ℕ) (rest : List ℕ) → rows_of (a ∷ (b ∷ (c ∷ (d ∷ rest)))) ≡ row_of a b c d ∷ rows_of rest
unfolding rows_of listed row_at
rows_cons a b c d rest =
    let room : List ℕ = a ∷ (b ∷ (c ∷ (d ∷ rest))) in
    let many : length room / 4 ≡ suc (length rest / 4) = omega arith in
    rw many
    (ap (λ xs. row_of a b c d ∷ xs)
    (listed_shift (row_at room) (length rest / 4) 0 ∙
    listed_same (λ j. row_at room (suc j)) (row_at rest) (length rest / 4) 0 (λ j _ _. row_later a b c d rest j)))

-- ---- Actions.

-- The row of an action.
abbrev pub row_of_action : SafeAction → Row
row_of_action (Move w) = row_of 1 (word_of w.time.0) (to_bits binary64 w.x) (to_bits binary64 w.y)
row_of_action (Wait obstacle end) = row_of 2 obstacle (word_of end.0) 0

pub action_rows_law : (actions : List SafeAction) (rest : List ℕ) →
    rows_of (words_in (action_rows actions) ++ rest) ≡ map row_of_action actions ++ rows_of rest
unfolding words_in action_words
action_rows_law [] rest = refl
action_rows_law (Move w ∷ actions) rest =
    rows_cons _ _ _ _ (words_in (action_rows actions) ++ rest) ∙ ap (λ xs. row_of_action (Move w) ∷ xs) (action_rows_law actions rest)
action_rows_law (Wait obstacle end ∷ actions) rest =
    rows_cons _ _ _ _ (words_in (action_rows actions) ++ rest) ∙
    ap (λ xs. row_of_action (Wait obstacle end) ∷ xs) (action_rows_law actions rest)

action_line_law : (a : SafeAction) → action_line (row_of_action a) ≡ action_text a
unfolding action_line action_text
action_line_law (Move w) = refl
action_line_law (Wait obstacle end) = refl

action_lines_law : (actions : List SafeAction) → action_lines (map row_of_action actions) ≡ actions_text actions
unfolding action_lines actions_text
action_lines_law [] = refl
action_lines_law (a ∷ actions) = rw (action_line_law a, action_lines_law actions)

-- ---- Paths.

abbrev pub row_of_path : Path → Row
row_of_path p = row_of (word_of p.arrival.0) p.pops (word_of p.hold.0) (length p.actions)

pub path_rows_law : (ps : List Path) (rest : List ℕ) → rows_of (words_in (path_rows ps) ++ rest) ≡ map row_of_path ps ++ rows_of rest
unfolding words_in
path_rows_law [] rest = refl
path_rows_law (p ∷ ps) rest =
    rows_cons _ _ _ _ (words_in (path_rows ps) ++ rest) ∙ ap (λ xs. row_of_path p ∷ xs) (path_rows_law ps rest)

-- The lines of paths whose actions stand in front of the rows are their text.
pub path_lines_law : (ps : List Path) (rest : List Row) →
    path_lines (map row_of_path ps) (map row_of_action (all_actions ps) ++ rest) ≡ paths_text ps
unfolding path_lines paths_text path_text all_actions
path_lines_law [] rest = refl
path_lines_law (p ∷ ps) rest =
    let own : List Row = map row_of_action p.actions in
    let others : List Row = map row_of_action (all_actions ps) ++ rest in
    let long : length own ≡ length p.actions = length-map p.actions row_of_action in
    let apart : map row_of_action (p.actions ++ all_actions ps) ++ rest ≡ own ++ others =
    ap (λ xs. xs ++ rest) (map-append row_of_action p.actions (all_actions ps)) ∙
    append_assoc own (map row_of_action (all_actions ps)) rest in
    rw (apart, take_at own others _ long, drop_at own others _ long, action_lines_law p.actions, path_lines_law ps rest)
    (sym (append_assoc (path_line (word_of p.arrival.0) p.pops (word_of p.hold.0)) (actions_text p.actions) (paths_text ps)))
