-- The front of a list over a range and what is behind it, as lists over parts of the range, and so the lines of the first path.
-- Assumes nothing.
use Prim.Native.Nat.{ℕ, zero, suc, ◌+◌, ◌-◌, ◌/◌, ◌<◌, min}
use mathlib.Core.Path.{◌≡◌, sym, ap, ◌∙◌}
use mathlib.Core.List.{List, ◌∷◌, ◌++◌}
use native.Mathlib.Nat.{add-zero}
use native.Mathlib.Omega.{arith}
use lib.ListN.{length, get_or, take, drop}
use Rattle.lent.specs.Listed.{listed, listed_to}
use Rattle.lent.proofs.Listed.{listed_done, listed_next}
use Rattle.reply_lines.specs.Lines.{ok_line, path_line}
use Rattle.reply_text.specs.Answer.{Row, row_at, rows_of, action_lines, path_lines, plan_lines}
use Rattle.lent.proofs.Fours.{either}

module _ {A : Type 0} (f : ℕ → A) where
  take_listed : (n m i : ℕ) → take n (listed f m i) ≡ listed f (min n m) i
  unfolding listed
  take_listed zero m i = let none : min 0 m ≡ 0 = omega arith in rw none
  take_listed (suc n) zero i = let none : min (suc n) 0 ≡ 0 = omega arith in rw none
  take_listed (suc n) (suc m) i =
      let more : min (suc n) (suc m) ≡ suc (min n m) = omega arith in
      rw more (ap (λ xs. f i ∷ xs) (take_listed n m (suc i)))

  pub drop_listed : (n m i : ℕ) → drop n (listed f m i) ≡ listed f (m - n) (i + n)
  unfolding listed
  drop_listed zero m i = let all : m - 0 ≡ m = omega arith in rw (all, add-zero i)
  drop_listed (suc n) zero i = let none : 0 - suc n ≡ 0 = omega arith in rw none
  drop_listed (suc n) (suc m) i =
      let on : suc i + n ≡ i + suc n = omega arith in
      let rest : suc m - suc n ≡ m - n = omega arith in
      rw (rest, ← on) (drop_listed n m (suc i))

  -- n elements from i on, as far as the range goes.
  pub take_range : (n end i : ℕ) → take n (listed_to f end i) ≡ listed_to f (min (i + n) end) i
  take_range n end i =
      let same : min n (end - i) ≡ min (i + n) end - i = omega arith in
      take_listed n (end - i) i ∙ ap (λ (k : ℕ). listed f k i) same

  -- What is behind them.
  pub drop_range : (n end i : ℕ) → drop n (listed_to f end i) ≡ listed_to f end (min (i + n) end)
  drop_range n end i =
      let rest : end - i - n ≡ end - (i + n) = omega arith in
      drop_listed n (end - i) i ∙
      ap (λ (k : ℕ). listed f k (i + n)) rest ∙
      either (i + n) end (listed_to f end (i + n) ≡ listed_to f end (min (i + n) end))
      (λ h. let at : min (i + n) end ≡ i + n = omega arith in rw at)
      (λ h.
      let at : min (i + n) end ≡ end = omega arith in
      rw at (listed_done f end (i + n) (omega arith) ∙ sym (listed_done f end end (omega arith))))

-- The first path's line, those of its actions, which end at `to`, and those of the other paths with the actions from there on.
pub paths_next : (path action : ℕ → Row) (end rows i from to : ℕ) → i < end → to ≡ min (from + (path i).fourth) rows →
    path_lines (listed_to path end i) (listed_to action rows from) ≡
    path_line (path i).first (path i).second (path i).third ++
    (action_lines (listed_to action to from) ++ path_lines (listed_to path end (i + 1)) (listed_to action rows to))
unfolding path_lines
paths_next path action end rows i from to h e =
    rw (listed_next path end i h, take_range action (path i).fourth rows from, drop_range action (path i).fourth rows from, e)

-- The lines of a plan by the four counts, of which the last says where the rows of paths end.
pub plan_known : (paths actions : List ℕ) (hints times sweeps many end : ℕ) →
    hints ≡ get_or paths 0 0 → times ≡ get_or paths 1 0 → sweeps ≡ get_or paths 2 0 → many ≡ get_or paths 3 0 →
    end ≡ min (1 + many) (length paths / 4) →
    plan_lines paths actions ≡ ok_line hints times sweeps many ++ path_lines (listed_to (row_at paths) end 1) (rows_of actions)
unfolding plan_lines row_at rows_of
plan_known paths actions hints times sweeps many end h t s m e =
    let row : ℕ → Row = row_at paths in
    rw (e, m, h, t, s, drop_listed row 1 (length paths / 4) 0, take_range row (get_or paths 3 0) (length paths / 4) 1)
