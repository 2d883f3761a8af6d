-- `reply_text::answer::put_paths` meets its contract: at each turn, the lines of the paths from i on with those of the actions from
-- `from` on, put from here, are all.
-- Assumes nothing.
use mathlib.Core.Path.{◌≡◌}
use Prim.Native.Nat.{ℕ, ◌-◌, ◌/◌}
use native.Mathlib.Omega.{arith}
use lib.ListN.{length}
use Rattle.lent.specs.Listed.{listed_to}
use Rattle.lent.proofs.Listed.{listed_done}
use Rattle.reply_text.specs.Answer.{Row, row_at, rows_of, path_lines}
use Rattle.reply_text.proofs.Rows.{paths_next}
use Rattle.texts.proofs.Putting.{goes_all, goes_on, goes_done, put_within}
use Rattle.reply_text.proofs.answer.put_paths.Goals as goal

pub loop-i-init : goal.loop-i-init
unfolding rows_of
loop-i-init c =
    let a = c.args in
    let path : ℕ → Row = row_at a.paths.now in
    let rows : ℕ = length a.actions.now / 4 in
    let all : rows - 0 ≡ rows = omega arith in (
      rw all (goes_all (path_lines (listed_to path a.end 1) (rows_of a.actions.now)) a.out.now a.at),
      omega arith,
    )

pub loop-i-preserved : goal.loop-i-preserved
unfolding row_at
loop-i-preserved c =
    let acted = c.put_actions-next in
    let to = c.rows_end-to in
    let l = c.loop-i in
    let a = c.args in
    let path : ℕ → Row = row_at a.paths.now in
    let action : ℕ → Row = row_at a.actions.now in
    let rows : ℕ = length a.actions.now / 4 in
    let next = paths_next path action a.end rows l.i l.from to.result (omega arith) to.ensures in (
      goes_on (goes_on (rw next at l.invariant.0) c.put_path-next.ensures) acted.ensures,
      put_within acted.ensures,
    )

pub returns : goal.returns
unfolding path_lines
returns c =
    let l = c.loop-i in
    let a = c.args in
    let path : ℕ → Row = row_at a.paths.now in
    goes_done (rw (listed_done path a.end l.i (omega arith)) at l.invariant.0) l.invariant.1
