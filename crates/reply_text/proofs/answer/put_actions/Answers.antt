-- `reply_text::answer::put_actions` meets its contract: at each turn, the lines of the rows from i on put from here are all.
-- Assumes nothing.
use Prim.Native.Nat.{ℕ}
use native.Mathlib.Omega.{arith}
use Rattle.lent.specs.Listed.{listed_to}
use Rattle.lent.proofs.Listed.{listed_done, listed_next}
use Rattle.reply_text.specs.Answer.{Row, row_at, action_lines}
use Rattle.texts.proofs.Putting.{goes_all, goes_on, goes_done, put_within}
use Rattle.reply_text.proofs.answer.put_actions.Goals as goal

pub loop-i-init : goal.loop-i-init
loop-i-init c =
    let a = c.args in
    (goes_all (action_lines (listed_to (row_at a.actions.now) a.to a.from)) a.out.now a.at, omega arith)

pub loop-i-preserved : goal.loop-i-preserved
unfolding action_lines
loop-i-preserved c =
    let l = c.loop-i in
    let a = c.args in
    let row : ℕ → Row = row_at a.actions.now in
    let put = c.put_action-next.ensures in
    (goes_on (rw (listed_next row a.to l.i (omega arith)) at l.invariant.0) put, put_within put)

pub returns : goal.returns
unfolding action_lines
returns c =
    let l = c.loop-i in
    let a = c.args in
    let row : ℕ → Row = row_at a.actions.now in
    goes_done (rw (listed_done row a.to l.i (omega arith)) at l.invariant.0) l.invariant.1
