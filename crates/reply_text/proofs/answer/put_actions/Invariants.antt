-- `reply_text::answer::put_actions` meets its contract: at each turn, the lines of the rows from i on put from here are all.
-- Assumes nothing.
use Prim.Native.Nat.{◌+◌, ◌≤◌}
use lib.ListN.{length}
use Rattle.lent.specs.Listed.{listed_to}
use Rattle.reply_text.specs.Answer.{row_at, action_lines}
use Rattle.texts.proofs.Putting.{Goes}
use Rattle.reply_text.proofs.answer.put_actions.Given as goal

abbrev pub invariant-loop-i : goal.invariant-loop-i
invariant-loop-i l =
    Goes (action_lines (listed_to (row_at l.actions) l.to l.i)) l.out l.next (action_lines (listed_to (row_at l.actions) l.to l.from)) l.initial.out l.at ×
    (l.next ≤ length l.out + 1)
