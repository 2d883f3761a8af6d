-- `reply_text::answer::put_paths` meets its contract: at each turn, the lines of the paths from i on with those of the actions from
-- `from` on, put from here, are all.
-- Assumes nothing.
use Prim.Native.Nat.{◌+◌, ◌/◌, ◌≤◌}
use lib.ListN.{length}
use Rattle.lent.specs.Listed.{listed_to}
use Rattle.reply_text.specs.Answer.{row_at, rows_of, path_lines}
use Rattle.texts.proofs.Putting.{Goes}
use Rattle.reply_text.proofs.answer.put_paths.Given as goal

abbrev pub invariant-loop-i : goal.invariant-loop-i
invariant-loop-i l =
    Goes
    (path_lines (listed_to (row_at l.paths) l.end l.i) (listed_to (row_at l.actions) (length l.actions / 4) l.from))
    l.out
    l.next
    (path_lines (listed_to (row_at l.paths) l.end 1) (rows_of l.actions))
    l.initial.out
    l.at
    × (l.next ≤ length l.out + 1)
