-- `hint_words::taken::are_hints` meets its contract: at each turn, the test of every hint from i on is still that of them all.
-- Assumes nothing.
use mathlib.Core.Path.{◌≡◌}
use Rattle.lent.specs.Listed.{listed_to, every}
use Rattle.hint_list.specs.Words.{count_in, hint_in, hints_in}
use Rattle.hint_words.specs.Lent.{is_hint}
use Rattle.hint_words.proofs.taken.are_hints.Given as goal

abbrev pub invariant-loop-i : goal.invariant-loop-i
invariant-loop-i l =
    every (is_hint l.obstacles) (listed_to (hint_in l.hints) (count_in l.hints) l.i) ≡ every (is_hint l.obstacles) (hints_in l.hints)
