-- `hold_report::report::put_crews` meets its contract: at each turn, the lines from this crew on put from here are all.
-- Assumes nothing.
use Rattle.std.proofs.Common.{◌+◌, ◌≤◌, length}
use Rattle.lent.specs.Listed.{listed_to}
use Rattle.lent.specs.Rows.{words_in}
use Rattle.texts.proofs.Putting.{Goes}
use Rattle.hold_report.specs.Told.{crew_told, crews_told}
use Rattle.hold_report.proofs.report.put_crews.Given as goal

abbrev pub invariant-loop-crew : goal.invariant-loop-crew
invariant-loop-crew l = Goes (words_in (listed_to (crew_told l.figures) 64 l.crew)) l.out l.next (crews_told l.figures 64 0) l.initial.out l.at × (l.next ≤ length l.out + 1)
