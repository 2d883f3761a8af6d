-- `hold_year::year::feed` meets its contract: at each turn, what the rest of the part does to the reading and the words as they are
-- now is what the whole part does to those that came.
-- Assumes nothing.
use mathlib.Core.Path.{◌≡◌}
use lib.ListN as L
use Rattle.hold_year.specs.Parts.{fed_by}
use Rattle.hold_year.proofs.year.feed.Given as goal

abbrev pub invariant-loop-b : goal.invariant-loop-b
invariant-loop-b l =
    fed_by (record { lines = l.lines; place = l.place }) l.figures (L.drop l.b-index l.part) ≡
    fed_by (record { lines = l.initial.lines; place = l.initial.place }) l.initial.figures l.fn.part
