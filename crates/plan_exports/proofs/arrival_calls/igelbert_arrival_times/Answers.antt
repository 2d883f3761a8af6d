-- `plan_exports::arrival_calls::igelbert_arrival_times` meets its contract: it hands over what `arrival_times` finds.
-- Assumes nothing.
use mathlib.Core.Path.{refl, ◌∙◌}
use Rattle.number_words.proofs.ReadBack.{read_back}
use Rattle.table.specs.Lent.{lent_of}
use Rattle.arrival_times.proofs.Words.{asked_words}
use Rattle.shapes.specs.Plain.{plain_profile, plain_waypoint}
use Rattle.plan_exports.proofs.ArrivalWords.{listing_numbered}
use Rattle.plan_exports.proofs.arrival_calls.igelbert_arrival_times.Goals as goal

pub returns : goal.returns
returns c =
    let a = c.args in
    let found = c.arrival_times-found in
    let lent = lent_of a.starts.now a.numbers.now a.times.now a.xs.now a.ys.now in
    let told = rw (read_back a.t c.ranges.t) at found.ensures in
    let numbered = listing_numbered found.result c.map_err.result found.new.list c.map_err.ensures.cases in
    rw (numbered ∙ asked_words (plain_profile a.footprint a.follow) (plain_waypoint a.t a.x a.y) lent told refl)
    at c.give_arrivals.ensures
