-- `plan_exports::arrival_words::give_listed` meets its contract: the counts, the words of the times and zero after them, or 12.
-- Assumes nothing.
use mathlib.Core.Path.{◌≡◌}
use lib.ListN.{length, length-set}
use Rattle.plan_exports.proofs.ArrivalWords.{listed_short, listed_fits}
use Rattle.plan_exports.proofs.arrival_words.give_listed.Goals as goal
use Rattle.plan_exports.proofs.arrival_words.give_listed.Goals.{After-put_times}

pub returns-then-out-n : goal.returns-then-out-n
returns-then-out-n c =
    let a = c.args in
    let short = c.if-out-n.true in
    listed_short a.found a.list.now c.held-n.ensures short (rw c.from.ensures at c.refuse.ensures)

-- The room keeps its length.
kept : (c : After-put_times) →
    length c.put_times.new.room ≡ length c.args.out.now
kept c = simp length-set at c.put_times.auto.room

pub returns : goal.returns
returns c =
    let fits = c.if-out-n.false in
    let a = c.args in
    listed_fits a.found a.list.now c.held-n.ensures c.put_times.new.room fits (kept (goal.at.returns c).After-put_times)
    c.put_times.ensures c.wipe_from.ensures
