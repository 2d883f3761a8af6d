-- `hold_report::report::put_crews` meets its contract: at each turn, the lines from this crew on put from here are all.
-- Assumes nothing.
use Rattle.std.proofs.Common.{ℕ, List, arith}
use Rattle.lent.specs.Rows.{words_in}
use Rattle.lent.proofs.Listed.{listed_done, listed_next}
use Rattle.texts.proofs.Putting.{goes_all, goes_on, goes_done, put_within}
use Rattle.hold_report.specs.Told.{crew_told, crews_told}
use Rattle.hold_report.proofs.report.put_crews.Goals as goal

pub loop-crew-init : goal.loop-crew-init
unfolding crews_told
loop-crew-init c = let a = c.args in (goes_all (crews_told a.figures.now 64 0) a.out.now a.at, omega arith)

pub loop-crew-preserved : goal.loop-crew-preserved
unfolding words_in
loop-crew-preserved c =
    let l = c.loop-crew in
    let a = c.args in
    let told : ℕ → List ℕ = crew_told a.figures.now in
    let put = c.put_crew-next.ensures in
    (goes_on (rw (listed_next told 64 l.crew (omega arith)) at l.invariant.0) put, put_within put)

pub returns : goal.returns
unfolding words_in
returns c =
    let l = c.loop-crew in
    let told : ℕ → List ℕ = crew_told c.args.figures.now in
    goes_done (rw (listed_done told 64 l.crew (omega arith)) at l.invariant.0) l.invariant.1
