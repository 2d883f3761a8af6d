-- `arrival_times::listing::compute_safe_arrival_times` meets its contract: it wipes the list after the times, or throughout.
-- Assumes nothing.
use Rattle.arrival_times.proofs.Telling.{told_failed, told_short, told_all}
use Rattle.arrival_times.proofs.listing.compute_safe_arrival_times.Goals as goal

pub returns-then-list-found : goal.returns-then-list-found
returns-then-list-found c = told_short c.search_times.ensures c.in-Ok.is c.if-list-found.true c.wipe_times.ensures

pub returns-else-list-found : goal.returns-else-list-found
returns-else-list-found c = told_all c.search_times.ensures c.in-Ok.is c.if-list-found.false c.wipe_times-in-Ok.ensures

pub returns-in-Err : goal.returns-in-Err
returns-in-Err c = told_failed c.search_times.ensures c.in-Err.is c.wipe_times-in-Err.ensures
