-- `arrival_times::calls::arrival_times` meets its contract: a refusal of its input keeps nothing of the list.
-- Assumes nothing.
use mathlib.Core.Path.{sym, ◌∙◌}
use Rattle.table.specs.Lent.{Lent, lent_of}
use Rattle.table_packing.proofs.Packed.{packed_examined}
use Rattle.arrival_times.specs.Asked.{asked_arrivals}
use Rattle.arrival_times.proofs.Telling.{told_refused}
use Rattle.arrival_times.proofs.calls.arrival_times.Goals as goal

pub returns-in-Err : goal.returns-in-Err
unfolding asked_arrivals
returns-in-Err c =
    let a = c.args in
    let lent : Lent = lent_of a.starts.now a.numbers.now a.times.now a.xs.now a.ys.now in
    let refused = sym (c.examine.ensures ∙ packed_examined lent _ _ _ _ _ c.pack-packed.ensures) ∙ c.in-Err.is in
    rw refused (told_refused c.wipe_times.ensures)
