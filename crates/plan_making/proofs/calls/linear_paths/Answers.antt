-- `plan_making::calls::linear_paths` meets its contract: the plan of the packed table is that of the lists.
-- Assumes nothing.
use Rattle.table.specs.Lent.{lent_of}
use Rattle.plan_making.proofs.Packed.{packed_plan}
use Rattle.plan_making.proofs.calls.linear_paths.Goals as goal

pub returns : goal.returns
returns c =
    let a = c.args in
    let lent = lent_of a.starts.now a.numbers.now a.times.now a.xs.now a.ys.now in
    rw (← packed_plan a.p a.agent a.budget lent _ _ _ c.pack-packed.ensures)
    c.plan_table.ensures
