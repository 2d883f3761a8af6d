-- `table_packing::packing::is_tiled` meets its contract: its two tests are the definition's.
-- Assumes nothing.
use Rattle.std.proofs.Common.{◌≡◌, ◌+◌, leb, length, rules, tests, ◌∙◌}
use borrow.Author.Tests.{eq-eqb}
use Rattle.lent.proofs.Ranges.{every_from_all}
use Rattle.table.specs.Lent.{start_in}
use Rattle.table.specs.Examined.{tiles}
use Rattle.table_packing.proofs.packing.is_tiled.Goals as goal

pub returns-then-start-eq0 : goal.returns-then-start-eq0
unfolding tiles
returns-then-start-eq0 c =
    let s = c.args.starts.now in
    let n = c.args.count in
    let first : start_in s n 0 ≡ c.start.result = search rules in
    rw (eq-eqb _ 0 (first ∙ c.if-start-eq0.true))
    (every_from_all (λ o. leb (start_in s n o) (start_in s n (o + 1))) (λ o. o) (length s) 0 c.all.ensures.ran (cc)
    (λ x t q k. search (rules, tests)))
