-- `domain::beside::with_numbers` meets its contract: what is told by its number is that refusal again.
-- Assumes nothing.
use Rattle.domain.specs.Beside.{with_numbers}
use Rattle.domain.proofs.Told.{numbers_named}
use Rattle.domain.proofs.beside.with_numbers.Goals as goal

pub returns-then-not-ok : goal.returns-then-not-ok
unfolding with_numbers
returns-then-not-ok c =
    rw c.if-not-ok.true
    (numbers_named c.args.found c.map_err.result c.with_numbers_told.result c.map_err.ensures.cases c.with_numbers_told.ensures
    c.map_err-then-not-ok.ensures.cases)

pub returns : goal.returns
unfolding with_numbers
returns c = rw c.if-not-ok.false
