-- `domain::beside::with_lent` meets its contract: what is told by its number is that refusal again.
-- Assumes nothing.
use Rattle.domain.proofs.Told.{lent_named}
use Rattle.domain.proofs.beside.with_lent.Goals as goal

pub returns : goal.returns
returns c =
    lent_named c.args.number c.args.found c.map_err.result c.with_lent_told.result c.map_err.ensures.cases c.with_lent_told.ensures
    c.map_err-2.ensures.cases
