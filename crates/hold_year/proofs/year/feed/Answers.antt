-- `hold_year::year::feed` meets its contract: a line that is refused ends the part.
-- Assumes nothing.
use borrow.Author.Rules.{rules}
use Rattle.hold_year.specs.Parts.{byte_fed}
use Rattle.hold_year.proofs.Going.{fed_next}
use Rattle.hold_year.proofs.year.feed.Goals as goal

pub returns-in-Err : goal.returns-in-Err
unfolding byte_fed
returns-in-Err c = search (rules, fed_next)
