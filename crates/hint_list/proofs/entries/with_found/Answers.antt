-- `hint_list::entries::with_found` meets its contract: no wait adds no hint.
-- Assumes nothing.
use Rattle.std.proofs.Common.{rules}
use Rattle.hint_list.specs.Hints.{one_wait}
use Rattle.hint_list.specs.Adding.{filled_of, laid_by}
use Rattle.hint_list.specs.Words.{laid}
use Rattle.hint_list.proofs.entries.with_found.Goals as goal

pub returns-in-None : goal.returns-in-None
unfolding one_wait filled_of laid_by laid
returns-in-None c = search rules
