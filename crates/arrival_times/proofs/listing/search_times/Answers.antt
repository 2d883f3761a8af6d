-- `arrival_times::listing::search_times` meets its contract: at each turn the search from this candidate on gives the answer.
-- Assumes nothing.
use mathlib.Core.Path.{sym, ap, ◌∙◌}
use Rattle.std.proofs.Common.{rules}
use Rattle.std.specs.Prelude.{Ok}
use Rattle.arrival_times.proofs.Keeping.{kept_ends, kept_lists, kept_refused}
use Rattle.arrival_times.proofs.listing.search_times.Goals as goal

pub returns-in_err-turn : goal.returns-in_err-turn
returns-in_err-turn c = kept_refused c.loop-turn.invariant (sym c.turn_from.ensures ∙ c.in_err-turn.was) (search rules)

pub returns-in-Ends : goal.returns-in-Ends
returns-in-Ends c = kept_ends c.loop-turn.invariant (sym c.turn_from.ensures ∙ c.in_ok-turn.was ∙ ap Ok c.in-Ends.is)

pub returns-in-Lists : goal.returns-in-Lists
returns-in-Lists c =
    kept_lists c.loop-turn.invariant (sym c.turn_from.ensures ∙ c.in_ok-turn.was ∙ ap Ok c.in-Lists.is) c.put_time.ensures
