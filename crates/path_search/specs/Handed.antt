-- What trying a hint comes to, as the code hands it back: an ending and the pops, and in the lent chain the links that were found
-- (RULES 13.10 to 13.23).
-- Assumes nothing.
use Rattle.std.specs.Prelude.{ℕ, ◌≡◌, List}
use Rattle.std.specs.Prelude.{Option, Some, None}
use Rattle.path_search.specs.declared.tried.Ending.{Ending}
use Rattle.path_search.specs.declared.tried.Ending.TheVariants as E
use Rattle.path_search.specs.declared.tried.Tried.{Tried}
use Rattle.path_search.specs.Answer.{Chained, Way, NoWay, Refused}
use Rattle.path_search.specs.Links.{linked_by}
use Rattle.path_search.specs.Recursive as R
use Rattle.std.specs.Prelude.{Result, Ok, Err}
use Rattle.refusals.specs.declared.Refusal.{Refusal}

abbrev pub tried_to : Result Ending Refusal → ℕ → Tried
tried_to ending pops = record { ending = ending; pops = pops }

-- ---- A hint that was tried.

abbrev pub tried_of : R.Tried → Tried
tried_of (R.Found l p) = tried_to (Ok E.Found) p
tried_of (R.Blocked p) = tried_to (Ok E.Blocked) p
tried_of (R.Unreached p) = tried_to (Ok E.Unreached) p
tried_of (R.Stopped why p) = tried_to (Err why) p

-- Links that are found stand behind those that were there; where there are none the chain stays as it was.
abbrev pub chain_after : R.Tried → List ℕ → List ℕ
chain_after (R.Found l p) chain = linked_by chain l
chain_after (R.Blocked p) chain = chain
chain_after (R.Unreached p) chain = chain
chain_after (R.Stopped why p) chain = chain

pub record HandsTried (t : R.Tried) (lent left : List ℕ) (r : Tried) : Type 0 where
  pub answer : r ≡ tried_of t
  pub links : left ≡ chain_after t lent

-- ---- A whole search: no chain is an ending that does not reach.

abbrev pub end_of : Chained → R.Tried
end_of (Way l p) = R.Found l p
end_of (NoWay p) = R.Unreached p
end_of (Refused why p) = R.Stopped why p

abbrev pub HandsChain : Chained → List ℕ → List ℕ → Tried → Type 0
HandsChain answer lent left r = HandsTried (end_of answer) lent left r

-- The answer that an ending with the links of a chain tells of.
unfoldable pub chained_of : Tried → List ℕ → Chained
chained_of tried links = by tried.ending
  where
    by : Result Ending Refusal → Chained
    by (Ok E.Found) = Way links tried.pops
    by (Ok E.Blocked) = NoWay tried.pops
    by (Ok E.Unreached) = NoWay tried.pops
    by (Err why) = Refused why tried.pops
