-- `hint_following::follow::follow` meets its contract: a leg that is not followed adds no hint.
-- Assumes nothing.
use Rattle.std.proofs.Common.{rules}
use Rattle.hint_list.specs.Adding.{filled_of, laid_by}
use Rattle.hint_list.specs.Words.{laid}
use Rattle.hint_following.specs.Follow.{follow_hints}
use Rattle.hint_following.proofs.follow.follow.Goals as goal

pub returns-then-not-is_followed : goal.returns-then-not-is_followed
unfolding follow_hints filled_of laid_by laid
returns-then-not-is_followed c = search rules
