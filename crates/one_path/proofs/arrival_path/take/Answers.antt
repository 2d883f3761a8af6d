-- `one_path::arrival_path::take` meets its contract: by the ending of the search.
-- Assumes nothing.
use mathlib.Core.Path.{◌≡◌}
use Rattle.std.specs.Prelude.{Ok, ◌⊎◌}
use Rattle.std.proofs.Common.{rules, inl, inr}
use Rattle.path_search.specs.Handed.{chained_of}
use Rattle.path_search.specs.declared.tried.Ending.TheVariants as E
use Rattle.one_path.specs.Path.{taken}
use Rattle.one_path.proofs.Left.{put_missing}
use Rattle.one_path.proofs.arrival_path.take.Goals as goal

pub returns-in-Ok-Blocked : goal.returns-in-Ok-Blocked
unfolding taken chained_of
returns-in-Ok-Blocked c =
    let ending = c.args.tried.ending in
    let how : (ending ≡ Ok E.Blocked) ⊎ (ending ≡ Ok E.Unreached) = search rules in
    elim how [ inl e ↦ rw e (put_missing _) | inr e ↦ rw e (put_missing _) ]
